-- 01, "Sizes and the store area": where each word of the area stands, counted in words from 0. No layout number stands elsewhere.
use Rattle.std.specs.Prelude.{ℕ, ◌+◌, ◌*◌}
use Rattle.meaning.specs.Limits.{most_threads, most_numbers, most_blocks}

-- the four sizes, H and the headers' owner
abbrev pub t_at : ℕ
t_at = 0

abbrev pub n_at : ℕ
n_at = 1

abbrev pub p_at : ℕ
p_at = 2

abbrev pub d_at : ℕ
d_at = 3

abbrev pub lock_at : ℕ
lock_at = 4

abbrev pub owner_at : ℕ
owner_at = 5

-- a record for each thread: operation and line, then registers n, c, p, q, h
abbrev pub threads_at : ℕ
threads_at = 6

abbrev pub thread_words : ℕ
thread_words = 7

-- the map, then the block locks, a word for each number
abbrev pub map_at : ℕ → ℕ
map_at t = threads_at + thread_words * t

abbrev pub locks_at : ℕ → ℕ → ℕ
locks_at t n = map_at t + n

-- a record for each block: header, content, wear and owner
abbrev pub blocks_at : ℕ → ℕ → ℕ
blocks_at t n = locks_at t n + n

abbrev pub block_words : ℕ
block_words = 4

abbrev pub area_words : ℕ → ℕ → ℕ → ℕ
area_words t n p = blocks_at t n + block_words * p

-- in bytes: 4(6 + 7T + 2N + 4P)
abbrev pub size : ℕ → ℕ → ℕ → ℕ
size t n p = 4 * area_words t n p

-- "10,712 at most": with all sizes at their limits
abbrev pub largest : ℕ
largest = size most_threads most_numbers most_blocks
