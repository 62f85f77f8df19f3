-- 01, "Sizes and the store area", its first paragraph. The code's constants for these are those of the type `store::Store`.
use Rattle.std.specs.Prelude.{Bool, ◌&&◌, ℕ, ◌+◌, leb}

-- each size is at least 1, and P is at least N + 1
abbrev pub least : ℕ
least = 1

-- a set of readers has a bit for each thread, and 16 bits (Holding)
abbrev pub most_threads : ℕ
most_threads = 16

abbrev pub most_numbers : ℕ
most_numbers = 256

abbrev pub most_blocks : ℕ
most_blocks = 512

abbrev pub most_distance : ℕ
most_distance = 1000

-- the largest word: a lock, a content and a wear are words
abbrev pub most_word : ℕ
most_word = 4294967295

abbrev pub within : ℕ → ℕ → ℕ → Bool
within low high x = leb low x && leb x high

-- T, N, P and D are in their limits
abbrev pub in_limits : ℕ → ℕ → ℕ → ℕ → Bool
in_limits t n p d =
    within least most_threads t && within least most_numbers n && within (n + 1) most_blocks p && within least most_distance d
