-- 01, "Numbers given back": the table, each number named once. The code's numbers for these are those of the enums of `crates/calls/src/lib.rt`.
use Rattle.std.specs.Prelude.{ℕ, ◌+◌, ◌*◌}

abbrev pub WENT : ℕ
WENT = 0

abbrev pub FINISHED : ℕ
FINISHED = 1

abbrev pub BLOCKED : ℕ
BLOCKED = 2

abbrev pub SHAPE : ℕ
SHAPE = 10

abbrev pub THREAD : ℕ
THREAD = 11

abbrev pub BUSY : ℕ
BUSY = 12

abbrev pub IDLE : ℕ
IDLE = 13

abbrev pub LOGICAL : ℕ
LOGICAL = 14

abbrev pub OPERATION : ℕ
OPERATION = 15

abbrev pub FAULT : ℕ
FAULT = 16

abbrev pub LIMITS : ℕ
LIMITS = 17

-- 01, the end of "Numbers given back": both in one word of 64 bits
abbrev pub packed : ℕ → ℕ → ℕ
packed number value = number * 4294967296 + value
