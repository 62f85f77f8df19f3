-- 01, "A line's needs", with readers and writers as 02, §3, has them, a row for each of the 51 lines, as samples: areas made by hand that have what
-- the line needs, and such that lack one thing of it. All else is free in them, or all else is the thread's: the other blocks, the locks, the
-- headers.
use Rattle.std.specs.Prelude.{List, [], ◌∷◌, ◌++◌, map, ℕ, suc, ◌+◌, ◌*◌, set}
use Rattle.meaning.specs.Numbers.{WENT, FINISHED, BLOCKED, FAULT}
use Rattle.meaning.specs.Programs.{WRITE, READ, UNMAP, LEVEL}
use Rattle.store.specs.Layout.{lock_at, owner_at, locks_at, blocks_at, block_words}
use Rattle.store.specs.Area.{bytes}
use Rattle.store.specs.Calls.{step_area}

-- ---- the areas

-- the blocks in registers p and q
abbrev pub in_p : ℕ
in_p = 1

abbrev pub in_q : ℕ
in_q = 2

-- an area of two threads, one number and three blocks. Thread 0 stands at a line, with 0, 1 and 2 in n, p and q. H, the headers' owner and all
-- headers are w: 0 for free, or 1, so that H and the headers are thread 0's and the blocks number 0's. The number's lock and the blocks' owners are
-- x: 0 for free, or 65,536 where thread 0 writes
abbrev pub made : ℕ → ℕ → ℕ → ℕ → List ℕ
made w x op line =
    2 ∷ 1 ∷ 3 ∷ 1 ∷ w ∷ w  -- the four sizes, H and the headers' owner
    ∷ op ∷ line ∷ 0 ∷ 0 ∷ in_p ∷ in_q ∷ 0  -- thread 0
    ∷ 0 ∷ 0 ∷ 0 ∷ 0 ∷ 0 ∷ 0 ∷ 0  -- thread 1 is idle
    ∷ 0 ∷ x  -- number 0 is unmapped; its lock
    ∷ w ∷ 0 ∷ 0 ∷ x  -- block 0
    ∷ w ∷ 0 ∷ 0 ∷ x  -- block 1, p
    ∷ w ∷ 0 ∷ 0 ∷ x  -- block 2, q
    ∷ []

-- where the lock of number 0 stands, and a block's header and owner
abbrev pub lock_of_at : ℕ
lock_of_at = locks_at 2 1

abbrev pub header_at : ℕ → ℕ
header_at m = blocks_at 2 1 + block_words * m

abbrev pub own_at : ℕ → ℕ
own_at m = header_at m + 3

-- places, and the words that stand there
abbrev pub Written : Type 0
Written = List (ℕ × ℕ)

abbrev pub with : List ℕ → Written → List ℕ
with a [] = a
with a (x ∷ l) = with (set a x.0 x.1) l

-- ---- samples of a need

-- a need, by words: those with each of which it is met, and those with each of which it isn't
pub record Sample : Type 0 where
  pub having : List Written
  pub lacking : List Written

-- these words at a place, one at a time
abbrev pub each : ℕ → List ℕ → List Written
each at = map (λ w. (at, w) ∷ [])

abbrev pub sample : ℕ → List ℕ → List ℕ → Sample
sample at having lacking = record { having = each at having; lacking = each at lacking }

-- H or the headers, held or owned by this thread: not by nobody, and not by thread 1
abbrev pub held : ℕ → Sample
held at = sample at (1 ∷ []) (0 ∷ 2 ∷ [])

-- and by nobody: not by this thread, and not by thread 1
abbrev pub nobodys : ℕ → Sample
nobodys at = sample at (0 ∷ []) (1 ∷ 2 ∷ [])

-- the number's lock or a block: 1 is this thread's place in the set, 2 thread 1's, 3 both; 65,536 is this thread's writing, 131,072 thread 1's.
-- A reader is let in beside thread 1's reading, a writer where nobody has it. All these words at the lines of a read and of a write are in Listening
-- of the crate cases
abbrev pub lets_reader : ℕ → Sample
lets_reader at = sample at (2 ∷ []) (3 ∷ 131072 ∷ [])

abbrev pub lets_writer : ℕ → Sample
lets_writer at = sample at (0 ∷ []) (1 ∷ 2 ∷ 65536 ∷ [])

-- this thread reads it, whoever else does; it writes it; it does either
abbrev pub read : ℕ → Sample
read at = sample at (3 ∷ []) (2 ∷ 65536 ∷ [])

abbrev pub written : ℕ → Sample
written at = sample at (65536 ∷ []) (0 ∷ 1 ∷ 131072 ∷ [])

abbrev pub read_or_written : ℕ → Sample
read_or_written at = sample at (3 ∷ 65536 ∷ []) (2 ∷ 131072 ∷ [])

-- a header that is not free
abbrev pub used : ℕ → Sample
used m = sample (header_at m) (1 ∷ []) (0 ∷ [])

-- some free block, here the last
abbrev pub some_free : Sample
some_free =
    record {
      having = ((header_at 0, 1) ∷ (header_at 1, 1) ∷ (header_at 2, 0) ∷ []) ∷ [];
      lacking = ((header_at 0, 1) ∷ (header_at 1, 1) ∷ (header_at 2, 1) ∷ []) ∷ [];
    }

-- what a line needs, the number of its step where all of that is met, and the number where one need isn't
pub record Row : Type 0 where
  pub samples : List Sample
  pub number : ℕ
  pub otherwise : ℕ

abbrev pub goes : List Sample → Row
goes samples = record { samples = samples; number = WENT; otherwise = FAULT }

abbrev pub finishes : List Sample → Row
finishes samples = record { samples = samples; number = FINISHED; otherwise = FAULT }

abbrev pub takes : Sample → Row
takes lets = record { samples = lets ∷ []; number = WENT; otherwise = BLOCKED }

-- 01, "A line's needs", with 02, §3: of the lines that write a content or read one, and of those that write a header
abbrev pub content_needs : ℕ → List Sample
content_needs m = written (own_at m) ∷ used m ∷ []

abbrev pub reading_needs : ℕ → List Sample
reading_needs m = read_or_written (own_at m) ∷ used m ∷ []

abbrev pub header_needs : ℕ → List Sample
header_needs m = held owner_at ∷ written (own_at m) ∷ []

-- ---- the rows, in the lines' order

abbrev pub write_needs : List Row
write_needs =
    takes (nobodys lock_at)  -- W1
    ∷ takes (lets_writer lock_of_at)  -- W2
    ∷ goes []  -- W3
    ∷ goes (nobodys owner_at ∷ [])  -- W4
    ∷ goes (held owner_at ∷ some_free ∷ [])  -- W5
    ∷ goes (lets_writer (own_at in_p) ∷ [])  -- W6
    ∷ goes (header_needs in_p)  -- W7
    ∷ goes (content_needs in_p)  -- W8
    ∷ goes (written (own_at in_p) ∷ [])  -- W9
    ∷ goes []  -- W10
    ∷ goes (held owner_at ∷ [])  -- W11
    ∷ goes (held lock_at ∷ [])  -- W12
    ∷ goes (lets_writer (own_at in_p) ∷ [])  -- W13
    ∷ goes (content_needs in_p)  -- W14
    ∷ goes (written (own_at in_p) ∷ [])  -- W15
    ∷ finishes (written lock_of_at ∷ [])  -- W16
    ∷ []

abbrev pub read_needs : List Row
read_needs =
    takes (lets_reader lock_of_at)  -- R1
    ∷ goes []  -- R2
    ∷ goes (lets_reader (own_at in_p) ∷ [])  -- R3
    ∷ goes (reading_needs in_p)  -- R4
    ∷ goes (read (own_at in_p) ∷ [])  -- R5
    ∷ finishes (read lock_of_at ∷ [])  -- R6
    ∷ []

abbrev pub unmap_needs : List Row
unmap_needs =
    takes (nobodys lock_at)  -- U1
    ∷ takes (lets_writer lock_of_at)  -- U2
    ∷ goes []  -- U3
    ∷ goes (nobodys owner_at ∷ [])  -- U4
    ∷ goes (lets_writer (own_at in_p) ∷ [])  -- U5
    ∷ goes []  -- U6
    ∷ goes (header_needs in_p)  -- U7
    ∷ goes (written (own_at in_p) ∷ [])  -- U8
    ∷ goes (held owner_at ∷ [])  -- U9
    ∷ goes (written lock_of_at ∷ [])  -- U10
    ∷ finishes (held lock_at ∷ [])  -- U11
    ∷ []

abbrev pub level_needs : List Row
level_needs =
    takes (nobodys lock_at)  -- L1
    ∷ goes (nobodys owner_at ∷ [])  -- L2
    ∷ goes (held owner_at ∷ some_free ∷ [])  -- L3
    ∷ goes (held owner_at ∷ [])  -- L4
    ∷ goes []  -- L5
    ∷ takes (lets_writer lock_of_at)  -- L6
    ∷ goes (lets_writer (own_at in_p) ∷ [])  -- L7
    ∷ goes (reading_needs in_p)  -- L8
    ∷ goes (lets_writer (own_at in_q) ∷ [])  -- L9
    ∷ goes (header_needs in_q)  -- L10
    ∷ goes (content_needs in_q)  -- L11
    ∷ goes []  -- L12
    ∷ goes (header_needs in_p)  -- L13
    ∷ goes (written (own_at in_q) ∷ [])  -- L14
    ∷ goes (written (own_at in_p) ∷ [])  -- L15
    ∷ goes (written lock_of_at ∷ [])  -- L16
    ∷ goes (held owner_at ∷ [])  -- L17
    ∷ finishes (held lock_at ∷ [])  -- L18
    ∷ []

-- the four programs' rows
unfoldable pub line_needs : List (ℕ × List Row)
line_needs = (WRITE, write_needs) ∷ (READ, read_needs) ∷ (UNMAP, unmap_needs) ∷ (LEVEL, level_needs) ∷ []

-- ---- what the lines give

-- each of the first with each of the second
abbrev pub pairs : List Written → List Written → List Written
pairs [] l = []
pairs (x ∷ k) l = map (λ y. x ++ y) l ++ pairs k l

-- the words with each of which all needs are met, and those with each of which one isn't and the others are
abbrev pub having_all : List Sample → List Written
having_all [] = [] ∷ []
having_all (x ∷ l) = pairs x.having (having_all l)

abbrev pub lacking_one : List Sample → List Written
lacking_one [] = []
lacking_one (x ∷ l) = pairs x.lacking (having_all l) ++ pairs x.having (lacking_one l)

-- the numbers of a line's step, all else with the words w and x: with all needs met, and with one unmet
abbrev pub gives : ℕ → ℕ → ℕ → ℕ → Row → List ℕ
gives w x op line r = map (λ y. (step_area (bytes (with (made w x op line) y)) 0).number) (having_all r.samples ++ lacking_one r.samples)

-- what they must be
abbrev pub wanted : Row → List ℕ
wanted r = map (λ y. r.number) (having_all r.samples) ++ map (λ y. r.otherwise) (lacking_one r.samples)

-- of the lines of a program from this one on
abbrev pub gives_from : ℕ → ℕ → ℕ → ℕ → List Row → List (List ℕ)
gives_from w x op line [] = []
gives_from w x op line (r ∷ l) = gives w x op line r ∷ gives_from w x op (suc line) l

-- of all programs
abbrev pub all_given : ℕ → ℕ → List (List (List ℕ))
all_given w x = map (λ y. gives_from w x y.0 1 y.1) line_needs

abbrev pub all_wanted : List (List (List ℕ))
all_wanted = map (λ x. map wanted x.1) line_needs
