-- Wear and answers, said without `perform`: 01, where U7 and L13 count one erase of p, up to 4,294,967,295 and no further, and what an operation
-- finishes with; 02, §1, where W3 counts one of the block that it finds its number mapped to. Of every store, grown from fresh or made by hand.
use Rattle.std.specs.Prelude.{◌≡◌, Bool, false, cond, ◌&&◌, ◌||◌, ℕ, ◌+◌, eqb, ltb}
use Rattle.meaning.specs.declared.Thread.{Thread}
use Rattle.meaning.specs.Numbers.{WENT}
use Rattle.meaning.specs.Limits.{most_word}
use Rattle.meaning.specs.Store.{Store}
use Rattle.meaning.specs.Holding.{free, naming}
use Rattle.meaning.specs.Programs.{WRITE, READ, UNMAP, LEVEL}
use Rattle.meaning.specs.Call.{Entry, begin, step}

-- U7 and L13, the lines at which a thread frees the block in register p
abbrev pub freeing : Thread → Bool
freeing r = eqb r.op UNMAP && eqb r.line 7 || eqb r.op LEVEL && eqb r.line 13

-- W3, the line at which a write looks its number up: where that is mapped, its block is to be rewritten
abbrev pub rewriting : Thread → Bool
rewriting r = eqb r.op WRITE && eqb r.line 3

-- the line of a thread of s with record r is one that erases block m
abbrev pub erasing : Store → Thread → ℕ → Bool
erasing s r m = freeing r && eqb r.p m || rewriting r && eqb (s.map r.n) (naming m)

-- the call that entry e makes of s, and that gives this number, erases block m
abbrev pub erases : Store → Entry → ℕ → ℕ → Bool
erases s (begin t op n c) number m = false
erases s (step t) number m = eqb number WENT && erasing s (s.thread t) m

-- each block's wear is up by one where the call erases the block, unless it is the largest word, and else as it was
abbrev pub WearCounts : Store → Store → Entry → ℕ → Type 0
WearCounts s s' e number =
    (m : ℕ) → s'.wear m ≡ cond (erases s e number m && ltb (s.wear m) most_word) (s.wear m + 1) (s.wear m)

-- what the operation of a thread at its last line finishes with: c at R6, 0 or 1 at L18, by register h, and 0 at W16 and
-- U11
abbrev pub finishes_with : Thread → ℕ
finishes_with r = cond (eqb r.op READ) r.c (cond (eqb r.op LEVEL) (cond (free r.h) 0 1) 0)
