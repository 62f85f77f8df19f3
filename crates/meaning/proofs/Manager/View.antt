-- What a store says of the atomic manager of specs/Manager, whatever threads are at work in it: what will become of each number (is it
-- mapped, and what does it hold), `future`, and which answer a thread that has taken its last lock has still to get, `owing`. A writer, reader or
-- unmapper takes its last lock, n's, at W2, R1 and U2, and holds it while it works on n: so where n's lock has a writer, what will become of n
-- is what that thread's operation leaves there, and nobody else changes it. Where nobody writes it is what the map and n's block say.
-- Definitions only. Assumes nothing.
use mathlib.Core.Bool.{Bool, true, false, cond, ◌&&◌, not}
use mathlib.Core.List.{List, []}
use Prim.Native.Nat.{ℕ}
use lib.Dec.{eqb}
use Rattle.meaning.specs.declared.Thread.{Thread}
use Rattle.meaning.specs.Store.{Store}
use Rattle.meaning.specs.Holding.{unwritten, writer}
use Rattle.meaning.specs.Programs.{WRITE, READ, LEVEL}
use Rattle.meaning.specs.Manager.{Manager, empty, ebm_read}
use Rattle.meaning.specs.Schedule.{Answered, emit}
use Rattle.meaning.specs.Demands.{is_number_mapped, kept}
use Rattle.meaning.proofs.Invariant.{◌–◌, never, row, holds_n, takes_n}

-- of a number: whether it is mapped, and what it holds, which is empty where it is not
pub record Status : Type 0 where
  pub mapped : Bool
  pub content : ℕ

-- as a store has it, and as the manager does
abbrev pub status : Store → ℕ → Status
status s k = record { mapped = is_number_mapped s k; content = kept s k }

abbrev pub asked : ℕ → Manager → Status
asked k m = record { mapped = m.mapped k; content = ebm_read k m }

-- what an operation with word c leaves of its number, of which it found x
abbrev pub leaves : ℕ → ℕ → Status → Status
leaves op c x =
    cond (eqb op LEVEL) x
    (cond (eqb op WRITE) (record { mapped = true; content = c })
    (cond (eqb op READ) x (record { mapped = false; content = empty })))

-- what will become of number n of record r, if x is so now
abbrev pub promised : Thread → Status → Status
promised r x = cond (holds_n r) (leaves r.op r.c x) x

-- what will become of number k: the thread that writes its lock, if any, decides
abbrev pub future : Store → ℕ → Status
future s k =
    cond (unwritten (s.locks k)) (status s k)
    (leaves (s.thread (writer (s.locks k))).op (s.thread (writer (s.locks k))).c (status s k))

-- ---- an operation of the manager's: write, read, unmap, and no levelling

-- it has its last lock
abbrev pub owes : Thread → Bool
owes = row (3 – 16) (2 – 6) (3 – 11) never

-- its next step, if it goes, takes its last lock
abbrev pub places : Thread → Bool
places r = not (eqb r.op LEVEL) && takes_n r

-- the answer to r's operation where its number's content is x
abbrev pub answered : Thread → ℕ → Answered
answered r x = record { op = r.op; value = cond (eqb r.op READ) x 0 }

-- what is owed to record r, and to thread u
abbrev pub due : Store → Thread → List Answered
due s r = emit (owes r) (answered r (kept s r.n)) []

abbrev pub owing : Store → ℕ → List Answered
owing s u = due s (s.thread u)
