-- begin and step on a store, as 01, "Numbers given back", orders their refusals. What a call comes to is an outcome; a reply is its
-- number, its value and what it left, of a store or of an area of bytes: a refused or blocked call leaves what it was given.
use Rattle.std.specs.Prelude.{Bool, not, cond, ◌||◌, ℕ, eqb, ltb}
use Rattle.meaning.specs.declared.Thread.{Thread}
use Rattle.meaning.specs.declared.Verdict.{Verdict}
use Rattle.meaning.specs.declared.Verdict.TheVariants.{Blocked, Fault, Go, Done}
use Rattle.meaning.specs.Numbers.{WENT, FINISHED, BLOCKED, THREAD, BUSY, IDLE, LOGICAL, OPERATION, FAULT}
use Rattle.meaning.specs.Limits.{within}
use Rattle.meaning.specs.Store.{Store, idle}
use Rattle.meaning.specs.Programs.{WRITE, LEVEL}
use Rattle.meaning.specs.Step.{nothing, verdict, apply}

pub data Outcome : Type 0 where
  refused : ℕ → Outcome
  left : ℕ → ℕ → Store → Outcome

pub record Reply (S : Type 0) : Type 0 where
  pub number : ℕ
  pub value : ℕ
  pub after : S

-- the reply of a call on x, where a store is kept as an S by `keep`
abbrev pub reply : {S : Type 0} → (Store → S) → S → Outcome → Reply S
reply keep x (refused number) = record { number = number; value = 0; after = x }
reply keep x (left number value s) = record { number = number; value = value; after = keep s }

-- refused by the number where the test doesn't hold
abbrev pub check : Bool → ℕ → Outcome → Outcome
check holds number o = cond holds o (refused number)

-- ---- begin

abbrev pub is_idle : Thread → Bool
is_idle r = eqb r.op 0

-- 01, the end of "Sizes and the store area": c is kept for a write alone, n for all but a levelling
abbrev pub stored_n : ℕ → ℕ → ℕ
stored_n op n = cond (eqb op LEVEL) 0 n

abbrev pub stored_c : ℕ → ℕ → ℕ
stored_c op c = cond (eqb op WRITE) c 0

abbrev pub begun : ℕ → ℕ → ℕ → Thread
begun op n c = record { op = op; line = 1; n = stored_n op n; c = stored_c op c; p = 0; q = 0; h = 0 }

abbrev pub beginning : Store → ℕ → ℕ → ℕ → ℕ → Outcome
beginning s t op n c =
    check (ltb t s.threads) THREAD
    (check (is_idle (s.thread t)) BUSY
    (check (within WRITE LEVEL op) OPERATION
    (check (eqb op LEVEL || ltb n s.numbers) LOGICAL
    (left WENT 0 (apply s t (begun op n c) nothing)))))

-- ---- step

-- 01, "Choosing": what is left of a finished operation is an idle record
abbrev pub told : Store → ℕ → Verdict → Outcome
told s t Blocked = refused BLOCKED
told s t Fault = refused FAULT
told s t (Go r e) = left WENT 0 (apply s t r e)
told s t (Done v e) = left FINISHED v (apply s t idle e)

abbrev pub stepping : Store → ℕ → Outcome
stepping s t =
    check (ltb t s.threads) THREAD
    (check (not (is_idle (s.thread t))) IDLE
    (told s t (verdict s t)))

-- ---- either

-- 01, "The machine": an entry of a schedule, with its thread first; a begin has operation, logical number and word besides
pub data Entry : Type 0 where
  begin : ℕ → ℕ → ℕ → ℕ → Entry
  step : ℕ → Entry

abbrev pub calling : Store → Entry → Outcome
calling s (begin t op n c) = beginning s t op n c
calling s (step t) = stepping s t

abbrev pub call_store : Store → Entry → Reply Store
call_store s e = reply (λ s'. s') s (calling s e)
