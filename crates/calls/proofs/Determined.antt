-- No two outcomes satisfy an exported contract: number, value and every byte after the call are determined, for every area of every
-- length and all arguments. Assumes nothing.
use mathlib.Core.List.{List}
use mathlib.Core.Path.{◌≡◌, refl, ◌∙◌, sym, ap}
use Prim.Native.Nat.{ℕ}
use Rattle.meaning.specs.Call.{Reply}
use lib.Dec.{eqb}
use mathlib.Core.Bool.{cond}
use Rattle.std.specs.Prelude.{Result, Ok, Err}
use Rattle.meaning.specs.Numbers.{WENT, FINISHED, BLOCKED, SHAPE, THREAD, BUSY, IDLE, LOGICAL, OPERATION, FAULT}
use Rattle.calls.specs.declared.Accepted.{Accepted}
use Rattle.calls.specs.declared.Accepted.TheVariants.{Went, Finished, Blocked}
use Rattle.calls.specs.declared.Refusal.{Refusal}
use Rattle.calls.specs.declared.Refusal.TheVariants as refusals
use Rattle.calls.specs.Answering.{number_of, value_of, answered}
use Rattle.calls.specs.Means.{Replied, FormatMeans, BeginMeans, StepMeans}

replied_determined : (reply : Reply (List ℕ)) (r r' : ℕ) (b b' : List ℕ) → Replied reply r b → Replied reply r' b' → (r ≡ r') × (b ≡ b')
replied_determined reply r r' b b' g g' = (g.0 ∙ sym g'.0, g.1 ∙ sym g'.1)

pub format_determined :
    (a : List ℕ) (t n p d r r' : ℕ) (b b' : List ℕ) → FormatMeans a t n p d r b → FormatMeans a t n p d r' b' → (r ≡ r') × (b ≡ b')
format_determined a t n p d r r' b b' g g' = replied_determined _ r r' b b' g g'

pub begin_determined :
    (a : List ℕ) (thread op n c r r' : ℕ) (b b' : List ℕ) → BeginMeans a thread op n c r b → BeginMeans a thread op n c r' b' →
    (r ≡ r') × (b ≡ b')
begin_determined a thread op n c r r' b b' g g' = replied_determined _ r r' b b' g g'

pub step_determined :
    (a : List ℕ) (thread r r' : ℕ) (b b' : List ℕ) → StepMeans a thread r b → StepMeans a thread r' b' → (r ≡ r') × (b ≡ b')
step_determined a thread r r' b b' g g' = replied_determined _ r r' b b' g g'

-- ---- the same of the calls that answer a Result

-- the refusal that has the number
abbrev refusal_of : ℕ → Refusal
refusal_of n =
    cond (eqb n SHAPE) refusals.Shape
    (cond (eqb n THREAD) refusals.Thread
    (cond (eqb n BUSY) refusals.Busy
    (cond (eqb n IDLE) refusals.Idle
    (cond (eqb n LOGICAL) refusals.Logical
    (cond (eqb n OPERATION) refusals.Operation
    (cond (eqb n FAULT) refusals.Fault refusals.Limits))))))

-- the answer that has the number and the value
abbrev answer_of : ℕ → ℕ → Result Accepted Refusal
answer_of n v =
    cond (eqb n WENT) (Ok Went)
    (cond (eqb n FINISHED) (Ok (Finished v))
    (cond (eqb n BLOCKED) (Ok Blocked) (Err (refusal_of n))))

answer_same : (x : Result Accepted Refusal) → answer_of (number_of x) (value_of x) ≡ x
answer_same (Ok Went) = refl
answer_same (Ok (Finished v)) = refl
answer_same (Ok Blocked) = refl
answer_same (Err refusals.Shape) = refl
answer_same (Err refusals.Thread) = refl
answer_same (Err refusals.Busy) = refl
answer_same (Err refusals.Idle) = refl
answer_same (Err refusals.Logical) = refl
answer_same (Err refusals.Operation) = refl
answer_same (Err refusals.Fault) = refl
answer_same (Err refusals.Limits) = refl

pub answered_determined :
    (reply : Reply (List ℕ)) (x x' : Result Accepted Refusal) (b b' : List ℕ) → answered x b ≡ reply → answered x' b' ≡ reply →
    (x ≡ x') × (b ≡ b')
answered_determined reply x x' b b' g g' =
    let e = g ∙ sym g' in
    (sym (answer_same x) ∙ ap (λ r. answer_of r.number r.value) e ∙ answer_same x', ap (λ r. r.after) e)
