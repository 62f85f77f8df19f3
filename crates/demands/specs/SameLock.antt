-- What demand 3, first half, over areas speaks of: two threads at a take of one lock, and steps that may go in either order.
use Rattle.std.specs.Prelude.{◌≡◌, List, ℕ}
use Rattle.meaning.specs.declared.Kind.{Kind}
use Rattle.meaning.specs.declared.Kind.TheVariants.{Reader}
use Rattle.meaning.specs.declared.Act.TheVariants.{TakeH, TakeN}
use Rattle.meaning.specs.declared.Thread.{Thread}
use Rattle.meaning.specs.Schedule.{next_act}
use Rattle.store.specs.Calls.{step_area}

-- the next lines of two threads with these records take the same lock, unless both take it for reading: H, at W1, U1 and L1, or the lock of one
-- number, at W2, R1, U2 and L6, of which R1 takes it for reading
pub data SameLock (r q : Thread) : Type 0 where
  both_h : next_act r ≡ TakeH → next_act q ≡ TakeH → SameLock r q
  both_n : (κ κ' : Kind) → next_act r ≡ TakeN κ → next_act q ≡ TakeN κ' → r.n ≡ q.n → ((κ ≡ Reader) × (κ' ≡ Reader) → ⊥) → SameLock r q

-- t and u step in either order: each answers after the other what it answers before, and the bytes at the end are the same
pub record EitherOrder (a : List ℕ) (t u : ℕ) : Type 0 where
  pub number : (step_area (step_area a u).after t).number ≡ (step_area a t).number
  pub value : (step_area (step_area a u).after t).value ≡ (step_area a t).value
  pub other_number : (step_area (step_area a t).after u).number ≡ (step_area a u).number
  pub other_value : (step_area (step_area a t).after u).value ≡ (step_area a u).value
  pub after : (step_area (step_area a t).after u).after ≡ (step_area (step_area a u).after t).after
