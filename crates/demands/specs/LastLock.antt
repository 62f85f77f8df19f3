-- What demand 3, second half, over areas says of a thread that has taken its operation's last lock.
use Rattle.std.specs.Prelude.{◌≡◌, true, List, ℕ}
use Rattle.meaning.specs.Schedule.{AtTake, placed}
use Rattle.store.specs.Area.{decode}
use Rattle.demands.specs.RefusalTables.{CanStep}

-- its operation has its place, its next line takes no lock, and it can step
pub record TakesNoMore (a : List ℕ) (t : ℕ) : Type 0 where
  pub place : placed (decode a) ((decode a).thread t) ≡ true
  pub no_take : AtTake ((decode a).thread t) → ⊥
  pub can_step : CanStep a t
