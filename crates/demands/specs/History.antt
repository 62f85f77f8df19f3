-- Schedules of words, the stores that a schedule may start from, and what a schedule does as a whole.
use Rattle.std.specs.Prelude.{◌≡◌, true, List, [], ◌∷◌, ℕ}
use Rattle.meaning.specs.Limits.{in_limits}
use Rattle.meaning.specs.Store.{Store, fresh}
use Rattle.meaning.specs.Call.{Reply, Entry}
use Rattle.meaning.specs.Schedule as schedule
use Rattle.meaning.specs.Schedule.{Words, Operation, Answered}

-- all numbers of all entries are words
abbrev pub AllWords : List Entry → Type 0
AllWords [] = Unit {0}
AllWords (e ∷ w) = Words e × AllWords w

-- a store that a format in limits makes
pub data FreshStore : Store → Type 0 where
  in-limits : (t n p d : ℕ) → in_limits t n p d ≡ true → FreshStore (fresh t n p d)

-- what a schedule does: the store that it leaves, its numbers and values, the operations in the order of their last locks, and for each
-- thread what it has begun and what it has finished
pub record History : Type 0 where
  pub left : Store
  pub replies : List (ℕ × ℕ)
  pub order : List Operation
  pub begun : ℕ → List Operation
  pub finished : ℕ → List Answered

abbrev pub history : {S : Type 0} → (S → Entry → Reply S) → (S → Store) → S → List Entry → History
history call seen s w =
    record {
      left = seen (schedule.run call s w);
      replies = schedule.replies call s w;
      order = schedule.order call seen s w;
      begun = λ t. schedule.begun_by call seen s t w;
      finished = λ t. schedule.finished_by call seen s t w;
    }
