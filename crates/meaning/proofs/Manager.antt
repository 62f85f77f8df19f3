-- The atomic manager, over stores (demand 2): obeying the operations in the order of their last locks, it answers each thread what its
-- reads, writes and unmaps have finished with, and at most one answer more, which is owed (`manager-answers`); and every schedule from
-- fresh is linearizable (`linearizable`). To be read in this order:
--  * View: what a store says of the manager. Definitions only; what the lines show (Lines) speaks of them too.
--  * Laws: the manager itself, over lists of operations.
--  * Step: what one step does to what a store says.
--  * Answers: call by call, the manager answers what the machine answers and has what the store says.
--  * Linearizable: what a user of the layer may rely on. How the definition of Herlihy and Wing is met stands at its head.
--  * Samples: operations that overlap, computed.
-- Assumes nothing.
pub mod View
pub mod Laws
pub mod Step
pub mod Answers
pub mod Linearizable
pub mod Samples
use mathlib.Core.Path.{◌≡◌, sym, ap, ◌∙◌}
use mathlib.Core.Bool.{true}
use mathlib.Core.List.{List, ◌++◌}
use Prim.Native.Nat.{ℕ}
use Rattle.meaning.specs.Limits.{in_limits}
use Rattle.meaning.specs.Store.{fresh}
use Rattle.meaning.specs.Call.{Entry, call_store}
use Rattle.meaning.specs.Schedule.{run, finished_by, of_manager}
use Rattle.meaning.specs.Demands.{ManagerAnswers, Linearizes}
use Rattle.meaning.proofs.Progress.{inv-fresh, inv-run}
use Rattle.meaning.proofs.Manager.Answers.{of_manager-append, owing-owed, manager-owing}
use Rattle.meaning.proofs.Manager.Linearizable.{requests-begun, real_time}

module _ (t n p d : ℕ) (limits : in_limits t n p d ≡ true) (w : List Entry) where
  pub manager-answers : (u : ℕ) → ManagerAnswers call_store (λ s. s) (fresh t n p d) w u
  manager-answers u =
      let fin = finished_by call_store (λ s. s) (fresh t n p d) u w in
      let o = owing-owed (run call_store (fresh t n p d) w) (inv-run (fresh t n p d) (inv-fresh t n p d limits) w) u in
      record {
        rest_owed = o.0;
        owed = o.1;
        answers = manager-owing t n p d limits w u ∙ ap (λ l. of_manager fin ++ l) o.2 ∙ sym (of_manager-append fin o.0);
      }

  pub linearizable : Linearizes call_store (λ s. s) (fresh t n p d) w
  linearizable =
      record {
        asks = requests-begun t n p d limits w;
        answers = manager-answers;
        real_time =
            λ v v' split u i u' i' finished unbegun. rw (← split) (real_time t n p d limits v v' u i u' i' finished unbegun);
      }
