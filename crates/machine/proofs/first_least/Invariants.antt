-- What was found has the least key of the blocks passed, whatever the keys rank.
use Rattle.std.proofs.Common.{Bool, ℕ}
use Rattle.machine.specs.Judging.{Ranks}
use Rattle.machine.proofs.Search.{Leads}
use Rattle.machine.proofs.first_least.Given as goal

abbrev pub invariant-loop-k : goal.invariant-loop-k
invariant-loop-k g l =
    (eligible : ℕ → Bool) (beats : ℕ → ℕ → Bool) → Ranks (goal.F-post g l.key) eligible beats l.blocks →
    Leads (goal.F-post g l.key) eligible beats l.k l.at l.least
