-- None of the blocks passed is free.
use Rattle.std.proofs.Common.{◌≡◌, ◌-◌, ◌≤◌}
use Rattle.meaning.specs.Choosing.{lowest_free}
use Rattle.store.specs.Live.{table}
use Rattle.machine.proofs.lowest_free.Given as goal

abbrev pub invariant-loop-k : goal.invariant-loop-k
invariant-loop-k l = (l.k ≤ l.s.p) × (lowest_free (table l.s.header) l.k ≡ l.k)

abbrev pub decreases-loop-k : goal.decreases-loop-k
decreases-loop-k l = l.s.p - l.k
