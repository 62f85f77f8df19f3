-- The block at hand is the first that is free, or all are passed.
use Rattle.std.proofs.Common.{arith, sym}
use Rattle.machine.proofs.Search.{lowest-found}
use Rattle.machine.proofs.lowest_free.Goals as goal
use Rattle.machine.proofs.lowest_free.Goals.{then-k-s-via-then-k-s, then-k-s-via-else-k-s+then-s-k-eq0}

pub returns : goal.returns
returns c =
    elim c.then-k-s.branch [
      | then-k-s-via-then-k-s w ↦ rw (sym w.if-k-s.true) (sym c.loop-k.invariant.1)
      | then-k-s-via-else-k-s+then-s-k-eq0 w ↦ sym (lowest-found _ _ c.args.s.now.p c.loop-k.invariant.1 w.if-s-k-eq0.true (omega arith))
    ]
