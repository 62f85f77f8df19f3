-- One block more: it has no key, or is taken, or what was found stays.
use Rattle.std.proofs.Common.{arith}
use Rattle.machine.proofs.Search.{leads-past, leads-taken, leads-stays}
use Rattle.machine.proofs.first_least.Goals as goal
use Rattle.machine.proofs.first_least.Goals.{in-Some+then-w-least, in-Some+else-w-least, in_default}

pub loop-k-preserved : goal.loop-k-preserved
loop-k-preserved g c = λ eligible beats r.
    let so_far = c.loop-k.invariant eligible beats r in
    elim c.match-key.branch [
      | in-Some+then-w-least w ↦
          rw (w.at-is, w.least-is, w.from-w.ensures)
          (leads-taken r c.loop-k-test.true w.in-Some.w so_far w.in-Some.ensures (omega arith) (omega arith))
      | in-Some+else-w-least w ↦
          rw (w.at-is, w.least-is)
          (leads-stays r c.loop-k-test.true w.in-Some.w so_far w.in-Some.ensures (omega arith) (omega arith))
      | in_default w ↦ rw (w.at-is, w.least-is) (leads-past r c.loop-k-test.true so_far w.in_default.ensures)
    ]
