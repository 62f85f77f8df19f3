-- Whatever writes the rest has written all.
use Rattle.std.proofs.Common.{length}
use Rattle.script.proofs.Running.{RunningAt}
use Rattle.script.proofs.run_lines.Given as goal

abbrev pub invariant-loop-rest : goal.invariant-loop-rest
invariant-loop-rest l = RunningAt l.input l.fn.out l.kept l.out l.rest l.end

abbrev pub decreases-loop-rest : goal.decreases-loop-rest
decreases-loop-rest l = length l.rest
