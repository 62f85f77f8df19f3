-- What is left of the digits comes to what was asked for.
use Rattle.std.proofs.Common.{◌≡◌, ◌≤◌, length}
use Rattle.meaning.specs.Limits.{most_word}
use Rattle.script.specs.Syntax.{digits, bounded}
use Rattle.script.proofs.read_digits.Given as goal

abbrev pub invariant-loop-rest : goal.invariant-loop-rest
invariant-loop-rest l = (l.value ≤ most_word) × (bounded (digits l.first l.line) ≡ bounded (digits l.value l.rest))

abbrev pub decreases-loop-rest : goal.decreases-loop-rest
decreases-loop-rest l = length l.rest
