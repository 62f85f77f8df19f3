-- A digit more makes the value too large. The check finds this alone: it stays so that the edit at this goal is refused by what differs.
use Rattle.std.proofs.Common.{◌∙◌, arith}
use Rattle.script.proofs.Reading.{digits_large}
use Rattle.script.proofs.read_digits.Goals as goal

pub returns-in_err-value : goal.returns-in_err-value
returns-in_err-value c =
    let l = c.loop-rest in
    rw c.from_residual-in_err-value.ensures
    (l.invariant.1 ∙ digits_large l.value l.rest.now (omega arith) (omega arith) (omega arith) (omega arith))
