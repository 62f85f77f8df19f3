-- The end of the input, which the check finds alone and which stays so that the edit at this goal is refused by what differs; and a line that was answered.
use Rattle.std.proofs.Common.{◌≡◌, ◌∙◌, ap, arith}
use Rattle.std.proofs.lemmas.Bool.Decides.{nat_tests}
use Rattle.calls.specs.Answering.{answered}
use Rattle.script.specs.Syntax.{command}
use Rattle.script.specs.Output.{replied, heard}
use Rattle.script.proofs.Running.{running_end, running_on}
use Rattle.script.proofs.run_lines.Goals as goal

pub returns : goal.returns
returns c = running_end c.loop-rest.rest.now c.loop-rest.invariant (grind (arith, nat_tests))

pub loop-rest-preserved : goal.loop-rest-preserved
loop-rest-preserved c =
    let l = c.loop-rest in
    let found = c.in-Some in
    let reply = answered c.in-Some-obey.answer c.obey.new.self in
    let heard-it : replied reply ≡ heard l.kept (command found.line.now) = c.in-Some-obey.ensures ∙ ap (heard l.kept) c.read_command.ensures in
    let w = c.put_reply-end in
    running_on l.invariant c.requires found.line.now found.after.now found.ensures.cut found.ensures.whole reply heard-it w.result w.new.out w.auto.out
    (rw (c.number.ensures.number, c.value.ensures) at w.ensures)
