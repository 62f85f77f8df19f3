-- The input is too long. The check finds this alone: it stays so that the edit at this goal is refused by what differs.
use Rattle.script.specs.Output.{output}
use borrow.Author.Tests.{le-leb, lt-leb}
use Rattle.script.proofs.run.Goals as goal

pub returns-then-input-gt-MOST_INPUT : goal.returns-then-input-gt-MOST_INPUT
unfolding output
returns-then-input-gt-MOST_INPUT c = rw (le-leb _ _ c.if-out-lt-ROOM.false, lt-leb _ _ c.if-input-gt-MOST_INPUT.true) c.put_reply.ensures
