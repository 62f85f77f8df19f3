-- One part after another.
use Rattle.page.proofs.Paging.{puts_then}
use Rattle.page.proofs.Out.line.Goals as goal

pub returns-clause-puts : goal.returns-clause-puts
returns-clause-puts c =
    puts_then c.text.ensures (puts_then c.text-2.ensures (puts_then c.figure.ensures.puts c.byte.ensures))
