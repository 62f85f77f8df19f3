-- One line after another.
use Rattle.page.proofs.Paging.{puts_then}
use Rattle.page.proofs.Out.counts.Goals as goal

pub returns-clause-puts : goal.returns-clause-puts
returns-clause-puts c =
    let all =
    puts_then c.line.ensures.puts
    (puts_then c.line-2.ensures.puts (puts_then c.line-3.ensures.puts (puts_then c.line-4.ensures.puts c.line-5.ensures.puts))) in
    rw (c.from.ensures, c.from-2.ensures, c.from-3.ensures, c.from-4.ensures) at all
