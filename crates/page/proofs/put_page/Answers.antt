-- The lines on the wear after the counts.
use Rattle.std.proofs.Common.{rules}
use Rattle.page.proofs.Paging.{puts_then, wrote_there}
use Rattle.page.proofs.put_page.Goals as goal

pub returns : goal.returns
returns c =
    let all = puts_then c.counts.ensures.puts (rw c.wear_of.ensures at c.worn.ensures) in
    wrote_there all.wrote (search rules)
