-- What a search finds is below the bound on blocks.
use Rattle.machine.proofs.Search.{found-below}
use Rattle.machine.proofs.choose.Goals as goal

pub from_block-from-requires : goal.from_block-from-requires
from_block-from-requires c = (found-below _ _ c.args.s.now.p c.in-Some.ensures c.requires.0, found-below _ _ c.args.s.now.p c.least_worn.ensures c.requires.0)
