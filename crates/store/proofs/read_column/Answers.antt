-- One word more, as a loop counts.
use Rattle.std.proofs.Common.{arith}
use Rattle.store.proofs.Filling.{filled_more}
use Rattle.store.proofs.read_column.Goals as goal

pub loop-k-preserved : goal.loop-k-preserved
loop-k-preserved c = filled_more c.loop-k.invariant (omega arith) c.requires.fit c.entry.ensures
