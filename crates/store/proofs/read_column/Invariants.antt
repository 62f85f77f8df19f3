-- The array holds the words so far.
use Rattle.std.proofs.Common.{length}
use Rattle.store.specs.Area.{word}
use Rattle.store.proofs.Filling.{Filled}
use Rattle.store.proofs.read_column.Given as goal

abbrev pub invariant-loop-k : goal.invariant-loop-k
invariant-loop-k l = Filled (word l.area) l.c.from l.c.stride l.c.count (length l.initial.into) l.k l.into
