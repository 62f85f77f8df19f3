-- `bits` are those of the words passed.
use Rattle.std.proofs.Common.{◌≡◌}
use Rattle.store.specs.Live.{all_bits, entry}
use Rattle.store.proofs.all_bits.Given as goal

abbrev pub invariant-loop-k : goal.invariant-loop-k
invariant-loop-k l = l.bits ≡ all_bits l.k (entry l.area l.c)
