-- `all` is what `every` says of the numbers passed.
use Rattle.std.proofs.Common.{◌≡◌, ◌<◌, ℕ, Bool}
use Rattle.meaning.specs.Table.{every}
use Rattle.store.proofs.every.Given as goal

abbrev pub invariant-loop-k : goal.invariant-loop-k
invariant-loop-k g l = (p : ℕ → Bool) → ((k : ℕ) (r : Bool) → k < l.count → goal.F-post g l.test k r → r ≡ p k) → l.all ≡ every l.k p
