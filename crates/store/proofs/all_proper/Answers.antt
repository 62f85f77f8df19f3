-- Where the bits that all words have are proper, each word is.
use mathlib.Core.Path.{◌∙◌, sym, ap}
use Rattle.meaning.specs.Holding.{proper}
use Rattle.store.specs.Live.{entry}
use Rattle.store.proofs.Sets.{bits_proper}
use Rattle.store.proofs.all_proper.Goals as goal

pub returns-then-proper : goal.returns-then-proper
returns-then-proper c =
    sym
    (bits_proper c.args.t (entry c.args.area.now c.args.c) c.args.c.count
    (ap (proper c.args.t) (sym c.all_bits.ensures) ∙ sym c.if-proper.ensures))
