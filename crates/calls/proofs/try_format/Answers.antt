-- An area of zeros with the four sizes.
use Rattle.std.proofs.Common.{◌≡◌, ◌∙◌, sym, ap, Ok, arith, eq-eqb, length, replicate}
use Rattle.meaning.specs.Store.{fresh}
use Rattle.store.specs.Layout.{size}
use Rattle.store.specs.Area.{encode}
use Rattle.store.proofs.Sound.{limits-sizes}
use Rattle.calls.specs.declared.Accepted.TheVariants.{Went}
use Rattle.calls.specs.Answering.{answered}
use Rattle.calls.proofs.Fresh.{area-fresh}
use Rattle.calls.proofs.try_format.Goals as goal

pub returns : goal.returns
returns c =
    let a = c.args in
    let limits = sym c.in_limits.ensures ∙ c.if-not-in_limits.false in
    let fits : length a.area.now ≡ size a.t a.n a.p = omega (arith, c.if-area-size_of.false, c.size_of.ensures) in
    let zeros : c.fill.new.self ≡ replicate (size a.t a.n a.p) 0 = c.fill.ensures.after (λ _ e. e) ∙ ap (λ m. replicate m 0) fits in
    let written : c.put_word-4.new.area ≡ encode (fresh a.t a.n a.p a.d) =
    cc (zeros, area-fresh a.t a.n a.p a.d (limits-sizes a.t a.n a.p a.d limits)) in
    rw (limits, eq-eqb _ _ fits) (ap (answered (Ok Went)) written)
