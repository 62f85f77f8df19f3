-- The format of a new store: a format answers by its numbers and the length of the area alone. Assumes nothing.
use mathlib.Core.Bool.{Bool, true, false, cond}
use mathlib.Core.Path.{◌≡◌, refl}
use mathlib.Core.List.{List}
use Prim.Native.Nat.{ℕ}
use lib.ListN.{length, length-replicate}
use borrow.Author.Tests.{eq-eqb, le-leb}
use lib.Dec.{leb, eqb}
use Rattle.meaning.specs.Numbers.{WENT, SHAPE, LIMITS}
use Rattle.meaning.specs.Limits.{in_limits}
use Rattle.meaning.specs.Store.{fresh}
use Rattle.meaning.specs.Call.{Reply, left, reply, check}
use Rattle.store.specs.Layout.{size, largest}
use Rattle.store.specs.Area.{encode}
use Rattle.store.specs.Calls.{format_area}
use Rattle.store.proofs.Sound.{size_most}
use Rattle.script.specs.Output.{unless_went, format_new}

-- ---- a format

module _ (a : List ℕ) (t n p d : ℕ) where
  -- the reply, given whether the sizes are in their limits and whether the length is exact
  abbrev formatted : Bool → Bool → Reply (List ℕ)
  formatted allowed exact = reply encode a (check allowed LIMITS (check exact SHAPE (left WENT 0 (fresh t n p d))))

  pub format-refused : ((format_area a t n p d).number ≡ WENT → ⊥) → (format_area a t n p d).after ≡ a
  format-refused = each (in_limits t n p d) (eqb (length a) (size t n p))
    where
      each : (allowed exact : Bool) → ((formatted allowed exact).number ≡ WENT → ⊥) → (formatted allowed exact).after ≡ a
      each true true h = absurd (h refl)
      each true false h = refl
      each false exact h = refl

  -- any area will do that has the exact length where that is not too long
  pub format-new :
      (old : List ℕ) → length a ≡ cond (leb (size t n p) largest) (size t n p) 0
      → unless_went old (format_area a t n p d) ≡ format_new old t n p d
  format-new old long = each (in_limits t n p d) refl
    where
      each : (allowed : Bool) → in_limits t n p d ≡ allowed → unless_went old (format_area a t n p d) ≡ format_new old t n p d
      each true e =
          let exact : length a ≡ size t n p = rw (le-leb _ _ (size_most t n p d e)) at long in
          rw (e, eq-eqb _ _ exact, eq-eqb _ _ (length-replicate {A = ℕ} (size t n p) 0))
      each false e = rw e

-- so the format of a new store is refused for its numbers alone, and never for the length of the area
pub format_new_limits :
    (old : List ℕ) (t n p d : ℕ)
    → format_new old t n p d ≡ reply encode old (check (in_limits t n p d) LIMITS (left WENT 0 (fresh t n p d)))
format_new_limits old t n p d = each (in_limits t n p d) refl
  where
    each :
        (allowed : Bool) → in_limits t n p d ≡ allowed
        → format_new old t n p d ≡ reply encode old (check (in_limits t n p d) LIMITS (left WENT 0 (fresh t n p d)))
    each true e = rw (e, eq-eqb _ _ (length-replicate {A = ℕ} (size t n p) 0))
    each false e = rw e
