-- Laws of reading: what the digits at the front of a line come to, and what the definitions of specs/Syntax.antt say at a place of a list. Assumes nothing.
use mathlib.Core.Bool.{Bool, true, false, cond}
use mathlib.Core.Path.{◌≡◌, refl}
use mathlib.Core.List.{List, [], ◌∷◌}
use Prim.Native.Nat.{ℕ, ◌+◌, ◌-◌, ◌*◌, ◌≤◌, ◌<◌}
use native.Mathlib.Numerals.{add-one}
use native.Mathlib.Omega.{arith}
use borrow.Author.Tests.{lt-leb, le-leb, leb-true, eq-eqb, ne_eqb}
use lib.Dec.{leb}
use lib.ListN.{length, get_or, drop}
use lib.Seq.{drop-cons}
use Rattle.std.specs.Prelude.{None}
use Rattle.meaning.specs.Limits.{most_word}
use Rattle.script.specs.Syntax.{BLANK, ZERO, NINE, missing, got, is_digit, digits, bounded, number, field, lettered, command}

-- a value that is too large stays so
pub digits-over : (v : ℕ) (cs : List ℕ) → most_word < v → bounded (digits v cs) ≡ missing
digits-over v [] h = rw (lt-leb v most_word h)
digits-over v (c ∷ cs) h = go (is_digit c) (digits-over (10 * v + (c - ZERO)) cs (omega arith))
  where
    go : (b : Bool) → bounded (digits (10 * v + (c - ZERO)) cs) ≡ missing
        → bounded (cond b (digits (10 * v + (c - ZERO)) cs) (got v (c ∷ cs))) ≡ missing
    go true more = more
    go false more = rw (lt-leb v most_word h)

-- a digit more makes the value too large
pub digits_large :
    (v : ℕ) (cs : List ℕ) → 0 < length cs → ZERO ≤ get_or cs 0 0 → get_or cs 0 0 ≤ NINE → most_word < 10 * v + (get_or cs 0 0 - ZERO)
    → bounded (digits v cs) ≡ missing
digits_large v [] some low high large = absurd (omega arith)
digits_large v (c ∷ cs) some low high large = rw (le-leb _ _ low, le-leb _ _ high) (digits-over _ cs large)

-- where no digit stands at the front, the digits end
pub digits_end :
    (v : ℕ) (cs : List ℕ) → v ≤ most_word → (0 < length cs → ZERO ≤ get_or cs 0 0 → get_or cs 0 0 ≤ NINE → ⊥)
    → bounded (digits v cs) ≡ got v cs
digits_end v [] small none = rw (le-leb v most_word small)
digits_end v (c ∷ cs) small none = go (leb ZERO c) (leb c NINE) refl refl
  where
    go : (low high : Bool) → leb ZERO c ≡ low → leb c NINE ≡ high
        → bounded (digits v (c ∷ cs)) ≡ got v (c ∷ cs)
    go true true l h = absurd (none (omega arith) (leb-true _ _ l) (leb-true _ _ h))
    go true false l h = rw (l, h, le-leb v most_word small)
    go false high l h = rw (l, le-leb v most_word small)

-- ---- at a place of a list, by which no function reads now

module _ (s : List ℕ) (at v : ℕ) (inside : at < length s) where
  pub digits_more :
      ZERO ≤ get_or s at 0 → get_or s at 0 ≤ NINE → digits v (drop at s) ≡ digits (10 * v + (get_or s at 0 - ZERO)) (drop (at + 1) s)
  digits_more low high = rw (add-one, drop-cons s at 0 inside, le-leb _ _ low, le-leb _ _ high)

  pub digits-below : get_or s at 0 < ZERO → digits v (drop at s) ≡ got v (drop at s)
  digits-below h = rw (drop-cons s at 0 inside, lt-leb _ _ h)

  pub digits_above : NINE < get_or s at 0 → digits v (drop at s) ≡ got v (drop at s)
  digits_above h = rw (drop-cons s at 0 inside, le-leb ZERO (get_or s at 0) (omega arith), lt-leb _ _ h)

-- ---- a number and a field

module _ (s : List ℕ) (at : ℕ) (inside : at < length s) where
  pub number-zero : get_or s at 0 ≡ ZERO → number (drop at s) ≡ got 0 (drop (at + 1) s)
  number-zero h = rw (add-one, drop-cons s at 0 inside, eq-eqb _ _ h)

  pub number-below : get_or s at 0 < ZERO → number (drop at s) ≡ missing
  number-below h =
      rw (drop-cons s at 0 inside, ne_eqb (get_or s at 0) ZERO (λ e. omega arith), lt-leb ZERO (get_or s at 0) h)

  pub number_above : NINE < get_or s at 0 → number (drop at s) ≡ missing
  number_above h =
      rw (drop-cons s at 0 inside, ne_eqb (get_or s at 0) ZERO (λ e. omega arith), le-leb ZERO (get_or s at 0) (omega arith), lt-leb _ _ h)

  pub number_digits :
      (get_or s at 0 ≡ ZERO → ⊥) → ZERO ≤ get_or s at 0 → get_or s at 0 ≤ NINE
      → number (drop at s) ≡ bounded (digits (get_or s at 0 - ZERO) (drop (at + 1) s))
  number_digits some low high = rw (add-one, drop-cons s at 0 inside, ne_eqb _ _ some, le-leb _ _ low, le-leb _ _ high)

  pub field-blank : get_or s at 0 ≡ BLANK → field (drop at s) ≡ number (drop (at + 1) s)
  field-blank h = rw (add-one, drop-cons s at 0 inside, eq-eqb _ _ h)

  pub field_other : (get_or s at 0 ≡ BLANK → ⊥) → field (drop at s) ≡ missing
  field_other h = rw (drop-cons s at 0 inside, ne_eqb _ _ h)

-- ---- a line

pub command-empty : (l : List ℕ) → length l ≡ 0 → None ≡ command l
command-empty [] h = refl
command-empty (c ∷ cs) h = absurd (omega arith)

pub command-lettered : (l : List ℕ) → (length l ≡ 0 → ⊥) → command l ≡ lettered (get_or l 0 0) (drop 1 l)
command-lettered [] h = absurd (h refl)
command-lettered (c ∷ cs) h = refl
