-- What is printed reads back: a word in decimal, with nothing after it that goes on as a digit, is read as that word. So no two words
-- print alike, and a printed number has the form that a field must have. Assumes nothing.
use mathlib.Core.Bool.{Bool, true, false, cond}
use mathlib.Core.Path.{◌≡◌, ◌∙◌, refl, ap}
use mathlib.Core.List.{List, [], ◌∷◌, ◌++◌, append_assoc}
use Prim.Native.Nat.{ℕ, zero, suc, ◌+◌, ◌-◌, ◌*◌, ◌/◌, ◌%◌, ◌^◌, ◌≤◌, ◌<◌}
use native.Mathlib.Nat.{pow-suc}
use native.Mathlib.Omega.{arith}
use borrow.Author.Tests.{ltb-true, ltb-false, ne_eqb, le-leb}
use lib.Dec.{ltb}
use Rattle.meaning.specs.Limits.{most_word}
use Rattle.script.specs.Syntax.{ZERO, NINE, got, digits, bounded, number}
use Rattle.script.specs.Printing.{most_figures, figures, decimal}

-- ---- digit after digit

number_digit : (v : ℕ) (rest : List ℕ) → 0 < v → v < 10 → number ((ZERO + v % 10) ∷ rest) ≡ bounded (digits v rest)
number_digit v rest some small =
    let same : ZERO + v % 10 - ZERO ≡ v = omega arith in
    rw (
      ne_eqb (ZERO + v % 10) ZERO (λ e. omega arith),
      le-leb ZERO (ZERO + v % 10) (omega arith),
      le-leb (ZERO + v % 10) NINE (omega arith),
      same,
    )

digits_digit : (v : ℕ) (rest : List ℕ) → digits (v / 10) ((ZERO + v % 10) ∷ rest) ≡ digits v rest
digits_digit v rest =
    let same : 10 * (v / 10) + (ZERO + v % 10 - ZERO) ≡ v = omega arith in
    rw (le-leb ZERO (ZERO + v % 10) (omega arith), le-leb (ZERO + v % 10) NINE (omega arith), same)

-- ---- a number

-- any but 0, where there may be enough digits
number-figures : (k v : ℕ) → 0 < v → v < 10 ^ k → (rest : List ℕ) → number (figures k v ++ rest) ≡ bounded (digits v rest)
unfolding figures
number-figures zero v some few rest = absurd (omega arith)
number-figures (suc k) v some few rest =
    each (ltb v 10) refl
    (λ large. number-figures k (v / 10) (omega arith) (omega (arith, rw (pow-suc 10 k) at few)) ((ZERO + v % 10) ∷ rest))
  where
    each :
        (small : Bool) → ltb v 10 ≡ small
        → (10 ≤ v → number (figures k (v / 10) ++ ((ZERO + v % 10) ∷ rest)) ≡ bounded (digits (v / 10) ((ZERO + v % 10) ∷ rest)))
        → number ((cond small [] (figures k (v / 10)) ++ ((ZERO + v % 10) ∷ [])) ++ rest) ≡ bounded (digits v rest)
    each true e more = number_digit v rest some (ltb-true v 10 e)
    each false e more = rw append_assoc (more (ltb-false v 10 e) ∙ ap bounded (digits_digit v rest))

pub number-decimal :
    (v : ℕ) (rest : List ℕ) → v ≤ most_word → digits v rest ≡ got v rest → number (decimal v ++ rest) ≡ got v rest
unfolding figures
number-decimal zero rest h e = refl
number-decimal (suc v) rest h e =
    number-figures most_figures (suc v) (omega arith) (omega arith) rest ∙ rw (e, le-leb (suc v) most_word h)
