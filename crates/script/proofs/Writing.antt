-- Laws of writing into a buffer: nothing, one byte, and one list of bytes after another. Assumes nothing.
use mathlib.Core.Bool.{Bool, true, false, cond}
use mathlib.Core.Path.{◌≡◌, ◌∙◌, refl, sym, ap}
use mathlib.Core.List.{List, [], ◌∷◌, ◌++◌, append_assoc}
use Prim.Native.Nat.{ℕ, zero, suc, ◌+◌, ◌-◌, ◌≤◌, ◌<◌, ◌/◌, ◌%◌, ◌^◌}
use native.Mathlib.Nat.{add-zero}
use native.Mathlib.Numerals.{add-one}
use native.Mathlib.Omega.{arith}
use lib.Dec.{ltb}
use lib.ListN.{length, take, drop, set, take-append-drop, length-append, drop_of_length-le}
use lib.Seq.{length-take-le, set_split, take_at, drop_at, drop-drop}
use Rattle.std.specs.Fmt.{digits}
use Rattle.std.proofs.lemmas.Fmt.{decimal_digit, decimal_step}
use Rattle.std.proofs.lemmas.List.{drop-append-le}
use borrow.Author.Tests.{lt-ltb, ltb-true, ltb-false}
use Rattle.script.specs.Syntax.{ZERO}
use Rattle.script.specs.Printing.{most_figures, figures, printed, most_printed, Wrote}

-- ---- writing

pub wrote_nothing : (b : List ℕ) (at : ℕ) → Wrote b at [] at b
wrote_nothing b at = record { ends = sym (add-zero at); holds = rw (add-zero, take-append-drop) }

pub wrote-byte : (b : List ℕ) (at v : ℕ) → at < length b → Wrote b at (v ∷ []) (at + 1) (set b at v)
wrote-byte b at v h = record { ends = refl; holds = rw (add-one) (set_split b at v h) }

-- a copy into the part of that length
pub wrote_copy :
    (b : List ℕ) (at : ℕ) (bs from copy : List ℕ) → from ≡ bs → copy ≡ from
    → Wrote b at bs (at + length from) (take at b ++ (copy ++ drop (at + length from - at) (drop at b)))
wrote_copy b at bs from copy e w =
    let k : at + length from - at ≡ length from = omega arith in
    rw (w, k, e) (record { ends = refl; holds = rw drop-drop })

-- a contract by `Wrote` leaves no choice
pub wrote_determined :
    {b bs b' b'' : List ℕ} {at e f : ℕ} → Wrote b at bs e b' → Wrote b at bs f b'' → (e ≡ f) × (b' ≡ b'')
wrote_determined one two = (one.ends ∙ sym two.ends, one.holds ∙ sym two.holds)

-- what was written ends inside the buffer
pub wrote-inside : {b bs b' : List ℕ} {at e : ℕ} → Wrote b at bs e b' → at ≤ length b → e ≤ length b'
wrote-inside {b} {bs} {b'} {at} w h =
    rw (w.ends, w.holds, length-append, length-append, length-take-le at b h) (omega arith)

module _ (b : List ℕ) (at : ℕ) (xs : List ℕ) (fits : at + length xs ≤ length b) where
  -- what was written, with what stands before it
  reaches : length (take at b ++ xs) ≡ at + length xs
  reaches = rw (length-append, length-take-le at b (omega arith))

  -- one list of bytes after another
  pub wrote_then :
      {m e : ℕ} {b' b'' : List ℕ} (ys : List ℕ) → Wrote b at xs m b' → Wrote b' m ys e b'' → Wrote b at (xs ++ ys) e b''
  wrote_then {m} {e} {b'} {b''} ys one two =
      let n = length ys in
      let p = take at b ++ xs in
      let whole : b' ≡ p ++ drop m b = one.holds ∙ rw one.ends (simp append_assoc) in
      let long : length p ≡ m = reaches ∙ sym one.ends in
      let front : take m b' ≡ p = rw whole (take_at p (drop m b) m long) in
      let back : drop (m + n) b' ≡ drop (m + n) b =
      sym (drop-drop n m b') ∙ ap (drop n) (rw whole (drop_at p (drop m b) m long)) ∙ drop-drop n m b in
      let place : m + n ≡ at + length (xs ++ ys) = rw length-append (omega (arith, one.ends)) in
      record {
        ends = two.ends ∙ place;
        holds = two.holds ∙ rw (front, back, place) (simp append_assoc);
      }

-- ---- the digits of a number

pub figures-none : (k v : ℕ) → k ≡ 0 → figures k v ≡ []
unfolding figures
figures-none zero v h = refl
figures-none (suc k) v h = absurd (omega arith)

-- the last digit stands after the others
pub figures-some :
    (k v : ℕ) → (k ≡ 0 → ⊥) → figures k v ≡ cond (ltb v 10) [] (figures (k - 1) (v / 10)) ++ ((ZERO + v % 10) ∷ [])
unfolding figures
figures-some zero v h = absurd (h refl)
figures-some (suc k) v h = let e : suc k - 1 ≡ k = omega arith in rw e

-- the last digits of what std writes
pub figures-last : (k v : ℕ) → v < 2 ^ 64 → figures k v ≡ drop (length (digits 10 false v) - k) (digits 10 false v)
unfolding figures
figures-last zero v h = sym (drop_of_length-le (digits 10 false v) (omega arith))
figures-last (suc k) v h = each (ltb v 10) refl (figures-last k (v / 10) (omega arith))
  where
    each : (small : Bool) → ltb v 10 ≡ small
        → figures k (v / 10) ≡ drop (length (digits 10 false (v / 10)) - k) (digits 10 false (v / 10))
        → cond small [] (figures k (v / 10)) ++ ((ZERO + v % 10) ∷ []) ≡ drop (length (digits 10 false v) - suc k) (digits 10 false v)
    each true e more =
        let same : v % 10 ≡ v = omega (arith, ltb-true v 10 e) in
        let none : 1 - suc k ≡ 0 = omega arith in
        rw (decimal_digit v (ltb-true v 10 e), same, none)
    each false e more =
        let ds = digits 10 false (v / 10) in
        let n : length ds + 1 - suc k ≡ length ds - k = omega arith in
        let fits : length ds - k ≤ length ds = omega arith in
        rw (decimal_step v (ltb-false v 10 e) h, length-append, n, drop-append-le (length ds - k) ds ((48 + v % 10) ∷ []) fits, more)

-- a number of one digit
pub figures_digit : (k v : ℕ) → 0 < k → v < 10 → figures k v ≡ (ZERO + v) ∷ []
unfolding figures
figures_digit zero v some h = absurd (omega arith)
figures_digit (suc k) v some h =
    let same : v % 10 ≡ v = omega arith in
    rw (lt-ltb v 10 h, same)

pub figures_most : (k v : ℕ) → length (figures k v) ≤ k
unfolding figures
figures_most zero v = omega arith
figures_most (suc k) v = more (ltb v 10) (figures_most k (v / 10))
  where
    more : (small : Bool) → length (figures k (v / 10)) ≤ k
        → length (cond small [] (figures k (v / 10)) ++ ((ZERO + v % 10) ∷ [])) ≤ suc k
    more true h = omega arith
    more false h = rw length-append (omega arith)

-- a printed line is short
pub printed_most : (number value : ℕ) → length (printed number value) ≤ most_printed
printed_most number value =
    simp length-append (omega (arith, figures_most most_figures number, figures_most most_figures value))
