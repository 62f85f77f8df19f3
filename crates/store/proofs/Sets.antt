-- Words of readers or of a writer are proper where the bits that they have together are a proper word. Assumes nothing.
use mathlib.Core.Path.{◌≡◌, refl}
use mathlib.Core.Bool.{true, or-true}
use Prim.Native.Nat.{ℕ, zero, suc, ◌/◌, ◌%◌, ◌^◌, ◌<◌, ◌≤◌}
use native.Mathlib.Omega.{arith}
use lib.Bits.{bit_or, or_add_and, and_le_l, and_le_r, or_mod, or_shr}
use lib.Dec.{eqb, ltb}
use borrow.Author.Tests.{eqb-true, eq-eqb, ltb-true, lt-ltb, leb-true, le-leb}
use Rattle.meaning.specs.Table.{every}
use Rattle.meaning.specs.Holding.{sets, proper}
use Rattle.meaning.proofs.Base.Words.{and_left, and_right, or_way}
use Rattle.store.specs.Live.{all_bits}

-- what a proper word is
module _ (threads w : ℕ) (A : Type 0) (set : w < 2 ^ threads → A) (writer : w % sets ≡ 0 → w / sets ≤ threads → A) where
  by_proper : proper threads w ≡ true → A
  by_proper is =
      or_way (ltb w (2 ^ threads)) _ is (λ x. set (ltb-true w (2 ^ threads) x))
      (λ x.
      writer (eqb-true (w % sets) 0 (and_left (eqb (w % sets) 0) _ x)) (leb-true (w / sets) threads (and_right (eqb (w % sets) 0) _ x)))

-- ---- the bits that words have

or_left : (a b : ℕ) → a ≤ bit_or a b
or_left a b = omega (arith, or_add_and a b, and_le_r a b)

or_right : (a b : ℕ) → b ≤ bit_or a b
or_right a b = omega (arith, or_add_and a b, and_le_l a b)

-- a word whose set and writer are at most those of a proper one
proper-part : (threads w v : ℕ) → w ≤ v → w % sets ≤ v % sets → w / sets ≤ v / sets → proper threads v ≡ true → proper threads w ≡ true
proper-part threads w v low set writer =
    by_proper threads v (proper threads w ≡ true) (λ l. rw (lt-ltb w (2 ^ threads) (omega arith)))
    (λ e l. rw (eq-eqb (w % sets) 0 (omega arith), le-leb (w / sets) threads (omega arith)) (or-true (ltb w (2 ^ threads))))

module _ (threads a b : ℕ) (is : proper threads (bit_or a b) ≡ true) where
  proper-left : proper threads a ≡ true
  proper-left =
      proper-part threads a (bit_or a b) (or_left a b) (rw (or_mod a b 16) (or_left (a % sets) (b % sets)))
      (rw (or_shr a b 16) (or_left (a / sets) (b / sets))) is

  proper_right : proper threads b ≡ true
  proper_right =
      proper-part threads b (bit_or a b) (or_right a b) (rw (or_mod a b 16) (or_right (a % sets) (b % sets)))
      (rw (or_shr a b 16) (or_right (a / sets) (b / sets))) is

pub bits_proper : (threads : ℕ) (f : ℕ → ℕ) (count : ℕ) → proper threads (all_bits count f) ≡ true → every count (λ k. proper threads (f k)) ≡ true
bits_proper threads f zero is = refl
bits_proper threads f (suc count) is =
    rw (bits_proper threads f count (proper-left threads (all_bits count f) (f count) is), proper_right threads (all_bits count f) (f count) is)
