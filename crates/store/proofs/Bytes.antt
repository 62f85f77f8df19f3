-- Words of bytes: a word of what was put, the word of an area's bytes, the bytes of an area's words; words put one after the other.
-- Assumes nothing.
use mathlib.Core.Path.{◌≡◌, refl, ◌∙◌, sym, ap, fun_ext}
use mathlib.Core.List.{List, [], ◌∷◌, ◌++◌}
use Prim.Native.Nat.{ℕ, zero, suc, ◌+◌, ◌*◌, ◌/◌, ◌%◌, ◌<◌, ◌≤◌}
use native.Mathlib.Nat.{add-zero, div-div-eq-div-mul}
use native.Mathlib.Decide.{dec_lt}
use native.Mathlib.Omega.{arith}
use lib.Dec.{eqb}
use lib.ListN.{get_or, set, length, drop, length-set, drop_of_length-le}
use lib.Seq.{get_or-set_same, get_or-set_other, set_out, drop-cons}
use borrow.Author.Tests.{eqb-true, eqb-false}
use Rattle.meaning.specs.Limits.{most_word}
use Rattle.meaning.specs.Table.{upd}
use Rattle.meaning.proofs.Base.Words.{either_way, upd_same, upd_other}
use Rattle.store.specs.Area.{Bytes, word, bytes}
use Rattle.store.specs.Live.{Within, put_word}

-- ---- a word and its four bytes

-- the word with these bytes
abbrev pub joined : ℕ → ℕ → ℕ → ℕ → ℕ
joined a b c d = a + 256 * b + 65536 * c + 16777216 * d

by_bytes : (v w x y a b c d : ℕ) → v ≡ a + 256 * w → w ≡ b + 256 * x → x ≡ c + 256 * y → y ≡ d → joined a b c d ≡ v
by_bytes v w x y a b c d e f g h = omega arith

low_byte : (v : ℕ) → v ≡ v % 256 + 256 * (v / 256)
low_byte v = omega arith

top_byte : (v : ℕ) → v < 4294967296 → v / 16777216 ≡ v / 16777216 % 256
top_byte v h = omega arith

pub joined-split : (v : ℕ) → v < 4294967296 → joined (v % 256) (v / 256 % 256) (v / 65536 % 256) (v / 16777216 % 256) ≡ v
joined-split v h =
    by_bytes v (v / 256) (v / 65536) (v / 16777216) (v % 256) (v / 256 % 256) (v / 65536 % 256) (v / 16777216 % 256)
    (low_byte v) (rw (← div-div-eq-div-mul v 256 256) (low_byte (v / 256)))
    (rw (← div-div-eq-div-mul v 65536 256) (low_byte (v / 65536))) (top_byte v h)

module _ (a b c d : ℕ) (ha : a < 256) (hb : b < 256) (hc : c < 256) (hd : d < 256) where
  pub joined_0 : joined a b c d % 256 ≡ a
  joined_0 = omega arith

  pub joined_1 : joined a b c d / 256 % 256 ≡ b
  joined_1 = omega arith

  pub joined_2 : joined a b c d / 65536 % 256 ≡ c
  joined_2 = omega arith

  pub joined_3 : joined a b c d / 16777216 % 256 ≡ d
  joined_3 = omega arith

-- ---- a word that was put

pub length-put_word : (a : List ℕ) (k v : ℕ) → length (put_word a k v) ≡ length a
length-put_word a k v = simp length-set

-- four elements set, and what lies before or after them
abbrev set-four : List ℕ → ℕ → ℕ → ℕ → ℕ → ℕ → List ℕ
set-four l i a b c d = set (set (set (set l i a) (i + 1) b) (i + 2) c) (i + 3) d

module _ (l : List ℕ) (i a b c d : ℕ) where
  get_or_four_other : (j : ℕ) → (i ≤ j → j < i + 4 → ⊥) → get_or (set-four l i a b c d) j 0 ≡ get_or l j 0
  get_or_four_other j h =
      get_or-set_other (set (set (set l i a) (i + 1) b) (i + 2) c) (i + 3) j d 0 (λ e. h (omega arith) (omega arith))
      ∙ get_or-set_other (set (set l i a) (i + 1) b) (i + 2) j c 0 (λ e. h (omega arith) (omega arith))
      ∙ get_or-set_other (set l i a) (i + 1) j b 0 (λ e. h (omega arith) (omega arith))
      ∙ get_or-set_other l i j a 0 (λ e. h (omega arith) (omega arith))

  module _ (h : i + 4 ≤ length l) where
    get_or_four_3 : get_or (set-four l i a b c d) (i + 3) 0 ≡ d
    get_or_four_3 = get_or-set_same (set (set (set l i a) (i + 1) b) (i + 2) c) (i + 3) d 0 (simp length-set (omega arith))

    get_or_four_2 : get_or (set-four l i a b c d) (i + 2) 0 ≡ c
    get_or_four_2 =
        get_or-set_other (set (set (set l i a) (i + 1) b) (i + 2) c) (i + 3) (i + 2) d 0 (λ e. omega arith)
        ∙ get_or-set_same (set (set l i a) (i + 1) b) (i + 2) c 0 (simp length-set (omega arith))

    get_or_four_1 : get_or (set-four l i a b c d) (i + 1) 0 ≡ b
    get_or_four_1 =
        get_or-set_other (set (set (set l i a) (i + 1) b) (i + 2) c) (i + 3) (i + 1) d 0 (λ e. omega arith)
        ∙ get_or-set_other (set (set l i a) (i + 1) b) (i + 2) (i + 1) c 0 (λ e. omega arith)
        ∙ get_or-set_same (set l i a) (i + 1) b 0 (simp length-set (omega arith))

    get_or_four_0 : get_or (set-four l i a b c d) i 0 ≡ a
    get_or_four_0 =
        get_or-set_other (set (set (set l i a) (i + 1) b) (i + 2) c) (i + 3) i d 0 (λ e. omega arith)
        ∙ get_or-set_other (set (set l i a) (i + 1) b) (i + 2) i c 0 (λ e. omega arith)
        ∙ get_or-set_other (set l i a) (i + 1) i b 0 (λ e. omega arith)
        ∙ get_or-set_same l i a 0 (omega arith)

module _ (a : List ℕ) (k v : ℕ) where
  word_put_same : Within a k → v < 4294967296 → word (put_word a k v) k ≡ v
  word_put_same w h =
      let f = get_or_four_0 a (4 * k) (v % 256) (v / 256 % 256) (v / 65536 % 256) (v / 16777216 % 256) w in
      let g = get_or_four_1 a (4 * k) (v % 256) (v / 256 % 256) (v / 65536 % 256) (v / 16777216 % 256) w in
      let x = get_or_four_2 a (4 * k) (v % 256) (v / 256 % 256) (v / 65536 % 256) (v / 16777216 % 256) w in
      let y = get_or_four_3 a (4 * k) (v % 256) (v / 256 % 256) (v / 65536 % 256) (v / 16777216 % 256) w in
      (λ i. joined (f i) (g i) (x i) (y i)) ∙ joined-split v h

  word_put_other : (j : ℕ) → (k ≡ j → ⊥) → word (put_word a k v) j ≡ word a j
  word_put_other j h =
      λ i.
      joined (rw add-zero at (kept 0 (omega arith)) i) (kept 1 (omega arith) i) (kept 2 (omega arith) i) (kept 3 (omega arith) i)
    where
      kept : (e : ℕ) → e < 4 → get_or (put_word a k v) (4 * j + e) 0 ≡ get_or a (4 * j + e) 0
      kept e l =
          get_or_four_other a (4 * k) (v % 256) (v / 256 % 256) (v / 65536 % 256) (v / 16777216 % 256) (4 * j + e)
          (λ x y. h (omega arith))

-- the words of an area with a word put, as a table
pub word-put : (a : List ℕ) (k v : ℕ) → Within a k → v < 4294967296 → word (put_word a k v) ≡ upd (word a) k v
word-put a k v w h =
    fun_ext λ j.
    either_way (eqb k j) (λ e. rw e (ap (word (put_word a k v)) (sym (eqb-true k j e)) ∙ word_put_same a k v w h))
    (λ e. rw e (word_put_other a k v j (eqb-false k j e)))

-- ---- the bytes of words

get_or_after_four : (a b c d : ℕ) (l : List ℕ) (k e : ℕ) → get_or (a ∷ b ∷ c ∷ d ∷ l) (4 * suc k + e) 0 ≡ get_or l (4 * k + e) 0
get_or_after_four a b c d l k e =
    let q : 4 * suc k + e ≡ suc (suc (suc (suc (4 * k + e)))) = omega arith in
    rw q

pub length-bytes : (ws : List ℕ) → length (bytes ws) ≡ 4 * length ws
length-bytes [] = refl
length-bytes (v ∷ vs) = rw (length-bytes vs) (omega arith)

pub word_bytes : (ws : List ℕ) → ((k : ℕ) → get_or ws k 0 < 4294967296) → (k : ℕ) → word (bytes ws) k ≡ get_or ws k 0
word_bytes [] h k = refl
word_bytes (v ∷ vs) h zero = joined-split v (h 0)
word_bytes (v ∷ vs) h (suc k) = (λ i. joined (next₀ i) (next 1 i) (next 2 i) (next 3 i)) ∙ word_bytes vs (λ j. h (suc j)) k
  where
    next : (e : ℕ) → get_or (bytes (v ∷ vs)) (4 * suc k + e) 0 ≡ get_or (bytes vs) (4 * k + e) 0
    next e = get_or_after_four (v % 256) (v / 256 % 256) (v / 65536 % 256) (v / 16777216 % 256) (bytes vs) k e

    next₀ : get_or (bytes (v ∷ vs)) (4 * suc k) 0 ≡ get_or (bytes vs) (4 * k) 0
    next₀ = simp add-zero at (next 0)

-- the words k, k + 1, .. of a function, of which there are so many
abbrev pub span : (ℕ → ℕ) → ℕ → ℕ → List ℕ
span at k zero = []
span at k (suc count) = at k ∷ span at (suc k) count

drop-next : (a : List ℕ) (i j : ℕ) → j ≡ suc i → i < length a → drop i a ≡ get_or a i 0 ∷ drop j a
drop-next a i j e h = rw e (drop-cons a i 0 h)

drop-four :
    (a : List ℕ) (i : ℕ) → i + 4 ≤ length a →
    drop i a ≡ get_or a i 0 ∷ get_or a (i + 1) 0 ∷ get_or a (i + 2) 0 ∷ get_or a (i + 3) 0 ∷ drop (i + 4) a
drop-four a i h =
    drop-next a i (i + 1) (omega arith) (omega arith)
    ∙ ap (λ l. get_or a i 0 ∷ l) (drop-next a (i + 1) (i + 2) (omega arith) (omega arith))
    ∙ ap (λ l. get_or a i 0 ∷ get_or a (i + 1) 0 ∷ l) (drop-next a (i + 2) (i + 3) (omega arith) (omega arith))
    ∙ ap (λ l. get_or a i 0 ∷ get_or a (i + 1) 0 ∷ get_or a (i + 2) 0 ∷ l)
    (drop-next a (i + 3) (i + 4) (omega arith) (omega arith))

-- an area of bytes is the bytes of its words
pub bytes-span : (a : List ℕ) → Bytes a → (count k : ℕ) → length a ≡ 4 * (k + count) → bytes (span (word a) k count) ≡ drop (4 * k) a
bytes-span a h zero k l = sym (drop_of_length-le a {i = 4 * k} (omega arith))
bytes-span a h (suc count) k l =
    (λ i.
    joined_0 x₀ x₁ x₂ x₃ (h _) (h _) (h _) (h _) i
    ∷ joined_1 x₀ x₁ x₂ x₃ (h _) (h _) (h _) (h _) i
    ∷ joined_2 x₀ x₁ x₂ x₃ (h _) (h _) (h _) (h _) i
    ∷ joined_3 x₀ x₁ x₂ x₃ (h _) (h _) (h _) (h _) i
    ∷ (bytes-span a h count (suc k) (omega arith) ∙ ap (λ n. drop n a) after) i)
    ∙ sym (drop-four a (4 * k) (omega arith))
  where
    x₀ : ℕ
    x₀ = get_or a (4 * k) 0

    x₁ : ℕ
    x₁ = get_or a (4 * k + 1) 0

    x₂ : ℕ
    x₂ = get_or a (4 * k + 2) 0

    x₃ : ℕ
    x₃ = get_or a (4 * k + 3) 0

    after : 4 * suc k ≡ 4 * k + 4
    after = omega arith

-- ---- bytes stay bytes

get_or_set_byte : (a : List ℕ) (i v : ℕ) → Bytes a → v < 256 → Bytes (set a i v)
get_or_set_byte a i v h l j =
    either_way (eqb j i) (λ e. rw (eqb-true j i e) (by_length (dec_lt i (length a))))
    (λ e. rw (get_or-set_other a i j v 0 (eqb-false j i e)) (h j))
  where
    by_length : Dec (i < length a) → get_or (set a i v) i 0 < 256
    by_length (yes q) = rw (get_or-set_same a i v 0 q) l
    by_length (no q) = rw (set_out a i v (omega arith)) (h i)

pub bytes-put : (a : List ℕ) (k v : ℕ) → Bytes a → Bytes (put_word a k v)
bytes-put a k v h =
    get_or_set_byte a₃ (4 * k + 3) (v / 16777216 % 256)
    (get_or_set_byte a₂ (4 * k + 2) (v / 65536 % 256)
    (get_or_set_byte a₁ (4 * k + 1) (v / 256 % 256) (get_or_set_byte a (4 * k) (v % 256) h (omega arith)) (omega arith)) (omega arith))
    (omega arith)
  where
    a₁ : List ℕ
    a₁ = set a (4 * k) (v % 256)

    a₂ : List ℕ
    a₂ = set a₁ (4 * k + 1) (v / 256 % 256)

    a₃ : List ℕ
    a₃ = set a₂ (4 * k + 2) (v / 65536 % 256)

pub bytes-bytes : (ws : List ℕ) → Bytes (bytes ws)
bytes-bytes [] i = omega arith
bytes-bytes (v ∷ vs) zero = omega arith
bytes-bytes (v ∷ vs) (suc zero) = omega arith
bytes-bytes (v ∷ vs) (suc (suc zero)) = omega arith
bytes-bytes (v ∷ vs) (suc (suc (suc zero))) = omega arith
bytes-bytes (v ∷ vs) (suc (suc (suc (suc i)))) = bytes-bytes vs i

pub word_low : (a : List ℕ) → Bytes a → (k : ℕ) → word a k ≤ most_word
word_low a h k = omega (arith, h (4 * k), h (4 * k + 1), h (4 * k + 2), h (4 * k + 3))

-- ---- several words put, one after the other

-- every element of a list is a word
abbrev pub OfWords : List ℕ → Type 0
OfWords [] = Unit {0}
OfWords (v ∷ l) = (v ≤ most_word) × OfWords l

-- the area with its words i + e, i + e + 1, .. from a list; and a table likewise
abbrev pub put_from : List ℕ → ℕ → ℕ → List ℕ → List ℕ
put_from a i e [] = a
put_from a i e (v ∷ vs) = put_from (put_word a (i + e) v) i (suc e) vs

abbrev pub upd_from : (ℕ → ℕ) → ℕ → ℕ → List ℕ → ℕ → ℕ
upd_from at i e [] = at
upd_from at i e (v ∷ vs) = upd_from (upd at (i + e) v) i (suc e) vs

pub length-put_from : (a : List ℕ) (i e : ℕ) (vs : List ℕ) → length (put_from a i e vs) ≡ length a
length-put_from a i e [] = refl
length-put_from a i e (v ∷ vs) = length-put_from (put_word a (i + e) v) i (suc e) vs ∙ length-put_word a (i + e) v

pub bytes-put_from : (a : List ℕ) (i e : ℕ) (vs : List ℕ) → Bytes a → Bytes (put_from a i e vs)
bytes-put_from a i e [] h = h
bytes-put_from a i e (v ∷ vs) h = bytes-put_from (put_word a (i + e) v) i (suc e) vs (bytes-put a (i + e) v h)

pub word-put_from :
    (a : List ℕ) (i e : ℕ) (vs : List ℕ) → 4 * (i + e + length vs) ≤ length a → OfWords vs →
    word (put_from a i e vs) ≡ upd_from (word a) i e vs
word-put_from a i e [] fit all = refl
word-put_from a i e (v ∷ vs) fit all =
    word-put_from (put_word a (i + e) v) i (suc e) vs (omega (arith, length-put_word a (i + e) v)) all.1
    ∙ ap (λ f. upd_from f i (suc e) vs) (word-put a (i + e) v (omega arith) (omega arith))

pub upd_from_other :
    (at : ℕ → ℕ) (i e : ℕ) (vs : List ℕ) (j : ℕ) → (i + e ≤ j → j < i + e + length vs → ⊥) → upd_from at i e vs j ≡ at j
upd_from_other at i e [] j h = refl
upd_from_other at i e (v ∷ vs) j h =
    upd_from_other (upd at (i + e) v) i (suc e) vs j (λ l u. h (omega arith) (omega arith))
    ∙ upd_other at (i + e) j v (λ q. h (omega arith) (omega arith))

pub upd_from_at : (at : ℕ → ℕ) (i e : ℕ) (vs : List ℕ) (k : ℕ) → k < length vs → upd_from at i e vs (i + (e + k)) ≡ get_or vs k 0
upd_from_at at i e [] k h = absurd (omega arith)
upd_from_at at i e (v ∷ vs) zero h =
    rw (add-zero e)
    (upd_from_other (upd at (i + e) v) i (suc e) vs (i + e) (λ l u. omega arith) ∙ upd_same at (i + e) v)
upd_from_at at i e (v ∷ vs) (suc k) h =
    let q : i + (e + suc k) ≡ i + (suc e + k) = omega arith in
    rw q (upd_from_at (upd at (i + e) v) i (suc e) vs k (omega arith))

pub low_at : (l : List ℕ) → OfWords l → (k : ℕ) → get_or l k 0 < 4294967296
low_at [] all k = omega arith
low_at (v ∷ l) all zero = omega arith
low_at (v ∷ l) all (suc k) = low_at l all.1 k

pub low-append : (l m : List ℕ) → OfWords l → OfWords m → OfWords (l ++ m)
low-append [] m x y = y
low-append (v ∷ l) m x y = (x.0, low-append l m x.1 y)
