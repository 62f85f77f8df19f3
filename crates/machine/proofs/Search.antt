-- The searches among the first k blocks, one block more at a time: what their loops go by. Assumes nothing.
use Rattle.std.specs.Prelude.{Option, Some, None, unwrap_or}
use mathlib.Core.Path.{◌≡◌, refl, ◌∙◌, sym, ap, ap₂}
use mathlib.Core.Bool.{Bool, true, false, not}
use Prim.Native.Nat.{ℕ, zero, suc, ◌+◌, ◌<◌, ◌≤◌}
use native.Mathlib.Numerals.{add-one}
use native.Mathlib.Decide.{dec_lt}
use native.Mathlib.Omega.{arith}
use lib.Dec.{ltb}
use borrow.Author.Tests.{eq-eqb, ne_eqb, lt-ltb, le-ltb}
use Rattle.meaning.specs.declared.Thread.{Thread}
use Rattle.meaning.specs.declared.Effect.{Effect}
use Rattle.meaning.specs.declared.Verdict.{Verdict}
use Rattle.meaning.specs.Choosing.{lowest_free, challenge, best, to_block, least_worn, from_block}
use Rattle.meaning.specs.Limits.{most_blocks, most_word}
use Rattle.meaning.specs.Holding.{free}
use Rattle.meaning.specs.Store.{Store}
use Rattle.meaning.specs.Step.{next, set_p, set_q, nothing}
use Rattle.meaning.proofs.Base.Searches.{finds, finds-nobody, Best, best-finds}
use Rattle.machine.specs.Judging.{Ranks, chosen_of}

-- ---- the lowest free block

-- none of the first k is free, and neither is k
pub lowest-more : (header : ℕ → ℕ) (k : ℕ) → lowest_free header k ≡ k → (header k ≡ 0 → ⊥) → lowest_free header (k + 1) ≡ k + 1
lowest-more header k e h = rw (add-one, e, ne_eqb (header k) 0 h, le-ltb k k (omega arith))

-- none of the first k is free, and k is
pub lowest-found : (header : ℕ → ℕ) (k n : ℕ) → lowest_free header k ≡ k → header k ≡ 0 → k < n → lowest_free header n ≡ k
lowest-found header k zero e h l = absurd (omega arith)
lowest-found header k (suc n) e h l = by_order (dec_lt k n) (λ q. lowest-found header k n e h q)
  where
    by_order : Dec (k < n) → (k < n → lowest_free header n ≡ k) → lowest_free header (suc n) ≡ k
    by_order (yes q) earlier = rw (earlier q, lt-ltb k n q)
    by_order (no q) earlier =
        let i : n ≡ k = omega arith in
        rw (i, e, h, le-ltb k k (omega arith))

-- ---- the best block

-- what is found is among the first n
best-below : (eligible : ℕ → Bool) (beats : ℕ → ℕ → Bool) (n room : ℕ) → n ≤ room → 0 < room → unwrap_or (best eligible beats n) 0 < room
best-below eligible beats n room h p = by_found (best-finds eligible beats n)
  where
    by_found : Best eligible beats n → unwrap_or (best eligible beats n) 0 < room
    by_found (finds m b f e) = rw e (omega arith)
    by_found (finds-nobody all e) = rw e p

-- so it is a block that there may be
pub found-below :
    (eligible : ℕ → Bool) (beats : ℕ → ℕ → Bool) (n : ℕ) {f : Option ℕ} → f ≡ best eligible beats n → n ≤ most_blocks → unwrap_or f 0 < most_blocks
found-below eligible beats n q h = rw q (best-below eligible beats n most_blocks h (omega arith))

-- which blocks are in question in the search for "to" and for "from", and which of two beats the other
abbrev unused : (ℕ → ℕ) → ℕ → Bool
unused header m = free (header m)

abbrev used : (ℕ → ℕ) → ℕ → Bool
used header m = not (free (header m))

abbrev more_worn : (ℕ → ℕ) → ℕ → ℕ → Bool
more_worn wear k m = ltb (wear m) (wear k)

abbrev less_worn : (ℕ → ℕ) → ℕ → ℕ → Bool
less_worn wear k m = ltb (wear k) (wear m)

pub to_block_below : (header wear : ℕ → ℕ) (n : ℕ) {f : Option ℕ} → f ≡ to_block header wear n → n ≤ most_blocks → unwrap_or f 0 < most_blocks
to_block_below header wear n e h = found-below (unused header) (more_worn wear) n e h

pub least_worn_below : (header wear : ℕ → ℕ) (n : ℕ) {f : Option ℕ} → f ≡ least_worn header wear n → n ≤ most_blocks → unwrap_or f 0 < most_blocks
least_worn_below header wear n e h = found-below (used header) (less_worn wear) n e h

-- ---- a search that keeps the least key

-- What the loop over the keys has found of the blocks passed: nobody, and the least key is more than any word, or a block, and the least key is its.
pub data Leads (gives : ℕ → Option ℕ → Type 0) (eligible : ℕ → Bool) (beats : ℕ → ℕ → Bool) (k at least : ℕ) : Type 0 where
  nobody : best eligible beats k ≡ None → least ≡ most_word + 1 → Leads gives eligible beats k at least
  somebody : best eligible beats k ≡ Some at → at < k → gives at (Some least) → least ≤ most_word → Leads gives eligible beats k at least

module _ {gives : ℕ → Option ℕ → Type 0} {eligible : ℕ → Bool} {beats : ℕ → ℕ → Bool} {n k at least : ℕ} (r : Ranks gives eligible beats n) (low : k < n) where
  -- one block more: it is not in question, or beats what was found, or does not
  pub leads-past : Leads gives eligible beats k at least → gives k None → Leads gives eligible beats (k + 1) at least
  leads-past (nobody e l) g = nobody (rw (add-one, r.without k low g) e) l
  leads-past (somebody e b i l) g = somebody (rw (add-one, r.without k low g) e) (omega arith) i l

  pub leads-taken :
      (w : ℕ) → Leads gives eligible beats k at least → gives k (Some w) → w ≤ most_word → w < least → Leads gives eligible beats (k + 1) k w
  leads-taken w (nobody e l) g f h = somebody (rw (add-one, r.with_key k w low g, e)) (omega arith) g f
  leads-taken w (somebody e b i l) g f h =
      somebody (rw (add-one, r.with_key k w low g, e, r.order k at w least low (omega arith) g i, lt-ltb w least h)) (omega arith) g f

  pub leads-stays :
      (w : ℕ) → Leads gives eligible beats k at least → gives k (Some w) → w ≤ most_word → least ≤ w → Leads gives eligible beats (k + 1) at least
  leads-stays w (nobody e l) g f h = absurd (omega arith)
  leads-stays w (somebody e b i l) g f h =
      somebody (rw (add-one, r.with_key k w low g, e, r.order k at w least low (omega arith) g i, le-ltb w least h)) (omega arith) i l

-- ---- a search that keeps a mark of the best: no loop does so now

-- what a loop has found of the blocks passed: nobody, and the mark is unset, or a block, and the mark is its
pub data Marked (mark : ℕ → ℕ) (unset : ℕ) : Option ℕ → ℕ → ℕ → Type 0 where
  nobody : (at : ℕ) → Marked mark unset None at unset
  somebody : (m : ℕ) → (mark m ≡ unset → ⊥) → Marked mark unset (Some m) m (mark m)

-- what is found in the end
pub marked-nobody : {mark : ℕ → ℕ} {unset : ℕ} {f : Option ℕ} {at bar : ℕ} → Marked mark unset f at bar → bar ≡ unset → None ≡ f
marked-nobody (nobody at) e = refl
marked-nobody (somebody m h) e = absurd (h e)

pub marked-somebody : {mark : ℕ → ℕ} {unset : ℕ} {f : Option ℕ} {at bar : ℕ} → Marked mark unset f at bar → (bar ≡ unset → ⊥) → Some at ≡ f
marked-somebody (nobody at) e = absurd (e refl)
marked-somebody (somebody m h) e = refl

-- one block more: it is not in question, or beats what was found, or does not
module _ (eligible : ℕ → Bool) (beats : ℕ → ℕ → Bool) {mark : ℕ → ℕ} {unset k at bar : ℕ} (h : Marked mark unset (best eligible beats k) at bar) where
  pub marked-passes : eligible k ≡ false → Marked mark unset (best eligible beats (k + 1)) at bar
  marked-passes e = rw (add-one, e) h

  pub marked-takes :
      eligible k ≡ true → (mark k ≡ unset → ⊥) → ((m : ℕ) → bar ≡ mark m → beats k m ≡ true) →
      Marked mark unset (best eligible beats (k + 1)) k (mark k)
  marked-takes e u w = rw (add-one, e) (taken h w)
    where
      taken :
          {f : Option ℕ} {at bar : ℕ} → Marked mark unset f at bar → ((m : ℕ) → bar ≡ mark m → beats k m ≡ true) →
          Marked mark unset (challenge true beats k f) k (mark k)
      taken (nobody at) w = somebody k u
      taken (somebody m i) w = rw (w m refl) (somebody k u)

  pub marked-stays :
      eligible k ≡ true → (bar ≡ unset → ⊥) → ((m : ℕ) → bar ≡ mark m → beats k m ≡ false) →
      Marked mark unset (best eligible beats (k + 1)) at bar
  marked-stays e u w = rw (add-one, e) (stayed h u w)
    where
      stayed :
          {f : Option ℕ} {at bar : ℕ} → Marked mark unset f at bar → (bar ≡ unset → ⊥) → ((m : ℕ) → bar ≡ mark m → beats k m ≡ false) →
          Marked mark unset (challenge true beats k f) at bar
      stayed (nobody at) u w = absurd (u refl)
      stayed (somebody m i) u w = rw (w m refl) (somebody m i)

-- "to", marked by one more than its wear
abbrev pub ToMarked : (ℕ → ℕ) → (ℕ → ℕ) → ℕ → ℕ → ℕ → Type 0
ToMarked header wear k at bar = Marked (λ m. wear m + 1) 0 (to_block header wear k) at bar

-- "from", marked by its wear, and by more than any word where there is none
abbrev pub FromMarked : (ℕ → ℕ) → (ℕ → ℕ) → ℕ → ℕ → ℕ → Type 0
FromMarked header wear k at least = Marked wear (most_word + 1) (least_worn header wear k) at least

module _ (header wear : ℕ → ℕ) (k : ℕ) {at mark : ℕ} where
  pub to_passes : ToMarked header wear k at mark → (header k ≡ 0 → ⊥) → ToMarked header wear (k + 1) at mark
  to_passes h e = marked-passes (unused header) (more_worn wear) h (ne_eqb (header k) 0 e)

  pub to_takes : ToMarked header wear k at mark → header k ≡ 0 → mark ≤ wear k → ToMarked header wear (k + 1) k (wear k + 1)
  to_takes h e l =
      marked-takes (unused header) (more_worn wear) h (eq-eqb (header k) 0 e) (λ q. omega arith)
      (λ m q. lt-ltb (wear m) (wear k) (omega arith))

  pub to_stays : ToMarked header wear k at mark → header k ≡ 0 → wear k < mark → ToMarked header wear (k + 1) at mark
  to_stays h e l =
      marked-stays (unused header) (more_worn wear) h (eq-eqb (header k) 0 e) (λ q. omega arith)
      (λ m q. le-ltb (wear m) (wear k) (omega arith))

  pub from-passes : FromMarked header wear k at mark → header k ≡ 0 → FromMarked header wear (k + 1) at mark
  from-passes h e = marked-passes (used header) (less_worn wear) h (ap not (eq-eqb (header k) 0 e))

  pub from-takes :
      FromMarked header wear k at mark → (header k ≡ 0 → ⊥) → wear k ≤ most_word → wear k < mark → FromMarked header wear (k + 1) k (wear k)
  from-takes h e f l =
      marked-takes (used header) (less_worn wear) h (ap not (ne_eqb (header k) 0 e)) (λ q. omega arith)
      (λ m q. lt-ltb (wear k) (wear m) (omega arith))

  pub from-stays :
      FromMarked header wear k at mark → (header k ≡ 0 → ⊥) → wear k ≤ most_word → mark ≤ wear k → FromMarked header wear (k + 1) at mark
  from-stays h e f l =
      marked-stays (used header) (less_worn wear) h (ap not (ne_eqb (header k) 0 e)) (λ q. omega arith)
      (λ m q. le-ltb (wear k) (wear m) (omega arith))

-- ---- from and to

-- L3's verdict, of what the searches found
pub chosen-found :
    (s : Store) (q : ℕ) (r : Thread) {to from : Option ℕ} {p : ℕ} {on : Thread} {e : Effect} {v : Verdict} →
    to ≡ to_block s.header s.wear s.blocks → to ≡ Some q → from ≡ least_worn s.header s.wear s.blocks → p ≡ from_block s.wear s.distance q from →
    on ≡ set_q q (set_p p r) → e ≡ nothing → v ≡ next on e → v ≡ chosen_of s r
chosen-found s q r t i f d o n v =
    rw (sym t ∙ i) (v ∙ ap₂ next (o ∙ ap (λ x. set_q q (set_p x r)) (d ∙ ap (from_block s.wear s.distance q) f)) n)
