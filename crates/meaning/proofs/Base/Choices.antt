-- What the searches of specs/Choosing find is what 01 asks for, as specs/Chosen says it: the lowest free block, the most worn free
-- block, the least worn mapped one, the lowest of those that tie; and nobody exactly where there is none.
-- Assumes nothing.
use Rattle.std.specs.Prelude.{Option, Some, None}
use mathlib.Core.Path.{◌≡◌, refl, sym, ap}
use mathlib.Core.Bool.{Bool, true, false, not}
use Prim.Native.Nat.{ℕ, zero, suc, ◌<◌, ◌≤◌}
use native.Mathlib.Omega.{arith}
use lib.Dec.{eqb, ltb}
use borrow.Author.Tests.{eqb-true, eqb-false, eq-eqb, ne_eqb, ltb-true, ltb-false, lt-ltb, le-ltb, not-true}
use Rattle.meaning.specs.Holding.{free}
use Rattle.meaning.specs.Choosing.{lowest_free, challenge, best, to_block, least_worn}
use Rattle.meaning.specs.Chosen.{Free, Mapped, IsTo, IsLeastWorn, YieldsLowest, Chooses}
use Rattle.meaning.proofs.Base.Words.{either_way, clash}
use Rattle.meaning.proofs.Base.Searches.{finds, finds-nobody, Lowest, lowest-finds}

-- ---- the lowest free block

-- no block below what the search yields is free
below-lowest : (header : ℕ → ℕ) (k j : ℕ) → j < lowest_free header k → free (header j) ≡ false
below-lowest header zero j b = absurd (omega arith)
below-lowest header (suc k) j b =
    either_way (ltb (lowest_free header k) k)
    (λ x. below-lowest header k j (rw x at b))
    (λ x.
    let past : k ≤ lowest_free header k = ltb-false (lowest_free header k) k x in
    either_way (free (header k))
    (λ f. let c : j < k = rw (x, f) at b in below-lowest header k j (omega arith))
    (λ f.
    let c : j < suc k = rw (x, f) at b in
    either_way (eqb j k) (λ e. rw (eqb-true j k e) f)
    (λ e. let apart : j ≡ k → ⊥ = eqb-false j k e in below-lowest header k j (omega arith))))

pub lowest-chosen : (header : ℕ → ℕ) (k : ℕ) → YieldsLowest header k (lowest_free header k)
lowest-chosen header k = go (lowest-finds header k)
  where
    lower : (j : ℕ) → j < lowest_free header k → Mapped header j
    lower j b = eqb-false (header j) 0 (below-lowest header k j b)

    go : Lowest header k → YieldsLowest header k (lowest_free header k)
    go (finds l b f e) =
        let found : Free header l = eqb-true (header l) 0 f in
        record {
          one =
              λ m d. (
                λ x. record { is_free = rw (← x, e) found; lower = λ j c. lower j (omega arith) },
                λ x.
                    let y : m < l → ⊥ = λ c. lower m (omega arith) x.is_free in
                    let z : l < m → ⊥ = λ c. x.lower l c found in
                    omega arith,
              );
          below = (λ x. (l, b, found), λ x. omega arith);
          nobody = (λ x. absurd (omega arith), λ none. absurd (none l b found));
        }
    go (finds-nobody all e) =
        record {
          one = λ m d. (λ x. absurd (omega arith), λ x. clash (eq-eqb (header m) 0 x.is_free) (all m d));
          below = (λ x. absurd (omega arith), λ x. clash (eq-eqb (header x.0) 0 x.2) (all x.0 x.1));
          nobody = (λ x m b. eqb-false (header m) 0 (all m b), λ none. e);
        }

-- ---- the best

-- a test that compares: whoever beats m beats all that don't beat m, and isn't beaten by whom it beats
record Compares (beats : ℕ → ℕ → Bool) : Type 0 where
  all : (j m k : ℕ) → beats k m ≡ true → beats j m ≡ false → beats k j ≡ true
  once : (j k : ℕ) → beats k j ≡ true → beats j k ≡ false

module _ (eligible : ℕ → Bool) (beats : ℕ → ℕ → Bool) (k : ℕ) where
  -- m is eligible, no eligible one of the first k beats it, and it beats those with a lower number
  record Wins (m : ℕ) : Type 0 where
    inside : m < k
    is_eligible : eligible m ≡ true
    unbeaten : (j : ℕ) → j < k → eligible j ≡ true → beats j m ≡ false
    lower : (j : ℕ) → j < m → eligible j ≡ true → beats m j ≡ true

  -- what a search has found: nobody is eligible, or it is the one that wins
  abbrev Settled : Option ℕ → Type 0
  Settled None = (j : ℕ) → j < k → eligible j ≡ true → ⊥
  Settled (Some m) = Wins m

module _ (eligible : ℕ → Bool) (beats : ℕ → ℕ → Bool) (compares : Compares beats) where
  -- what holds of the eligible ones below k and of k
  and_last : (A : ℕ → Type 0) (k : ℕ) → ((j : ℕ) → j < k → eligible j ≡ true → A j) → (eligible k ≡ true → A k) →
      (j : ℕ) → j < suc k → eligible j ≡ true → A j
  and_last A k below last j b x =
      either_way (eqb j k) (λ e. rw (eqb-true j k e) (last (rw (eqb-true j k e) at x)))
      (λ e. let apart : j ≡ k → ⊥ = eqb-false j k e in below j (omega arith) x)

  -- k, which beats all before it
  last_wins : (k : ℕ) → eligible k ≡ true → ((j : ℕ) → j < k → eligible j ≡ true → beats k j ≡ true) → Wins eligible beats (suc k) k
  last_wins k x beaten =
      record {
        inside = omega arith;
        is_eligible = x;
        unbeaten =
            and_last (λ j. beats j k ≡ false) k (λ j b y. compares.once j k (beaten j b y))
            (λ y. either_way (beats k k) (compares.once k k) (λ z. z));
        lower = beaten;
      }

  -- m, which k doesn't beat
  still-wins : (k m : ℕ) → (eligible k ≡ true → beats k m ≡ false) → Wins eligible beats k m → Wins eligible beats (suc k) m
  still-wins k m last w =
      record {
        inside = let b = w.inside in omega arith;
        is_eligible = w.is_eligible;
        unbeaten = and_last (λ j. beats j m ≡ false) k w.unbeaten last;
        lower = w.lower;
      }

  challenge-wins : (k : ℕ) (x : Bool) (found : Option ℕ) → eligible k ≡ x → Settled eligible beats k found →
      Settled eligible beats (suc k) (challenge x beats k found)
  challenge-wins k false None e w = and_last (λ j. ⊥) k w (λ y. clash y e)
  challenge-wins k false (Some m) e w = still-wins k m (λ y. clash y e) w
  challenge-wins k true None e w = last_wins k e (λ j b y. absurd (w j b y))
  challenge-wins k true (Some m) e w =
      either_way (beats k m) (λ x. rw x (last_wins k e (λ j b y. compares.all j m k x (w.unbeaten j b y))))
      (λ x. rw x (still-wins k m (λ y. x) w))

  -- what beats the best so far takes its place, and so the best wins
  best-wins : (k : ℕ) → Settled eligible beats k (best eligible beats k)
  best-wins zero = λ j b x. omega arith
  best-wins (suc k) = challenge-wins k (eligible k) (best eligible beats k) refl (best-wins k)

  -- it is the one that is asked for, where who wins is asked for, and no two are
  best-chosen : (k : ℕ) (is such : ℕ → Type 0) → ((m : ℕ) → such m → eligible m ≡ true) → ((m : ℕ) → eligible m ≡ true → such m) →
      ((m : ℕ) → Wins eligible beats k m → is m) → ((m : ℕ) → is m → (m < k) × such m) → ((m l : ℕ) → is m → is l → m < l → ⊥) →
      Chooses (best eligible beats k) is such k
  best-chosen k is such test tested wins one-such no-two = go (best eligible beats k) (best-wins k)
    where
      unique : (m l : ℕ) → is m → is l → m ≡ l
      unique m l x y = let low = no-two m l x y in let high = no-two l m y x in omega arith

      apart : {A : Type 0} (m : ℕ) → None ≡ Some m → A
      apart m e = absurd (let z : ◌≡◌ {A = ℕ} 0 1 = cc in omega arith)

      go : (found : Option ℕ) → Settled eligible beats k found → Chooses found is such k
      go None w =
          record {
            one = λ m. (λ e. apart m e, λ x. let y = one-such m x in absurd (w m y.0 (test m y.1)));
            nobody = (λ e m b x. w m b (test m x), λ none. refl);
          }
      go (Some l) w =
          record {
            one = λ m. (λ e. let y : l ≡ m = cc in rw (← y) (wins l w), λ x. ap Some (unique l m (wins l w) x));
            nobody = (λ e. apart l (sym e), λ none. absurd (none l w.inside (tested l w.is_eligible)));
          }

-- ---- "to" and "from"

pub to_chosen : (header wear : ℕ → ℕ) (k : ℕ) → Chooses (to_block header wear k) (IsTo header wear k) (Free header) k
to_chosen header wear k =
    best-chosen (λ m. free (header m)) (λ j m. ltb (wear m) (wear j))
    (record {
      all = λ j m l x y. lt-ltb (wear j) (wear l) (omega (arith, ltb-true, ltb-false));
      once = λ j l x. le-ltb (wear l) (wear j) (omega (arith, ltb-true));
    })
    k (IsTo header wear k) (Free header) (λ m. eq-eqb (header m) 0) (λ m. eqb-true (header m) 0)
    (λ m w.
    record {
      inside = w.inside;
      is_free = eqb-true (header m) 0 w.is_eligible;
      most = λ j b f. ltb-false (wear m) (wear j) (w.unbeaten j b (eq-eqb (header j) 0 f));
      lower = λ j b f. ltb-true (wear j) (wear m) (w.lower j b (eq-eqb (header j) 0 f));
    })
    (λ m x. (x.inside, x.is_free)) (λ m l x y b. omega (arith, y.lower m b x.is_free, x.most l y.inside y.is_free))

pub least_worn_chosen :
    (header wear : ℕ → ℕ) (k : ℕ) → Chooses (least_worn header wear k) (IsLeastWorn header wear k) (Mapped header) k
least_worn_chosen header wear k =
    best-chosen (λ m. not (free (header m))) (λ j m. ltb (wear j) (wear m))
    (record {
      all = λ j m l x y. lt-ltb (wear l) (wear j) (omega (arith, ltb-true, ltb-false));
      once = λ j l x. le-ltb (wear j) (wear l) (omega (arith, ltb-true));
    })
    k (IsLeastWorn header wear k) (Mapped header) test tested
    (λ m w.
    record {
      inside = w.inside;
      is_mapped = tested m w.is_eligible;
      least = λ j b f. ltb-false (wear j) (wear m) (w.unbeaten j b (test j f));
      lower = λ j b f. ltb-true (wear m) (wear j) (w.lower j b (test j f));
    })
    (λ m x. (x.inside, x.is_mapped)) (λ m l x y b. omega (arith, y.lower m b x.is_mapped, x.least l y.inside y.is_mapped))
  where
    test : (m : ℕ) → Mapped header m → not (free (header m)) ≡ true
    test m x = rw (ne_eqb (header m) 0 x)

    tested : (m : ℕ) → not (free (header m)) ≡ true → Mapped header m
    tested m x = eqb-false (header m) 0 (not-true (free (header m)) x)
