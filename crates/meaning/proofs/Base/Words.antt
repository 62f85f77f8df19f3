-- Laws of words that are 0 or a number plus one (specs/Holding), of entries of a table, and of tests.
-- Assumes nothing.
use mathlib.Core.Path.{◌≡◌, refl, sym}
use mathlib.Core.Bool.{Bool, true, false, not, ◌&&◌, ◌||◌}
use Prim.Native.Nat.{ℕ, zero, suc, ◌+◌, ◌-◌, ◌<◌, ◌≤◌}
use native.Mathlib.Omega.{arith}
use lib.Dec.{eqb, leb}
use borrow.Author.Tests.{leb-true, eqb-true, eqb-false, eq-eqb, ne_eqb}
use Rattle.meaning.specs.Table.{upd, every}
use Rattle.meaning.specs.Limits.{within}
use Rattle.meaning.specs.Holding.{none, free, by, held_by, naming, named}

-- ---- tests

pub same : (k : ℕ) → eqb k k ≡ true
same k = eq-eqb k k refl

-- a test goes one way or the other
pub either_way : (b : Bool) {A : Type 0} → (b ≡ true → A) → (b ≡ false → A) → A
either_way true f g = f refl
either_way false f g = g refl

pub clash : {A : Type 0} {b : Bool} → b ≡ true → b ≡ false → A
clash x y = absurd (let z : ◌≡◌ {A = ℕ} 0 1 = cc in omega arith)

-- tests that imply each other are equal
pub two_ways : (a b : Bool) → (a ≡ true → b ≡ true) → (b ≡ true → a ≡ true) → a ≡ b
two_ways true b f g = sym (f refl)
two_ways false true f g = g refl
two_ways false false f g = refl

pub eqb_swap : (j k : ℕ) → eqb j k ≡ eqb k j
eqb_swap j k = two_ways (eqb j k) (eqb k j) (λ x. eq-eqb k j (sym (eqb-true j k x))) (λ x. eq-eqb j k (sym (eqb-true k j x)))

-- two tests go the same way
abbrev pub alike : Bool → Bool → Bool
alike true b = b
alike false b = not b

pub alike_is : (a b : Bool) → alike a b ≡ true → a ≡ b
alike_is true true x = refl
alike_is true false x = sym x
alike_is false true x = x
alike_is false false x = refl

pub and_left : (a b : Bool) → (a && b) ≡ true → a ≡ true
and_left true b e = refl
and_left false b e = e

pub and_right : (a b : Bool) → (a && b) ≡ true → b ≡ true
and_right true b e = e
and_right false b e = clash e refl

pub or_way : (a b : Bool) {A : Type 0} → (a || b) ≡ true → (a ≡ true → A) → (b ≡ true → A) → A
or_way true b e f g = f refl
or_way false b e f g = g e

-- a test of all numbers below a size
pub every_at : (k : ℕ) (test : ℕ → Bool) → every k test ≡ true → (l : ℕ) → l < k → test l ≡ true
every_at zero test all l below = absurd (omega arith)
every_at (suc k) test all l below =
    either_way (eqb l k) (λ e. rw (eqb-true l k e) (and_right (every k test) (test k) all))
    (λ e. let apart : l ≡ k → ⊥ = eqb-false l k e in every_at k test (and_left (every k test) (test k) all) l (omega arith))

pub all-every : (k : ℕ) (test : ℕ → Bool) → ((l : ℕ) → l < k → test l ≡ true) → every k test ≡ true
all-every zero test all = refl
all-every (suc k) test all = rw (all-every k test (λ l b. all l (omega arith)), all k (omega arith))

pub within_true : (low high x : ℕ) → within low high x ≡ true → (low ≤ x) × (x ≤ high)
within_true low high x e =
    (leb-true low x (and_left (leb low x) _ e), leb-true x high (and_right (leb low x) _ e))

-- ---- lock and owner words that have one thread: H and the headers' owner

pub by_held : (t : ℕ) → held_by t (by t) ≡ true
by_held t = same (t + 1)

pub by_other : (t v : ℕ) → (t ≡ v → ⊥) → held_by v (by t) ≡ false
by_other t v apart = ne_eqb (t + 1) (v + 1) (λ e. apart (omega arith))

pub none-held : (v : ℕ) → held_by v none ≡ false
none-held v = ne_eqb 0 (v + 1) (λ e. omega arith)

pub free-held : (v w : ℕ) → free w ≡ true → held_by v w ≡ false
free-held v w f = ne_eqb w (v + 1) (λ e. let z : w ≡ 0 = eqb-true w 0 f in omega arith)

pub held_is : (t w : ℕ) → held_by t w ≡ true → w ≡ by t
held_is t w h = eqb-true w (t + 1) h

pub held_not_free : (v w : ℕ) → held_by v w ≡ true → free w ≡ false
held_not_free v w h = ne_eqb w 0 (λ e. let z : w ≡ v + 1 = eqb-true w (v + 1) h in omega arith)

-- one word is held by one thread
pub held_once : (t v w : ℕ) → held_by t w ≡ true → held_by v w ≡ true → t ≡ v
held_once t v w h g =
    let x : w ≡ t + 1 = eqb-true w (t + 1) h in
    let y : w ≡ v + 1 = eqb-true w (v + 1) g in
    omega arith

-- what is not free is held by somebody, and what nobody holds is free
pub somebody_holds : (w : ℕ) → free w ≡ false → (v : ℕ) × (held_by v w ≡ true)
somebody_holds w f =
    let g : w ≡ 0 → ⊥ = eqb-false w 0 f in
    (named w, eq-eqb w (w - 1 + 1) (omega arith))

pub nobody-free : (w : ℕ) → ((v : ℕ) → held_by v w ≡ false) → free w ≡ true
nobody-free w nobody = either_way (free w) (λ f. f) (λ f. let x = somebody_holds w f in clash x.1 (nobody x.0))

-- so is what nobody but t could hold, if t doesn't
pub alone-free : (t w : ℕ) → held_by t w ≡ false → ((v : ℕ) → held_by v w ≡ true → t ≡ v) → free w ≡ true
alone-free t w lacks alone =
    nobody-free w (λ v. either_way (held_by v w) (λ h. rw (← alone v h) lacks) (λ h. h))

-- a word that only threads below a bound hold is at most the bound
pub held_below : (w bound : ℕ) → ((v : ℕ) → held_by v w ≡ true → v < bound) → w ≤ bound
held_below w bound below =
    either_way (free w) (λ f. let z : w ≡ 0 = eqb-true w 0 f in omega arith)
    (λ f.
    let holder = somebody_holds w f in
    let is = held_is holder.0 w holder.1 in
    let b = below holder.0 holder.1 in
    omega arith)

-- ---- words that name

pub naming_once : (j k : ℕ) → naming j ≡ naming k → j ≡ k
naming_once j k e = omega arith

pub naming_not_none : {A : Type 0} (k w : ℕ) → w ≡ naming k → w ≡ none → A
naming_not_none k w e f = absurd (omega arith)

pub naming_not_free : (k w : ℕ) → w ≡ naming k → free w ≡ false
naming_not_free k w e = ne_eqb w 0 (λ z. omega arith)

pub free-none : (w : ℕ) → free w ≡ true → w ≡ none
free-none w f = eqb-true w 0 f

pub naming-named : (w : ℕ) → free w ≡ false → w ≡ naming (named w)
naming-named w f = let g : w ≡ 0 → ⊥ = eqb-false w 0 f in omega arith

pub named-naming : (k : ℕ) → named (naming k) ≡ k
named-naming k = omega arith

-- what a word names is in range if the word is
pub named-below : (w k : ℕ) → free w ≡ false → w ≤ k → named w < k
named-below w k f b = let g : w ≡ 0 → ⊥ = eqb-false w 0 f in omega arith

-- ---- entries of a table

pub upd_same : {A : Type 0} (f : ℕ → A) (i : ℕ) (v : A) → upd f i v i ≡ v
upd_same f i v = rw (same i)

pub upd_other : {A : Type 0} (f : ℕ → A) (i j : ℕ) (v : A) → (i ≡ j → ⊥) → upd f i v j ≡ f j
upd_other f i j v apart = rw (ne_eqb i j apart)

-- what holds of an entry before and of the value put holds of it after
pub upd_each : {A : Type 0} (P : ℕ → A → Type 0) (f : ℕ → A) (i : ℕ) (v : A) → P i v →
    ((j : ℕ) → (i ≡ j → ⊥) → P j (f j)) → (j : ℕ) → P j (upd f i v j)
upd_each P f i v new old j =
    either_way (eqb i j) (λ e. rw (sym (eqb-true i j e), upd_same f i v) new) (λ e. rw e (old j (eqb-false i j e)))
