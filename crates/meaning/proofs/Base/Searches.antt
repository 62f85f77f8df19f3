-- What the searches of specs/Choosing find, and that there is a free block to be found where W5 and L3 ask: while no block is astray,
-- no number has two blocks, and there are more blocks than numbers.
-- Assumes nothing.
use Rattle.std.specs.Prelude.{Some, None}
use mathlib.Core.Path.{◌≡◌, refl, sym, ◌∙◌}
use mathlib.Core.Bool.{Bool, true, false, not, cond}
use Prim.Native.Nat.{ℕ, zero, suc, ◌+◌, ◌<◌, ◌≤◌}
use native.Mathlib.Omega.{arith}
use lib.Dec.{eqb, ltb}
use borrow.Author.Tests.{eqb-true, eqb-false, lt-ltb, le-ltb}
use Rattle.meaning.specs.Holding.{free, naming, named}
use Rattle.meaning.specs.Choosing.{lowest_free, best, to_block, least_worn, from_block}
use Rattle.meaning.proofs.Base.Words.{either_way, naming-named, named-below}

-- ---- pigeons

-- f with the value x in place of y
abbrev instead : (ℕ → ℕ) → ℕ → ℕ → ℕ → ℕ
instead f x y m = cond (eqb (f m) y) x (f m)

-- where f takes the first p numbers to different numbers below n, p is at most n
roomy : (n p : ℕ) (f : ℕ → ℕ) → ((m : ℕ) → m < p → f m < n) →
    ((m l : ℕ) → m < p → l < p → f m ≡ f l → m ≡ l) → p ≤ n
roomy n zero f small once = omega arith
roomy zero (suc p) f small once = absurd (let x : f p < 0 = small p (omega arith) in omega arith)
roomy (suc n) (suc p) f small once = let rest : p ≤ n = roomy n p (instead f (f p) n) small' once' in omega arith
  where
    -- f p takes the place of n, which no other number has then
    small' : (m : ℕ) → m < p → instead f (f p) n m < n
    small' m b =
        either_way (eqb (f m) n)
        (λ e.
        let x : f m ≡ n = eqb-true (f m) n e in
        let y : f p < suc n = small p (omega arith) in
        let z : f p ≡ n → ⊥ = λ w. (let v : p ≡ m = once p m (omega arith) (omega arith) (omega arith) in omega arith) in
        rw e (omega arith))
        (λ e.
        let x : f m ≡ n → ⊥ = eqb-false (f m) n e in
        let y : f m < suc n = small m (omega arith) in
        rw e (omega arith))

    first : (m l : ℕ) → m < p → l < p → eqb (f m) n ≡ true → instead f (f p) n m ≡ instead f (f p) n l → m ≡ l
    first m l b d e x =
        either_way (eqb (f l) n)
        (λ g. once m l (omega arith) (omega arith) (eqb-true (f m) n e ∙ sym (eqb-true (f l) n g)))
        (λ g. let z : p ≡ l = once p l (omega arith) (omega arith) (rw (e, g) at x) in absurd (omega arith))

    once' : (m l : ℕ) → m < p → l < p → instead f (f p) n m ≡ instead f (f p) n l → m ≡ l
    once' m l b d x =
        either_way (eqb (f m) n) (λ e. first m l b d e x)
        (λ e. either_way (eqb (f l) n) (λ g. sym (first l m d b g (sym x)))
        (λ g. once m l (omega arith) (omega arith) (rw (e, g) at x)))

-- where each header points to a number that is mapped back, not all blocks have one
pub crowded : (map header : ℕ → ℕ) (numbers blocks : ℕ) → numbers < blocks → ((m : ℕ) → header m ≤ numbers) →
    ((m k : ℕ) → header m ≡ naming k → map k ≡ naming m) → ((m : ℕ) → m < blocks → free (header m) ≡ false) → ⊥
crowded map header numbers blocks more below back full =
    let few : blocks ≤ numbers =
    roomy numbers blocks (λ m. named (header m)) (λ m b. named-below (header m) numbers (full m b) (below m)) once in
    omega arith
  where
    once : (m l : ℕ) → m < blocks → l < blocks → named (header m) ≡ named (header l) → m ≡ l
    once m l b d e =
        let x : map (named (header m)) ≡ naming m = back m (named (header m)) (naming-named (header m) (full m b)) in
        let y : map (named (header l)) ≡ naming l = back l (named (header l)) (naming-named (header l) (full l d)) in
        let z : naming m ≡ naming l = rw e at (sym x) ∙ y in
        omega arith

-- ---- searches

-- what a search among the first k finds: the one, or nobody is there
pub data Finds (eligible : ℕ → Bool) (k : ℕ) (one : ℕ → Type 0) (nobody : Type 0) : Type 0 where
  finds : (m : ℕ) → m < k → eligible m ≡ true → one m → Finds eligible k one nobody
  finds-nobody : ((m : ℕ) → m < k → eligible m ≡ false) → nobody → Finds eligible k one nobody

-- one more at the end of those that are not eligible
more : (eligible : ℕ → Bool) (k : ℕ) → ((m : ℕ) → m < k → eligible m ≡ false) → eligible k ≡ false →
    (m : ℕ) → m < suc k → eligible m ≡ false
more eligible k all last m b =
    either_way (eqb m k) (λ e. rw (eqb-true m k e) last)
    (λ e. let x : m ≡ k → ⊥ = eqb-false m k e in all m (omega arith))

abbrev pub Lowest : (ℕ → ℕ) → ℕ → Type 0
Lowest header k = Finds (λ m. free (header m)) k (λ m. lowest_free header k ≡ m) (lowest_free header k ≡ k)

pub lowest-finds : (header : ℕ → ℕ) (k : ℕ) → Lowest header k
lowest-finds header zero = finds-nobody (λ m b. absurd (omega arith)) refl
lowest-finds header (suc k) = go (lowest-finds header k)
  where
    go : Lowest header k → Lowest header (suc k)
    go (finds m b f e) = finds m (omega arith) f (rw (e, lt-ltb m k b))
    go (finds-nobody all e) =
        either_way (free (header k)) (λ f. finds k (omega arith) f (rw (e, le-ltb k k (omega arith), f)))
        (λ f. finds-nobody (more (λ m. free (header m)) k all f) (rw (e, le-ltb k k (omega arith), f)))

abbrev pub Best : (ℕ → Bool) → (ℕ → ℕ → Bool) → ℕ → Type 0
Best eligible beats k = Finds eligible k (λ m. best eligible beats k ≡ Some m) (best eligible beats k ≡ None)

pub best-finds : (eligible : ℕ → Bool) (beats : ℕ → ℕ → Bool) (k : ℕ) → Best eligible beats k
best-finds eligible beats zero = finds-nobody (λ m b. absurd (omega arith)) refl
best-finds eligible beats (suc k) = go (best-finds eligible beats k)
  where
    go : Best eligible beats k → Best eligible beats (suc k)
    go (finds m b f e) =
        either_way (eligible k)
        (λ x. either_way (beats k m) (λ w. finds k (omega arith) x (rw (e, x, w))) (λ w. finds m (omega arith) f (rw (e, x, w))))
        (λ x. finds m (omega arith) f (rw (e, x)))
    go (finds-nobody all e) =
        either_way (eligible k) (λ x. finds k (omega arith) x (rw (e, x))) (λ x. finds-nobody (more eligible k all x) (rw (e, x)))

-- "to", and "from" before the distance is looked at
abbrev pub To : (ℕ → ℕ) → (ℕ → ℕ) → ℕ → Type 0
To header wear k = Finds (λ m. free (header m)) k (λ m. to_block header wear k ≡ Some m) (to_block header wear k ≡ None)

pub to_finds : (header wear : ℕ → ℕ) (k : ℕ) → To header wear k
to_finds header wear k = best-finds _ _ k

abbrev pub LeastWorn : (ℕ → ℕ) → (ℕ → ℕ) → ℕ → Type 0
LeastWorn header wear k =
    Finds (λ m. not (free (header m))) k (λ m. least_worn header wear k ≡ Some m) (least_worn header wear k ≡ None)

pub least_worn_finds : (header wear : ℕ → ℕ) (k : ℕ) → LeastWorn header wear k
least_worn_finds header wear k = best-finds _ _ k

-- what levelling moves from is one of the blocks
pub from-below : (header wear : ℕ → ℕ) (distance blocks to : ℕ) → to < blocks →
    from_block wear distance to (least_worn header wear blocks) < blocks
from-below header wear distance blocks to below = go (least_worn_finds header wear blocks)
  where
    go : LeastWorn header wear blocks → from_block wear distance to (least_worn header wear blocks) < blocks
    go (finds m b f e) = rw e (either_way (ltb (wear to) (wear m + distance)) (λ x. rw x below) (λ x. rw x b))
    go (finds-nobody all e) = rw e below
