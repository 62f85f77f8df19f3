-- What decoding a live area gives: its sizes are those of `Live`, and a test of all entries of a table is a test of the area's words.
-- And when a table of so many entries is another one, and laws of `every`. Assumes nothing.
use mathlib.Core.Path.{◌≡◌, refl, ◌∙◌, sym, ap, ap₂, fun_ext}
use mathlib.Core.Bool.{Bool, ◌&&◌}
use mathlib.Core.List.{List}
use Prim.Native.Nat.{ℕ, zero, suc, ◌+◌, ◌*◌, ◌<◌, ◌≤◌}
use native.Mathlib.Numerals.{add-one}
use native.Mathlib.Omega.{arith}
use lib.Dec.{leb, ltb}
use borrow.Author.Tests.{lt-ltb, ltb-true, ltb-false}
use Rattle.meaning.specs.Table.{below, every}
use Rattle.meaning.specs.Store.{idle}
use Rattle.meaning.specs.Holding.{proper}
use Rattle.meaning.proofs.Base.Words.{either_way}
use Rattle.store.specs.Layout.{lock_at, owner_at, threads_at, thread_words, map_at, locks_at, blocks_at, block_words}
use Rattle.store.specs.Area.{word, thread_from, store_of, decode, sound_thread, in_bounds}
use Rattle.store.specs.Live.{Live}

pub decode-live : {a : List ℕ} {t n p : ℕ} → Live a t n p → decode a ≡ store_of (word a) t n p
decode-live {a} v = λ i. store_of (word a) (v.threads i) (v.numbers i) (v.blocks i)

-- a table is another below the size, and so is the rest
pub below_is : {A : Type 0} (z : A) (n : ℕ) (f g : ℕ → A) → ((k : ℕ) → k < n → f k ≡ g k) → ((k : ℕ) → n ≤ k → z ≡ g k) → below z n f ≡ g
below_is z n f g h o =
    fun_ext λ k. either_way (ltb k n) (λ e. rw e (h k (ltb-true k n e))) (λ e. rw e (o k (ltb-false k n e)))

-- one number more, as a loop counts
pub every_more : (test : ℕ → Bool) (k : ℕ) {all b : Bool} → all ≡ every k test → b ≡ test k → all && b ≡ every (k + 1) test
every_more test k p q = rw (add-one, p, q)

-- a loop that has counted to the size
pub every-done : (test : ℕ → Bool) (k n : ℕ) {all : Bool} → all ≡ every k test → k ≤ n → n ≤ k → all ≡ every n test
every-done test k n p h l = let e : k ≡ n = omega arith in rw (← e) p

-- tests that agree below a size hold of it alike
pub every-cong : (f g : ℕ → Bool) (n : ℕ) → ((k : ℕ) → k < n → f k ≡ g k) → every n f ≡ every n g
every-cong f g zero h = refl
every-cong f g (suc n) h = ap₂ ◌&&◌ (every-cong f g n (λ k l. h k (omega arith))) (h n (omega arith))

-- a test of a table's entries below its size is one of what the table is made of
pub every-below : {A : Type 0} (z : A) (n : ℕ) (f : ℕ → A) (test : A → Bool) → every n (λ k. test (f k)) ≡ every n (λ k. test (below z n f k))
every-below z n f test = every-cong _ _ n (λ k h. rw (lt-ltb k n h))

-- the bounds of a live area, as tests of its words
pub in_bounds-words :
    {a : List ℕ} {t n p : ℕ} → Live a t n p →
    leb (word a lock_at) t
    && leb (word a owner_at) t
    && every t (λ k. sound_thread n p (thread_from (word a) (threads_at + thread_words * k)))
    && every n (λ k. leb (word a (map_at t + 1 * k)) p)
    && every n (λ k. proper t (word a (locks_at t n + 1 * k)))
    && every p (λ k. leb (word a (blocks_at t n + block_words * k)) n)
    && every p (λ k. proper t (word a (blocks_at t n + 3 + block_words * k)))
    ≡ in_bounds (decode a)
in_bounds-words {a} {t} {n} {p} v =
    (λ i.
    leb (word a lock_at) t
    && leb (word a owner_at) t
    && every-below idle t (λ k. thread_from (word a) (threads_at + thread_words * k)) (sound_thread n p) i
    && every-below 0 n (λ k. word a (map_at t + 1 * k)) (λ w. leb w p) i
    && every-below 0 n (λ k. word a (locks_at t n + 1 * k)) (proper t) i
    && every-below 0 p (λ k. word a (blocks_at t n + block_words * k)) (λ w. leb w n) i
    && every-below 0 p (λ k. word a (blocks_at t n + 3 + block_words * k)) (proper t) i)
    ∙ sym (ap in_bounds (decode-live v))
