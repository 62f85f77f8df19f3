-- An area of zeros with the four sizes put is the area of a fresh store. Assumes nothing.
use mathlib.Core.Path.{◌≡◌, refl, ◌∙◌, sym, ap, fun_ext}
use mathlib.Core.List.{List, [], ◌∷◌}
use Prim.Native.Nat.{ℕ, zero, suc, ◌+◌, ◌*◌, ◌<◌}
use native.Mathlib.Omega.{arith}
use lib.ListN.{get_or, length, replicate, length-replicate}
use Rattle.meaning.specs.Table.{below}
use Rattle.meaning.specs.Store.{idle, fresh}
use Rattle.store.specs.Layout.{t_at, n_at, p_at, d_at, threads_at, thread_words, map_at, locks_at, blocks_at, block_words, size}
use Rattle.store.specs.Area.{Bytes, word, thread_from, column, store_of, encode, decode}
use Rattle.store.specs.Live.{put_word}
use Rattle.store.proofs.Decode.{below_is}
use Rattle.store.proofs.Bytes.{put_from, upd_from, length-put_from, bytes-put_from, word-put_from, upd_from_other}
use Rattle.store.proofs.Sound.{Sizes}
use Rattle.store.proofs.Codec.{encode-decode}

zeros_at : (m i : ℕ) → ◌≡◌ {A = ℕ} (get_or (replicate m 0) i 0) 0
zeros_at zero i = refl
zeros_at (suc m) zero = refl
zeros_at (suc m) (suc i) = zeros_at m i

zero_word : (m k : ℕ) → word (replicate m 0) k ≡ 0
zero_word m k =
    rw (zeros_at m (4 * k), zeros_at m (4 * k + 1), zeros_at m (4 * k + 2), zeros_at m (4 * k + 3))

zero-bytes : (m : ℕ) → Bytes (replicate m 0)
zero-bytes m i = rw (zeros_at m i) (omega arith)

-- ---- the words of the sizes and of nothing else

nothing-below : {A : Type 0} (z : A) (count : ℕ) (f : ℕ → A) → ((k : ℕ) → f k ≡ z) → below z count f ≡ (λ _. z)
nothing-below z count f h = below_is z count f (λ _. z) (λ k _. h k) (λ k _. refl)

module _ (t n p d : ℕ) where
  abbrev sizes : List ℕ
  sizes = t ∷ n ∷ p ∷ d ∷ []

  abbrev head_words : ℕ → ℕ
  head_words = upd_from (λ _. 0) 0 t_at sizes

  past : (i : ℕ) → d_at < i → head_words i ≡ 0
  past i h = upd_from_other (λ _. 0) 0 t_at sizes i (λ l u. omega arith)

  empty-column : (from stride count : ℕ) → d_at < from → column head_words from stride count ≡ (λ _. 0)
  empty-column from stride count h = nothing-below 0 count _ (λ k. past (from + stride * k) (omega arith))

  idle-row : (i : ℕ) → d_at < i → thread_from head_words i ≡ idle
  idle-row i h = λ j.
      record {
        op = past i h j;
        line = past (i + 1) (omega arith) j;
        n = past (i + 2) (omega arith) j;
        c = past (i + 3) (omega arith) j;
        p = past (i + 4) (omega arith) j;
        q = past (i + 5) (omega arith) j;
        h = past (i + 6) (omega arith) j;
      }

  store-fresh : store_of head_words t n p ≡ fresh t n p d
  store-fresh = λ i.
      record {
        threads = t;
        numbers = n;
        blocks = p;
        distance = d;
        lock = 0;
        owner = 0;
        thread = nothing-below idle t _ (λ k. idle-row (threads_at + thread_words * k) (omega arith)) i;
        map = empty-column (map_at t) 1 n (omega arith) i;
        locks = empty-column (locks_at t n) 1 n (omega arith) i;
        header = empty-column (blocks_at t n) block_words p (omega arith) i;
        content = empty-column (blocks_at t n + 1) block_words p (omega arith) i;
        wear = empty-column (blocks_at t n + 2) block_words p (omega arith) i;
        own = empty-column (blocks_at t n + 3) block_words p (omega arith) i;
      }

  -- ---- the area

  module _ (z : Sizes t n p d) where
    area : List ℕ
    area = put_from (replicate (size t n p) 0) 0 t_at sizes

    long : length area ≡ size t n p
    unfolding area
    long = length-put_from (replicate (size t n p) 0) 0 t_at sizes ∙ length-replicate (size t n p) 0

    words-head : word area ≡ head_words
    unfolding area
    words-head =
        word-put_from (replicate (size t n p) 0) 0 t_at sizes (omega (arith, length-replicate {A = ℕ} (size t n p) 0)) (omega (arith, z))
        ∙ ap (λ f. upd_from f 0 t_at sizes) (fun_ext (zero_word (size t n p)))

    decode-head : decode area ≡ fresh t n p d
    decode-head = ap (λ (f : ℕ → ℕ). store_of f (f t_at) (f n_at) (f p_at)) words-head ∙ store-fresh

    bytes-head : Bytes area
    unfolding area
    bytes-head = bytes-put_from (replicate (size t n p) 0) 0 t_at sizes (zero-bytes (size t n p))

    fitted-head : length area ≡ size (word area t_at) (word area n_at) (word area p_at)
    fitted-head = long ∙ sym (ap (λ (f : ℕ → ℕ). size (f t_at) (f n_at) (f p_at)) words-head)

    pub area-fresh : put_word (put_word (put_word (put_word (replicate (size t n p) 0) t_at t) n_at n) p_at p) d_at d ≡ encode (fresh t n p d)
    unfolding area
    area-fresh = sym (encode-decode area bytes-head fitted-head) ∙ ap encode decode-head
