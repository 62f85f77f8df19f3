-- A store in range: it keeps to the limits, each word is in its bounds and below 2^32, and past the sizes all is 0. It is what an area holds that
-- is well formed and of bytes, and its area is such a one and holds it. Assumes nothing.
use mathlib.Core.Path.{◌≡◌, refl, sym, ◌∙◌, ap, subst}
use mathlib.Core.Bool.{true}
use mathlib.Core.List.{List, [], ◌∷◌, ◌++◌}
use mathlib.Core.Logic.{inl, inr}
use Prim.Native.Nat.{ℕ, zero, suc, ◌+◌, ◌*◌, ◌<◌, ◌≤◌}
use native.Mathlib.Omega.{arith}
use lib.Dec.{eqb, ltb}
use lib.ListN.{length}
use borrow.Author.Tests.{ltb-true, ltb-false, lt-ltb, le-ltb}
use Rattle.meaning.specs.declared.Thread.{Thread}
use Rattle.meaning.specs.Numbers.{WENT}
use Rattle.meaning.specs.Limits.{most_word, in_limits}
use Rattle.meaning.specs.Store.{Store, idle, fresh}
use Rattle.meaning.specs.Holding.{proper}
use Rattle.meaning.specs.Step.{worn}
use Rattle.meaning.proofs.Base.Words.{either_way}
use Rattle.meaning.proofs.Base.Sets.{none-proper, proper-word}
use Rattle.meaning.proofs.Acts.{NearWords}
use Rattle.store.specs.Layout.{t_at, size}
use Rattle.store.specs.Area.{Bytes, word, rows, thread_row, block_row, words, encode, column, decode, well_formed}
use Rattle.store.specs.Calls.{format_area, Formatted, format}
use Rattle.store.proofs.Bytes.{OfWords, low_at, low-append, word_low, bytes-bytes}
use Rattle.store.proofs.LastLines.{few_lines}
use Rattle.store.proofs.Sound.{Sizes, limits-sizes, SoundThread, Sound, well_formed-sound}
use Rattle.store.proofs.Codec.{InRange, encode-decode, decode-encode, length-encode}

-- ---- a store in range

-- the bounds that there are: at most so much; a set or a writer, of so many threads
abbrev pub AtMost : ℕ → ℕ → Type 0
AtMost bound w = w ≤ bound

abbrev pub Proper : ℕ → ℕ → Type 0
Proper threads w = proper threads w ≡ true

-- entry k of a table of so many: in its bounds, and 0 past the size
pub record Cell (size : ℕ) (In : ℕ → Type 0) (k w : ℕ) : Type 0 where
  pub low : k < size → In w
  pub past : size ≤ k → 0 ≡ w

-- thread t's record of so many threads
pub record Seat (threads numbers blocks t : ℕ) (r : Thread) : Type 0 where
  pub sound : t < threads → SoundThread numbers blocks r
  pub c : r.c ≤ most_word
  pub past : threads ≤ t → idle ≡ r

pub record Ranged (s : Store) : Type 0 where
  pub sizes : Sizes s.threads s.numbers s.blocks s.distance
  pub lock : s.lock ≤ s.threads
  pub owner : s.owner ≤ s.threads
  pub thread : (t : ℕ) → Seat s.threads s.numbers s.blocks t (s.thread t)
  pub map : (k : ℕ) → Cell s.numbers (AtMost s.blocks) k (s.map k)
  pub locks : (k : ℕ) → Cell s.numbers (Proper s.threads) k (s.locks k)
  pub header : (m : ℕ) → Cell s.blocks (AtMost s.numbers) m (s.header m)
  pub content : (m : ℕ) → Cell s.blocks (AtMost most_word) m (s.content m)
  pub wear : (m : ℕ) → Cell s.blocks (AtMost most_word) m (s.wear m)
  pub own : (m : ℕ) → Cell s.blocks (Proper s.threads) m (s.own m)

pub ranged-fresh : (t n p d : ℕ) → in_limits t n p d ≡ true → Ranged (fresh t n p d)
ranged-fresh t n p d l =
    record {
      sizes = limits-sizes t n p d l;
      lock = omega arith;
      owner = omega arith;
      thread = λ v. record { sound = λ _. inl refl; c = omega arith; past = λ _. refl };
      map = λ k. omega arith;
      locks = λ k. record { low = λ _. none-proper t; past = λ _. refl };
      header = λ k. omega arith;
      content = λ k. omega arith;
      wear = λ k. omega arith;
      own = λ k. record { low = λ _. none-proper t; past = λ _. refl };
    }

-- ---- what a well-formed area holds, if it is of bytes, is in range

-- a table of an area, of entries that are in bounds
column-cell : (at : ℕ → ℕ) (from stride size : ℕ) (In : ℕ → Type 0) → ((k : ℕ) → k < size → In (column at from stride size k)) →
    (k : ℕ) → Cell size In k (column at from stride size k)
column-cell at from stride size In low k = record { low = low k; past = λ h. rw (le-ltb k size h) }

-- any words will do
column-word : (a : List ℕ) → Bytes a → (from stride size k : ℕ) → k < size → column (word a) from stride size k ≤ most_word
column-word a h from stride size k b = rw (lt-ltb k size b) (word_low a h (from + stride * k))

pub decode-ranged : (a : List ℕ) → Bytes a → Sound (decode a) → Ranged (decode a)
decode-ranged a h S =
    record {
      sizes = S.sizes;
      lock = S.lock;
      owner = S.owner;
      thread = λ t. record {
        sound = S.thread t;
        c = either_way (ltb t (word a t_at)) (λ b. rw b (word_low a h _)) (λ b. rw b (omega arith));
        past = λ b. rw (le-ltb t (word a t_at) b);
      };
      map = column-cell (word a) _ _ _ (AtMost (decode a).blocks) S.map;
      locks = column-cell (word a) _ _ _ (Proper (decode a).threads) S.locks;
      header = column-cell (word a) _ _ _ (AtMost (decode a).numbers) S.header;
      content = column-cell (word a) _ _ _ (AtMost most_word) (column-word a h _ _ _);
      wear = column-cell (word a) _ _ _ (AtMost most_word) (column-word a h _ _ _);
      own = column-cell (word a) _ _ _ (Proper (decode a).threads) S.own;
    }

-- ---- the area of a store in range is well formed, of bytes, and holds the store

low_rows : (count k : ℕ) (row : ℕ → List ℕ) → ((j : ℕ) → j < k + count → OfWords (row j)) → OfWords (rows k count row)
low_rows zero k row all = tt
low_rows (suc count) k row all =
    low-append (row k) (rows (suc k) count row) (all k (omega arith)) (low_rows count (suc k) row (λ j h. all j (omega arith)))

module _ (s : Store) (R : Ranged s) where
  thread-low : (t : ℕ) → t < s.threads → OfWords (thread_row (s.thread t))
  thread-low t h = go (s.thread t) (R.thread t).c ((R.thread t).sound h)
    where
      go : (r : Thread) → r.c ≤ most_word → SoundThread s.numbers s.blocks r → OfWords (thread_row r)
      go r c (inl e) = subst (λ (x : Thread). OfWords (thread_row x)) (sym e) (omega arith)
      go r c (inr w) =
          let z = R.sizes in
          let l = few_lines r.op w.operation in
          omega arith

  block-low : (m : ℕ) → m < s.blocks → OfWords (block_row s m)
  block-low m h =
      let z = R.sizes in
      let a = (R.header m).low h in
      let b = (R.content m).low h in
      let c = (R.wear m).low h in
      let d = proper-word s.threads (s.own m) z.t-high ((R.own m).low h) in
      omega arith

  words-low : OfWords (words s)
  words-low =
      let z = R.sizes in
      let l = R.lock in
      let o = R.owner in
      let heads = s.threads ∷ s.numbers ∷ s.blocks ∷ s.distance ∷ s.lock ∷ s.owner ∷ [] in
      let threads = rows 0 s.threads (λ t. thread_row (s.thread t)) in
      let map = rows 0 s.numbers (λ k. s.map k ∷ []) in
      let locks = rows 0 s.numbers (λ k. s.locks k ∷ []) in
      low-append (heads ++ threads ++ map ++ locks) (rows 0 s.blocks (block_row s))
      (low-append (heads ++ threads ++ map) locks
      (low-append (heads ++ threads) map
      (low-append heads threads (omega arith)
      (low_rows s.threads 0 (λ t. thread_row (s.thread t)) (λ t h. thread-low t (omega arith))))
      (low_rows s.numbers 0 (λ k. s.map k ∷ []) (λ k h. let x = (R.map k).low (omega arith) in omega arith)))
      (low_rows s.numbers 0 (λ k. s.locks k ∷ [])
      (λ k h. let x = proper-word s.threads (s.locks k) z.t-high ((R.locks k).low (omega arith)) in omega arith)))
      (low_rows s.blocks 0 (block_row s) (λ m h. block-low m (omega arith)))

  pub ranged-sound : Sound s
  ranged-sound =
      record {
        sizes = R.sizes;
        lock = R.lock;
        owner = R.owner;
        thread = λ t. (R.thread t).sound;
        map = λ k. (R.map k).low;
        locks = λ k. (R.locks k).low;
        header = λ m. (R.header m).low;
        own = λ m. (R.own m).low;
      }

  pub ranged-in_range : InRange s
  ranged-in_range =
      record {
        word = low_at (words s) words-low;
        thread = λ t. (R.thread t).past;
        map = λ k. (R.map k).past;
        locks = λ k. (R.locks k).past;
        header = λ m. (R.header m).past;
        content = λ m. (R.content m).past;
        wear = λ m. (R.wear m).past;
        own = λ m. (R.own m).past;
      }

  pub encode-decoded : decode (encode s) ≡ s
  encode-decoded = decode-encode s ranged-in_range

  pub encode-well_formed : well_formed (encode s) ≡ true
  encode-well_formed =
      (well_formed-sound (encode s)).1 (
        length-encode s ∙ sym (ap (λ (x : Store). size x.threads x.numbers x.blocks) encode-decoded),
        subst Sound (sym encode-decoded) ranged-sound,
      )

pub sound-ranged : (s : Store) → Sound s → InRange s → Ranged s
sound-ranged s S I =
    let e = decode-encode s I in
    subst Ranged e (decode-ranged (encode s) (bytes-bytes (words s)) (subst Sound (sym e) S))

-- ---- near a thread's line

worn-word : (w : ℕ) → w ≤ most_word → worn w ≤ most_word
worn-word w low = either_way (ltb w most_word) (λ x. let y = ltb-true w most_word x in rw x (omega arith)) (λ x. rw x low)

cell-word : (size k w : ℕ) → Cell size (AtMost most_word) k w → w ≤ most_word
cell-word size k w x =
    either_way (ltb k size) (λ b. x.low (ltb-true k size b)) (λ b. let y = x.past (ltb-false k size b) in omega arith)

pub near-words : (s : Store) → Ranged s → (t : ℕ) → NearWords s (s.thread t) most_word
near-words s R t =
    record {
      some = omega arith;
      c = (R.thread t).c;
      content = λ m. cell-word s.blocks m (s.content m) (R.content m);
      wear = λ m. worn-word (s.wear m) (cell-word s.blocks m (s.wear m) (R.wear m));
    }

-- ---- good areas

-- an area of bytes that is well formed: what the firmware may hand in
pub record Good (a : List ℕ) : Type 0 where
  pub bytes : Bytes a
  pub formed : well_formed a ≡ true

pub good-ranged : (a : List ℕ) → Good a → Ranged (decode a)
good-ranged a g = decode-ranged a g.bytes ((well_formed-sound a).0 g.formed).1

pub encode-good : (s : Store) → Ranged s → Good (encode s)
encode-good s R = record { bytes = bytes-bytes (words s); formed = encode-well_formed s R }

-- two good areas that hold the same store are the same bytes
pub decode_injective : (a b : List ℕ) → Good a → Good b → decode a ≡ decode b → a ≡ b
decode_injective a b g h e =
    sym (encode-decode a g.bytes ((well_formed-sound a).0 g.formed).0) ∙ ap encode e
    ∙ encode-decode b h.bytes ((well_formed-sound b).0 h.formed).0

-- ---- formatted areas

-- what a format that gave WENT leaves
pub record Starts (a : List ℕ) (t n p d : ℕ) : Type 0 where
  pub limits : in_limits t n p d ≡ true
  pub decoded : decode a ≡ fresh t n p d
  pub good : Good a

pub after_format : (a : List ℕ) (t n p d : ℕ) → (format_area a t n p d).number ≡ WENT → Starts (format_area a t n p d).after t n p d
after_format a t n p d =
    either_way (in_limits t n p d)
    (λ l. rw l (either_way (eqb (length a) (size t n p))
    (λ f. rw f (λ e.
    let R = ranged-fresh t n p d l in
    record { limits = l; decoded = encode-decoded (fresh t n p d) R; good = encode-good (fresh t n p d) R }))
    (λ f. rw f (λ e. absurd (omega arith)))))
    (λ l. rw l (λ e. absurd (omega arith)))

pub formatted-good : (a : List ℕ) → Formatted a → Good a
formatted-good a (format b _ t n p d e) = (after_format b t n p d e).good

-- what is so of every fresh store in limits is so of the store in a formatted area
pub formatted-fresh : (a : List ℕ) → Formatted a → (A : Store → Type 0) →
    ((t n p d : ℕ) → in_limits t n p d ≡ true → A (fresh t n p d)) → A (decode a)
formatted-fresh a (format b _ t n p d e) A all =
    let s = after_format b t n p d e in
    subst A (sym s.decoded) (all t n p d s.limits)
