-- Decoding and encoding undo one another: an area of bytes that fits is the area of the store that it holds, and a store in range is
-- the store that its area holds. Assumes nothing.
use mathlib.Core.Path.{◌≡◌, refl, ◌∙◌, sym, ap, ap₂, fun_ext}
use mathlib.Core.Bool.{true}
use mathlib.Core.List.{List, [], ◌∷◌, ◌++◌}
use Prim.Native.Nat.{ℕ, zero, suc, ◌+◌, ◌*◌, ◌<◌, ◌≤◌}
use native.Mathlib.Nat.{add-zero, zero-add, mul-zero, mul-suc, one-mul}
use native.Mathlib.Numerals.{towards_suc}
use native.Mathlib.Omega.{arith}
use lib.Dec.{ltb}
use lib.ListN.{get_or, length, length-append, get_or-append}
use lib.Seq.{get_or-append-add}
use borrow.Author.Tests.{lt-ltb}
use Rattle.meaning.specs.Store.{Store, idle}
use Rattle.store.specs.Layout.{t_at, n_at, p_at, d_at, lock_at, owner_at, threads_at, thread_words, map_at, locks_at, blocks_at, block_words, area_words, size}
use Rattle.store.specs.Area.{Bytes, word, bytes, rows, thread_row, block_row, words, encode, thread_from, column, store_of, decode}
use Rattle.store.proofs.Decode.{below_is}
use Rattle.store.proofs.Bytes.{span, bytes-span, word_bytes, length-bytes}
use Rattle.store.proofs.Sound.{Fitted}

-- ---- encode after decode

span-add : (at : ℕ → ℕ) (k m n : ℕ) → span at k (m + n) ≡ span at k m ++ span at (k + m) n
span-add at k zero n = rw (zero-add, add-zero)
span-add at k (suc m) n =
    let e : suc m + n ≡ suc (m + n) = omega arith in
    let f : k + suc m ≡ suc k + m = omega arith in
    rw (e, f) (ap (λ l. at k ∷ l) (span-add at (suc k) m n))

-- rows that are spans of one function are a span of it
rows-span :
    (at : ℕ → ℕ) (from width count k : ℕ) (row : ℕ → List ℕ) →
    ((j : ℕ) → j < k + count → row j ≡ span at (from + width * j) width) →
    rows k count row ≡ span at (from + width * k) (width * count)
rows-span at from width zero k row h = rw mul-zero
rows-span at from width (suc count) k row h =
    let e : width * suc count ≡ width + width * count = omega (arith, mul-suc width count) in
    let f : from + width * suc k ≡ from + width * k + width = omega (arith, mul-suc width k) in
    ap₂ ◌++◌ (h k (omega arith)) (rows-span at from width count (suc k) row (λ j l. h j (omega arith)))
    ∙ rw (e, f) (sym (span-add at (from + width * k) width (width * count)))

thread_row-span : (at : ℕ → ℕ) (i : ℕ) → thread_row (thread_from at i) ≡ span at i thread_words
thread_row-span at i = simp towards_suc

module _ (at : ℕ → ℕ) (t n p : ℕ) where
  threads-span : rows 0 t (λ k. thread_row ((store_of at t n p).thread k)) ≡ span at threads_at (thread_words * t)
  threads-span =
      rows-span at threads_at thread_words t 0 _
      (λ j h. (let l : ltb j t ≡ true = lt-ltb j t (omega arith) in rw l (thread_row-span at (threads_at + thread_words * j))))

  -- the map and the block locks: a word a row
  column-span : (from count : ℕ) → rows 0 count (λ k. column at from 1 count k ∷ []) ≡ span at from count
  column-span from count =
      rows-span at from 1 count 0 _ (λ j h. (let l : ltb j count ≡ true = lt-ltb j count (omega arith) in rw l))
      ∙ simp (add-zero, one-mul)

  blocks-span : rows 0 p (block_row (store_of at t n p)) ≡ span at (blocks_at t n) (block_words * p)
  blocks-span =
      rows-span at (blocks_at t n) block_words p 0 _
      (λ j h.
      (let l : ltb j p ≡ true = lt-ltb j p (omega arith) in
      let e₁ : blocks_at t n + 1 + block_words * j ≡ suc (blocks_at t n + block_words * j) = omega arith in
      let e₂ : blocks_at t n + 2 + block_words * j ≡ suc (suc (blocks_at t n + block_words * j)) = omega arith in
      let e₃ : blocks_at t n + 3 + block_words * j ≡ suc (suc (suc (blocks_at t n + block_words * j))) = omega arith in
      rw (l, e₁, e₂, e₃)))
      ∙ simp add-zero

  -- the whole, a table after the other
  spans :
      span at 0 (area_words t n p)
      ≡ span at 0 threads_at ++ span at threads_at (thread_words * t) ++ span at (map_at t) n ++ span at (locks_at t n) n
      ++ span at (blocks_at t n) (block_words * p)
  spans =
      then (blocks_at t n) (block_words * p)
      ∙ ap (λ l. l ++ span at (blocks_at t n) (block_words * p))
      (then (locks_at t n) n
      ∙ ap (λ l. l ++ span at (locks_at t n) n)
      (then (map_at t) n ∙ ap (λ l. l ++ span at (map_at t) n) (then threads_at (thread_words * t))))
    where
      then : (m k : ℕ) → span at 0 (m + k) ≡ span at 0 m ++ span at m k
      then m k = rw (zero-add m) at (span-add at 0 m k)

  words-span : at t_at ≡ t → at n_at ≡ n → at p_at ≡ p → words (store_of at t n p) ≡ span at 0 (area_words t n p)
  words-span et en ep =
      (λ i.
      (sym et i ∷ sym en i ∷ sym ep i ∷ at d_at ∷ at lock_at ∷ at owner_at ∷ [])
      ++ threads-span i
      ++ column-span (map_at t) n i
      ++ column-span (locks_at t n) n i
      ++ blocks-span i)
      ∙ sym spans

pub encode-decode : (a : List ℕ) → Bytes a → Fitted a → encode (decode a) ≡ a
encode-decode a h f =
    ap bytes (words-span (word a) (word a t_at) (word a n_at) (word a p_at) refl refl refl)
    ∙ bytes-span a h (area_words (word a t_at) (word a n_at) (word a p_at)) 0 (omega arith)

-- ---- decode after encode

-- all words of the store's area are words, and a table is 0 from its size on
pub record InRange (s : Store) : Type 0 where
  pub word : (k : ℕ) → get_or (words s) k 0 < 4294967296
  pub thread : (k : ℕ) → s.threads ≤ k → idle ≡ s.thread k
  pub map : (k : ℕ) → s.numbers ≤ k → 0 ≡ s.map k
  pub locks : (k : ℕ) → s.numbers ≤ k → 0 ≡ s.locks k
  pub header : (k : ℕ) → s.blocks ≤ k → 0 ≡ s.header k
  pub content : (k : ℕ) → s.blocks ≤ k → 0 ≡ s.content k
  pub wear : (k : ℕ) → s.blocks ≤ k → 0 ≡ s.wear k
  pub own : (k : ℕ) → s.blocks ≤ k → 0 ≡ s.own k

module _ (width : ℕ) (row : ℕ → List ℕ) (even : (k : ℕ) → length (row k) ≡ width) where
  length-rows : (count k : ℕ) → length (rows k count row) ≡ width * count
  length-rows zero k = sym (mul-zero width)
  length-rows (suc count) k =
      length-append (row k) (rows (suc k) count row)
      ∙ omega (arith, even k, length-rows count (suc k), mul-suc width count)

  get_d_rows : (count k j e : ℕ) → j < count → e < width → get_or (rows k count row) (width * j + e) 0 ≡ get_or (row (k + j)) e 0
  get_d_rows zero k j e h l = absurd (omega arith)
  get_d_rows (suc count) k zero e h l =
      let q : width * 0 + e ≡ e = omega (arith, mul-zero width) in
      let r : e < length (row k) = omega (arith, even k) in
      rw (q, add-zero) (get_or-append (row k) (rows (suc k) count row) 0 e r)
  get_d_rows (suc count) k (suc j) e h l =
      let q : width * suc j + e ≡ length (row k) + (width * j + e) = omega (arith, even k, mul-suc width j) in
      let r : k + suc j ≡ suc k + j = omega arith in
      rw (q, r)
      (get_or-append-add (row k) (rows (suc k) count row) (width * j + e) 0 ∙ get_d_rows count (suc k) j e (omega arith) l)

  get_or-row : (count j e : ℕ) → j < count → e < width → get_or (rows 0 count row) (width * j + e) 0 ≡ get_or (row j) e 0
  get_or-row count j e h l = get_d_rows count 0 j e h l ∙ ap (λ n. get_or (row n) e 0) (zero-add j)

-- the rows of a table, of one width, and the words that come before them
record Part : Type 0 where
  before : List ℕ
  at : ℕ
  width : ℕ
  count : ℕ
  row : ℕ → List ℕ
  long : length before ≡ at
  even : (k : ℕ) → length (row k) ≡ width

abbrev through : Part → List ℕ
through t = t.before ++ rows 0 t.count t.row

module _ (t : Part) where
  length-through : length (through t) ≡ t.at + t.width * t.count
  length-through =
      length-append t.before (rows 0 t.count t.row)
      ∙ ap₂ ◌+◌ t.long (length-rows t.width t.row t.even t.count 0)

  word_before : (i : ℕ) → i < t.at → get_or (through t) i 0 ≡ get_or t.before i 0
  word_before i h = get_or-append t.before (rows 0 t.count t.row) 0 i (omega (arith, t.long))

  word-within : (k e : ℕ) → k < t.count → e < t.width → get_or (through t) (t.at + (t.width * k + e)) 0 ≡ get_or (t.row k) e 0
  word-within k e h l =
      ap (λ i. get_or (through t) (i + (t.width * k + e)) 0) (sym t.long)
      ∙ get_or-append-add t.before (rows 0 t.count t.row) (t.width * k + e) 0
      ∙ get_or-row t.width t.row t.even t.count k e h l

module _ (s : Store) where
  abbrev heads : List ℕ
  heads = s.threads ∷ s.numbers ∷ s.blocks ∷ s.distance ∷ s.lock ∷ s.owner ∷ []

  abbrev thread_part : Part
  thread_part = record { before = heads; at = threads_at; width = thread_words; count = s.threads; row = λ t. thread_row (s.thread t); long = refl; even = λ k. refl }

  abbrev map_part : Part
  map_part = record { before = through thread_part; at = map_at s.threads; width = 1; count = s.numbers; row = λ n. s.map n ∷ []; long = length-through thread_part; even = λ k. refl }

  abbrev locks_part : Part
  locks_part = record { before = through map_part; at = locks_at s.threads s.numbers; width = 1; count = s.numbers; row = λ n. s.locks n ∷ []; long = omega (arith, length-through map_part); even = λ k. refl }

  abbrev blocks_part : Part
  blocks_part = record { before = through locks_part; at = blocks_at s.threads s.numbers; width = block_words; count = s.blocks; row = block_row s; long = omega (arith, length-through locks_part); even = λ k. refl }

  pub length-words : length (words s) ≡ area_words s.threads s.numbers s.blocks
  length-words = length-through blocks_part

  pub length-encode : length (encode s) ≡ size s.threads s.numbers s.blocks
  length-encode = length-bytes (words s) ∙ ap (λ n. 4 * n) length-words

  -- what stands at a place of each part
  word-block : (k e : ℕ) → k < s.blocks → e < block_words → get_or (words s) (blocks_at s.threads s.numbers + (block_words * k + e)) 0 ≡ get_or (block_row s k) e 0
  word-block = word-within blocks_part

  word-locks : (k : ℕ) → k < s.numbers → get_or (words s) (locks_at s.threads s.numbers + 1 * k) 0 ≡ s.locks k
  word-locks k h =
      ap (λ i. get_or (words s) (locks_at s.threads s.numbers + i) 0) (sym (add-zero (1 * k)))
      ∙ word_before blocks_part (locks_at s.threads s.numbers + (1 * k + 0)) (omega arith)
      ∙ word-within locks_part k 0 h (omega arith)

  word-map : (k : ℕ) → k < s.numbers → get_or (words s) (map_at s.threads + 1 * k) 0 ≡ s.map k
  word-map k h =
      ap (λ i. get_or (words s) (map_at s.threads + i) 0) (sym (add-zero (1 * k)))
      ∙ word_before blocks_part (map_at s.threads + (1 * k + 0)) (omega arith)
      ∙ word_before locks_part (map_at s.threads + (1 * k + 0)) (omega arith)
      ∙ word-within map_part k 0 h (omega arith)

  word-thread : (k e : ℕ) → k < s.threads → e < thread_words → get_or (words s) (threads_at + (thread_words * k + e)) 0 ≡ get_or (thread_row (s.thread k)) e 0
  word-thread k e h l =
      word_before blocks_part (threads_at + (thread_words * k + e)) (omega arith)
      ∙ word_before locks_part (threads_at + (thread_words * k + e)) (omega arith)
      ∙ word_before map_part (threads_at + (thread_words * k + e)) (omega arith)
      ∙ word-within thread_part k e h l

abbrev words_of : Store → ℕ → ℕ
words_of s k = get_or (words s) k 0

-- the store whose words are those of s is s
module _ (s : Store) (r : InRange s) where
  thread-word : (k e i : ℕ) → k < s.threads → e < thread_words → i ≡ threads_at + (thread_words * k + e) → words_of s i ≡ get_or (thread_row (s.thread k)) e 0
  thread-word k e i h l q = ap (words_of s) q ∙ word-thread s k e h l

  thread-words : (k : ℕ) → k < s.threads → thread_from (words_of s) (threads_at + thread_words * k) ≡ s.thread k
  thread-words k h = λ i.
      record {
        op = thread-word k 0 (threads_at + thread_words * k) h (omega arith) (omega arith) i;
        line = thread-word k 1 (threads_at + thread_words * k + 1) h (omega arith) (omega arith) i;
        n = thread-word k 2 (threads_at + thread_words * k + 2) h (omega arith) (omega arith) i;
        c = thread-word k 3 (threads_at + thread_words * k + 3) h (omega arith) (omega arith) i;
        p = thread-word k 4 (threads_at + thread_words * k + 4) h (omega arith) (omega arith) i;
        q = thread-word k 5 (threads_at + thread_words * k + 5) h (omega arith) (omega arith) i;
        h = thread-word k 6 (threads_at + thread_words * k + 6) h (omega arith) (omega arith) i;
      }

  -- the column of a block record's e-th words
  block-column :
      (e from : ℕ) (f : ℕ → ℕ) → e < block_words → from ≡ blocks_at s.threads s.numbers + e →
      ((k : ℕ) → get_or (block_row s k) e 0 ≡ f k) → ((k : ℕ) → s.blocks ≤ k → 0 ≡ f k) →
      column (words_of s) from block_words s.blocks ≡ f
  block-column e from f l q w o = below_is 0 s.blocks _ f entry o
    where
      entry : (k : ℕ) → k < s.blocks → words_of s (from + block_words * k) ≡ f k
      entry k h =
          let i : from + block_words * k ≡ blocks_at s.threads s.numbers + (block_words * k + e) = omega arith in
          ap (words_of s) i ∙ word-block s k e h l ∙ w k

  store_of-words : store_of (words_of s) s.threads s.numbers s.blocks ≡ s
  store_of-words = λ i.
      record {
        threads = s.threads;
        numbers = s.numbers;
        blocks = s.blocks;
        distance = s.distance;
        lock = s.lock;
        owner = s.owner;
        thread = below_is idle s.threads _ s.thread thread-words r.thread i;
        map = below_is 0 s.numbers _ s.map (word-map s) r.map i;
        locks = below_is 0 s.numbers _ s.locks (word-locks s) r.locks i;
        header = block-column 0 (blocks_at s.threads s.numbers) s.header (omega arith) (omega arith) (λ k. refl) r.header i;
        content = block-column 1 _ s.content (omega arith) refl (λ k. refl) r.content i;
        wear = block-column 2 _ s.wear (omega arith) refl (λ k. refl) r.wear i;
        own = block-column 3 _ s.own (omega arith) refl (λ k. refl) r.own i;
      }

  pub decode-encode : decode (encode s) ≡ s
  decode-encode =
      ap (λ (at : ℕ → ℕ). store_of at (at t_at) (at n_at) (at p_at)) (fun_ext (word_bytes (words s) r.word)) ∙ store_of-words
