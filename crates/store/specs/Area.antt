-- The store area: 01, "Sizes and the store area", with locks and owners as 02, §3, has them. An area is a list of bytes; its words, the store that
-- it holds (`decode`), the area of a store (`encode`), and when it is well formed.
use Rattle.std.specs.Prelude.{Bool, cond, ◌&&◌, List, [], ◌∷◌, ◌++◌, ℕ, zero, suc, ◌+◌, ◌*◌, ◌/◌, ◌%◌, ◌<◌, get_or, length, eqb, ltb, leb}
use Rattle.meaning.specs.declared.Thread.{Thread}
use Rattle.meaning.specs.Table.{below, every}
use Rattle.meaning.specs.Limits.{in_limits, within}
use Rattle.meaning.specs.Store.{Store, idle}
use Rattle.meaning.specs.Holding.{proper}
use Rattle.meaning.specs.Programs.{LEVEL, last_line}
use Rattle.store.specs.Layout.{t_at, n_at, p_at, d_at, lock_at, owner_at, threads_at, thread_words, map_at, locks_at, blocks_at, block_words, size}

-- ---- words of 32 bits, the low byte first

-- every element is a byte
abbrev pub Bytes : List ℕ → Type 0
Bytes a = (i : ℕ) → get_or a i 0 < 256

abbrev pub word : List ℕ → ℕ → ℕ
word a k =
    get_or a (4 * k) 0 + 256 * get_or a (4 * k + 1) 0 + 65536 * get_or a (4 * k + 2) 0 + 16777216 * get_or a (4 * k + 3) 0

abbrev pub bytes : List ℕ → List ℕ
bytes [] = []
bytes (v ∷ vs) = v % 256 ∷ v / 256 % 256 ∷ v / 65536 % 256 ∷ v / 16777216 % 256 ∷ bytes vs

-- ---- the area of a store

-- the rows k, k + 1, .. of which there are so many, one after the other
abbrev pub rows : ℕ → ℕ → (ℕ → List ℕ) → List ℕ
rows k zero row = []
rows k (suc count) row = row k ++ rows (suc k) count row

abbrev pub thread_row : Thread → List ℕ
thread_row r = r.op ∷ r.line ∷ r.n ∷ r.c ∷ r.p ∷ r.q ∷ r.h ∷ []

abbrev pub block_row : Store → ℕ → List ℕ
block_row s m = s.header m ∷ s.content m ∷ s.wear m ∷ s.own m ∷ []

-- "in this order"
abbrev pub words : Store → List ℕ
words s =
    (s.threads ∷ s.numbers ∷ s.blocks ∷ s.distance ∷ s.lock ∷ s.owner ∷ [])
    ++ rows 0 s.threads (λ t. thread_row (s.thread t))
    ++ rows 0 s.numbers (λ n. s.map n ∷ [])
    ++ rows 0 s.numbers (λ n. s.locks n ∷ [])
    ++ rows 0 s.blocks (block_row s)

abbrev pub encode : Store → List ℕ
encode s = bytes (words s)

-- ---- the store that an area holds

-- the words at from, from + stride, .., as a table of so many entries
abbrev pub column : (ℕ → ℕ) → ℕ → ℕ → ℕ → ℕ → ℕ
column at from stride count = below 0 count (λ k. at (from + stride * k))

-- the thread record whose seven words begin at i
abbrev pub thread_from : (ℕ → ℕ) → ℕ → Thread
thread_from at i =
    record {
      op = at i;
      line = at (i + 1);
      n = at (i + 2);
      c = at (i + 3);
      p = at (i + 4);
      q = at (i + 5);
      h = at (i + 6);
    }

-- the store with these sizes whose words are given by a function
abbrev pub store_of : (ℕ → ℕ) → ℕ → ℕ → ℕ → Store
store_of at t n p =
    record {
      threads = t;
      numbers = n;
      blocks = p;
      distance = at d_at;
      lock = at lock_at;
      owner = at owner_at;
      thread = below idle t (λ k. thread_from at (threads_at + thread_words * k));
      map = column at (map_at t) 1 n;
      locks = column at (locks_at t n) 1 n;
      header = column at (blocks_at t n) block_words p;
      content = column at (blocks_at t n + 1) block_words p;
      wear = column at (blocks_at t n + 2) block_words p;
      own = column at (blocks_at t n + 3) block_words p;
    }

abbrev pub decode : List ℕ → Store
decode a = store_of (word a) (word a t_at) (word a n_at) (word a p_at)

-- ---- well formed

-- an idle record: all seven words are 0
abbrev pub zeros : Thread → Bool
zeros r =
    eqb r.op 0 && eqb r.line 0 && eqb r.n 0 && eqb r.c 0 && eqb r.p 0 && eqb r.q 0 && eqb r.h 0

-- a record with open work: one of the four operations at a line that it has, h at most N, n below N, q and p below P; N and P are given
abbrev pub working : ℕ → ℕ → Thread → Bool
working n p r =
    leb r.op LEVEL && within 1 (last_line r.op) r.line && ltb r.n n && ltb r.p p && ltb r.q p && leb r.h n

abbrev pub sound_thread : ℕ → ℕ → Thread → Bool
sound_thread n p r = cond (eqb r.op 0) (zeros r) (working n p r)

-- H and the headers' owner at most T, no map entry over P, no header over N; a lock of a number and an owner of a block has no readers and
-- writer together, and no member or writer that isn't below T (02, §3); of contents, register c and wear nothing is asked
abbrev pub in_bounds : Store → Bool
in_bounds s =
    leb s.lock s.threads
    && leb s.owner s.threads
    && every s.threads (λ t. sound_thread s.numbers s.blocks (s.thread t))
    && every s.numbers (λ n. leb (s.map n) s.blocks)
    && every s.numbers (λ n. proper s.threads (s.locks n))
    && every s.blocks (λ m. leb (s.header m) s.numbers)
    && every s.blocks (λ m. proper s.threads (s.own m))

-- sizes that keep to their limits, and every word in its bounds
abbrev pub sound : Store → Bool
sound s = in_limits s.threads s.numbers s.blocks s.distance && in_bounds s

-- "length exact"
abbrev pub fitted : List ℕ → Bool
fitted a = eqb (length a) (size (word a t_at) (word a n_at) (word a p_at))

unfoldable pub well_formed : List ℕ → Bool
well_formed a = fitted a && sound (decode a)
