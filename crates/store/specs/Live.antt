-- What contracts between our own functions cite: what they may take for granted of an area, which is linear facts alone (it has the length of
-- its sizes, and these are in limits), what the setters do, and the working store.
use Rattle.std.specs.Prelude.{◌≡◌, List, ℕ, zero, suc, ◌+◌, ◌*◌, ◌/◌, ◌%◌, ◌<◌, ◌≤◌, length, get_or, set, replicate, Option, Some, None}
use Rattle.std.specs.Int.Bits.{bit_or}
use Rattle.meaning.specs.declared.Thread.{Thread}
use Rattle.meaning.specs.declared.Pass.{Pass}
use Rattle.meaning.specs.declared.Pass.TheVariants.{Leave, Plus, Minus}
use Rattle.meaning.specs.Limits.{most_threads, most_numbers, most_blocks, most_word}
use Rattle.meaning.specs.Store.{Store}
use Rattle.meaning.specs.declared.Effect.{Effect}
use Rattle.meaning.specs.Step.{came, changed}
use Rattle.store.specs.declared.Store.{Store as WorkingStore}
use Rattle.store.specs.declared.Column.{Column}
use Rattle.store.specs.Layout.{t_at, n_at, p_at, threads_at, thread_words, map_at, locks_at, blocks_at, block_words, size}
use Rattle.store.specs.Area.{word, thread_from}

pub record Live (a : List ℕ) (t n p : ℕ) : Type 0 where
  pub threads : word a t_at ≡ t
  pub numbers : word a n_at ≡ n
  pub blocks : word a p_at ≡ p
  pub few : (t ≤ most_threads) × (n ≤ most_numbers) × (p ≤ most_blocks)
  pub fits : length a ≡ size t n p

-- ---- where each table stands, as a column of words: of so many threads, numbers and blocks

abbrev pub threads_column : ℕ → Column
threads_column t = record { from = threads_at; stride = 1; count = thread_words * t }

abbrev pub map_column : ℕ → ℕ → Column
map_column t n = record { from = map_at t; stride = 1; count = n }

abbrev pub locks_column : ℕ → ℕ → Column
locks_column t n = record { from = locks_at t n; stride = 1; count = n }

abbrev pub header_column : ℕ → ℕ → ℕ → Column
header_column t n p = record { from = blocks_at t n; stride = block_words; count = p }

-- the table that stands so many words behind the headers
abbrev pub blocks_column : ℕ → ℕ → ℕ → ℕ → Column
blocks_column t n p behind = record { from = blocks_at t n + behind; stride = block_words; count = p }

-- entry k of a column
abbrev pub entry : List ℕ → Column → ℕ → ℕ
entry a c k = word a (c.from + c.stride * k)

-- ---- what is asked of an area

-- word k is within the area
abbrev pub Within : List ℕ → ℕ → Type 0
Within a k = 4 * k + 4 ≤ length a

-- the entry of a column that is put to, if any, is within the area
abbrev pub EntryWithin : List ℕ → Column → Option (ℕ × ℕ) → Type 0
EntryWithin a c None = Unit {0}
EntryWithin a c (Some (k, v)) = Within a (c.from + c.stride * k)

-- the entry of a column that is added to or taken off, if any, is within the area, and what it comes to is a word
abbrev pub PassWithin : List ℕ → Column → Pass → Type 0
PassWithin a c Leave = Unit {0}
PassWithin a c (Plus k m) = Within a (c.from + c.stride * k) × (entry a c k + m ≤ most_word)
PassWithin a c (Minus k m) = Within a (c.from + c.stride * k) × (m ≤ entry a c k)

-- the words of a column are within the area
abbrev pub Reaches : List ℕ → ℕ → ℕ → ℕ → Type 0
Reaches a from stride count = (k : ℕ) → k < count → Within a (from + stride * k)

-- the bits that the first so many entries of a table have
abbrev pub all_bits : ℕ → (ℕ → ℕ) → ℕ
all_bits zero f = 0
all_bits (suc k) f = bit_or (all_bits k f) (f k)

-- the words that a setter is given are words: what it can tell, since its arguments are
abbrev pub BecomeFits : Option ℕ → Type 0
BecomeFits None = Unit {0}
BecomeFits (Some v) = v ≤ most_word

abbrev pub EntryFits : Option (ℕ × ℕ) → Type 0
EntryFits None = Unit {0}
EntryFits (Some (k, v)) = v ≤ most_word

-- the entry that is put to, if any, is one of so many
abbrev pub EntryBelow : ℕ → Option (ℕ × ℕ) → Type 0
EntryBelow n None = Unit {0}
EntryBelow n (Some (k, v)) = k < n

-- the entry of table f that is added to or taken off, if any, is one of so many, and what it comes to is a word
abbrev pub PassBelow : ℕ → (ℕ → ℕ) → Pass → Type 0
PassBelow n f Leave = Unit {0}
PassBelow n f (Plus k m) = (k < n) × (f k + m ≤ most_word)
PassBelow n f (Minus k m) = (k < n) × (m ≤ f k)

-- a thread's record whose registers are words
pub record Small (r : Thread) : Type 0 where
  pub op : r.op ≤ most_word
  pub line : r.line ≤ most_word
  pub n : r.n ≤ most_word
  pub c : r.c ≤ most_word
  pub p : r.p ≤ most_word
  pub q : r.q ≤ most_word
  pub h : r.h ≤ most_word

-- what a reading loop asks: the words are within the area and fit the array, which is full of zeros and no longer than the working store's
pub record Fills (a : List ℕ) (c : Column) (into : List ℕ) : Type 0 where
  pub reach : Reaches a c.from c.stride c.count
  pub fit : c.count ≤ length into
  pub few : length into ≤ most_blocks
  pub zeroed : into ≡ replicate (length into) 0

-- ---- setters

-- the area with v as its word k
abbrev pub put_word : List ℕ → ℕ → ℕ → List ℕ
put_word a k v =
    set (set (set (set a (4 * k) (v % 256)) (4 * k + 1) (v / 256 % 256)) (4 * k + 2) (v / 65536 % 256)) (4 * k + 3)
    (v / 16777216 % 256)

-- the area with a thread's record as its seven words from k on
abbrev pub put_thread : List ℕ → ℕ → Thread → List ℕ
put_thread a k r =
    put_word
    (put_word
    (put_word
    (put_word (put_word (put_word (put_word a k r.op) (k + 1) r.line) (k + 2) r.n) (k + 3) r.c) (k + 4) r.p)
    (k + 5) r.q)
    (k + 6) r.h

-- the area with what becomes of its word k
abbrev pub put_become : List ℕ → ℕ → Option ℕ → List ℕ
put_become a k None = a
put_become a k (Some v) = put_word a k v

-- the area with what becomes of a column of its words
abbrev pub put_entry : List ℕ → Column → Option (ℕ × ℕ) → List ℕ
put_entry a c None = a
put_entry a c (Some (k, v)) = put_word a (c.from + c.stride * k) v

-- what a pass of a column comes to
abbrev pub passed : List ℕ → Column → Pass → Option (ℕ × ℕ)
passed a c = came (entry a c)

-- ---- the working store

-- an array as a table
abbrev pub table : List ℕ → ℕ → ℕ
table l k = get_or l k 0

-- the store that the working store's arrays stand for
abbrev pub view : WorkingStore → Store
view w =
    record {
      threads = w.t;
      numbers = w.n;
      blocks = w.p;
      distance = w.d;
      lock = w.lock;
      owner = w.owner;
      thread = λ k. thread_from (table w.threads) (thread_words * k);
      map = table w.map;
      locks = table w.locks;
      header = table w.header;
      content = table w.content;
      wear = table w.wear;
      own = table w.own;
    }

-- before an area is read in: all zeros, with room for 512 blocks and 256 numbers
abbrev pub zero_filled : WorkingStore
zero_filled =
    record {
      t = 0;
      n = 0;
      p = 0;
      d = 0;
      lock = 0;
      owner = 0;
      threads = replicate (thread_words * most_threads) 0;
      map = replicate most_numbers 0;
      locks = replicate most_numbers 0;
      header = replicate most_blocks 0;
      content = replicate most_blocks 0;
      wear = replicate most_blocks 0;
      own = replicate most_blocks 0;
    }

-- ---- doing it

-- the store with an effect alone; with the thread's record besides it is what a step leaves (`apply`)
abbrev pub with_effect : Store → Effect → Store
with_effect s e = changed s s.thread e
