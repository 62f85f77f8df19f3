-- What a word that is put does to the store that an area holds: it changes the table that it stands in, at its entry, and no other.
-- The tables are numbered, so that one law, `store_of-mixed`, says of each that the others are kept. Assumes nothing.
use Rattle.std.specs.Prelude.{Option, Some, None}
use mathlib.Core.Path.{◌≡◌, refl, ◌∙◌, sym, ap, subst}
use mathlib.Core.Bool.{Bool, true, false, cond}
use mathlib.Core.List.{List, [], ◌∷◌}
use Prim.Native.Nat.{ℕ, suc, ◌+◌, ◌*◌, ◌<◌, ◌≤◌}
use native.Mathlib.Nat.{add-zero}
use native.Mathlib.Omega.{arith}
use lib.Dec.{eqb}
use lib.ListN.{length}
use borrow.Author.Tests.{lt-ltb, eqb-true, eqb-false, ne_eqb, le-ltb}
use Rattle.meaning.specs.declared.Thread.{Thread}
use Rattle.meaning.specs.declared.Effect.{Effect}
use Rattle.meaning.specs.declared.Pass.{Pass}
use Rattle.meaning.specs.declared.Pass.TheVariants.{Leave, Plus, Minus}
use Rattle.meaning.specs.Table.{upd, below}
use Rattle.meaning.specs.Store.{Store, idle}
use Rattle.meaning.specs.Step.{put, came, apply, nothing, on_lock, on_owner}
use Rattle.meaning.specs.Limits.{most_word}
use Rattle.meaning.proofs.Base.Words.{upd_same, upd_other, either_way}
use Rattle.store.specs.declared.Column.{Column}
use Rattle.store.specs.Layout.{t_at, n_at, p_at, d_at, lock_at, owner_at, threads_at, thread_words, map_at, locks_at, blocks_at, block_words, size}
use Rattle.store.specs.Area.{word, thread_row, thread_from, column, store_of, decode}
use Rattle.store.specs.Live.{Live, map_column, locks_column, header_column, blocks_column, Within, EntryWithin, PassWithin, BecomeFits, EntryFits, EntryBelow, PassBelow, Small, with_effect, put_word, put_thread, put_become, put_entry, passed}
use Rattle.store.proofs.Bytes.{word-put, length-put_word, OfWords, put_from, upd_from, word-put_from, upd_from_other, upd_from_at}
use Rattle.store.proofs.Decode.{decode-live, below_is}

-- ---- tables that are kept

-- nothing is asked of the table that is put to
abbrev Unless : Bool → Type 0 → Type 0
Unless true A = Unit {0}
Unless false A = A

-- word i is none of those from lo up to hi
abbrev Clear : ℕ → ℕ → ℕ → Type 0
Clear lo hi i = lo ≤ i → i < hi → ⊥

-- the words from lo up to hi are apart from every table but number x
record Apart (x t n p lo hi : ℕ) : Type 0 where
  distance : Clear lo hi d_at
  lock : Unless (eqb x 0) (Clear lo hi lock_at)
  owner : Unless (eqb x 1) (Clear lo hi owner_at)
  thread : Unless (eqb x 2) ((k : ℕ) → k < t → (e : ℕ) → e < thread_words → Clear lo hi (threads_at + thread_words * k + e))
  map : Unless (eqb x 3) ((k : ℕ) → k < n → Clear lo hi (map_at t + 1 * k))
  locks : Unless (eqb x 4) ((k : ℕ) → k < n → Clear lo hi (locks_at t n + 1 * k))
  header : Unless (eqb x 5) ((k : ℕ) → k < p → Clear lo hi (blocks_at t n + block_words * k))
  content : Unless (eqb x 6) ((k : ℕ) → k < p → Clear lo hi (blocks_at t n + 1 + block_words * k))
  wear : Unless (eqb x 7) ((k : ℕ) → k < p → Clear lo hi (blocks_at t n + 2 + block_words * k))
  own : Unless (eqb x 8) ((k : ℕ) → k < p → Clear lo hi (blocks_at t n + 3 + block_words * k))

-- the old store with the new one's table number x
abbrev mixed : ℕ → Store → Store → Store
mixed x new old =
    record {
      threads = old.threads;
      numbers = old.numbers;
      blocks = old.blocks;
      distance = old.distance;
      lock = cond (eqb x 0) new.lock old.lock;
      owner = cond (eqb x 1) new.owner old.owner;
      thread = cond (eqb x 2) new.thread old.thread;
      map = cond (eqb x 3) new.map old.map;
      locks = cond (eqb x 4) new.locks old.locks;
      header = cond (eqb x 5) new.header old.header;
      content = cond (eqb x 6) new.content old.content;
      wear = cond (eqb x 7) new.wear old.wear;
      own = cond (eqb x 8) new.own old.own;
    }

-- a store with one table of records and one of numbers: `mixed x (uniform g f) old` is old with g or f as its table x
abbrev uniform : (ℕ → Thread) → (ℕ → ℕ) → Store
uniform g f =
    record {
      threads = 0;
      numbers = 0;
      blocks = 0;
      distance = 0;
      lock = 0;
      owner = 0;
      thread = g;
      map = f;
      locks = f;
      header = f;
      content = f;
      wear = f;
      own = f;
    }

kept : {A B : Type 0} (b : Bool) {x y : A} → Unless b B → (B → x ≡ y) → x ≡ cond b x y
kept true u f = refl
kept false u f = f u

-- two tables that are made of the same entries below their size
below-cong : {A : Type 0} (z : A) (n : ℕ) (f g : ℕ → A) → ((k : ℕ) → k < n → f k ≡ g k) → below z n f ≡ below z n g
below-cong z n f g h =
    below_is z n f (below z n g) (λ k l. rw (lt-ltb k n l) (h k l)) (λ k l. rw (le-ltb k n l))

module _ (new old : ℕ → ℕ) (lo hi : ℕ) (same : (i : ℕ) → Clear lo hi i → new i ≡ old i) where
  column-kept : (from stride count : ℕ) → ((k : ℕ) → k < count → Clear lo hi (from + stride * k)) → column new from stride count ≡ column old from stride count
  column-kept from stride count a = below-cong 0 count _ _ (λ k h. same (from + stride * k) (a k h))

  row_kept : (i : ℕ) → ((e : ℕ) → e < thread_words → Clear lo hi (i + e)) → thread_from new i ≡ thread_from old i
  row_kept i a = λ d.
      record {
        op = same i (λ l u. a 0 (omega arith) (omega arith) (omega arith)) d;
        line = same (i + 1) (a 1 (omega arith)) d;
        n = same (i + 2) (a 2 (omega arith)) d;
        c = same (i + 3) (a 3 (omega arith)) d;
        p = same (i + 4) (a 4 (omega arith)) d;
        q = same (i + 5) (a 5 (omega arith)) d;
        h = same (i + 6) (a 6 (omega arith)) d;
      }

  threads-kept :
      (t : ℕ) → ((k : ℕ) → k < t → (e : ℕ) → e < thread_words → Clear lo hi (threads_at + thread_words * k + e)) →
      below idle t (λ k. thread_from new (threads_at + thread_words * k)) ≡ below idle t (λ k. thread_from old (threads_at + thread_words * k))
  threads-kept t a = below-cong idle t _ _ (λ k h. row_kept (threads_at + thread_words * k) (a k h))

  store_of-mixed : (x t n p : ℕ) → Apart x t n p lo hi → store_of new t n p ≡ mixed x (store_of new t n p) (store_of old t n p)
  store_of-mixed x t n p a = λ i.
      record {
        threads = t;
        numbers = n;
        blocks = p;
        distance = same d_at a.distance i;
        lock = kept (eqb x 0) a.lock (same lock_at) i;
        owner = kept (eqb x 1) a.owner (same owner_at) i;
        thread = kept (eqb x 2) a.thread (threads-kept t) i;
        map = kept (eqb x 3) a.map (column-kept (map_at t) 1 n) i;
        locks = kept (eqb x 4) a.locks (column-kept (locks_at t n) 1 n) i;
        header = kept (eqb x 5) a.header (column-kept (blocks_at t n) block_words p) i;
        content = kept (eqb x 6) a.content (column-kept (blocks_at t n + 1) block_words p) i;
        wear = kept (eqb x 7) a.wear (column-kept (blocks_at t n + 2) block_words p) i;
        own = kept (eqb x 8) a.own (column-kept (blocks_at t n + 3) block_words p) i;
      }

-- ---- the table that is put to

-- a table below its size with a new entry k
below_put :
    {A : Type 0} (z : A) (n : ℕ) (f g : ℕ → A) (k : ℕ) (v : A) → k < n → g k ≡ v →
    ((j : ℕ) → j < n → (k ≡ j → ⊥) → g j ≡ f j) → below z n g ≡ upd (below z n f) k v
below_put z n f g k v l e o =
    below_is z n g (upd (below z n f) k v)
    (λ j m. either_way (eqb k j) (λ q. rw q (ap g (sym (eqb-true k j q)) ∙ e)) (λ q. rw (q, lt-ltb j n m) (o j m (eqb-false k j q))))
    (λ j m. rw (ne_eqb k j (λ q. omega arith), le-ltb j n m))

column-put :
    (at : ℕ → ℕ) (from stride count k v : ℕ) → k < count →
    ((j : ℕ) → (k ≡ j → ⊥) → from + stride * k ≡ from + stride * j → ⊥) →
    column (upd at (from + stride * k) v) from stride count ≡ upd (column at from stride count) k v
column-put at from stride count k v l apart =
    below_put 0 count _ _ k v l (upd_same at (from + stride * k) v)
    (λ j h o. upd_other at (from + stride * k) (from + stride * j) v (apart j o))

put-clear : (at : ℕ → ℕ) (w v i : ℕ) → Clear w (w + 1) i → upd at w v i ≡ at i
put-clear at w v i c = upd_other at w i v (λ e. c (omega arith) (omega arith))

-- ---- the store with an effect

-- all but table x are kept
others :
    (at : ℕ → ℕ) (t n p x w v : ℕ) → Apart x t n p w (w + 1) →
    store_of (upd at w v) t n p ≡ mixed x (store_of (upd at w v) t n p) (store_of at t n p)
others at t n p x w v a = store_of-mixed (upd at w v) at w (w + 1) (put-clear at w v) x t n p a

-- the old store with f as its table x of numbers
abbrev with_table : ℕ → (ℕ → ℕ) → Store → Store
with_table x f s = mixed x (uniform (λ _. idle) f) s

-- a thread's record that is put
store-thread :
    (at : ℕ → ℕ) (t n p k : ℕ) (r : Thread) → k < t →
    store_of (upd_from at (threads_at + thread_words * k) 0 (thread_row r)) t n p ≡ apply (store_of at t n p) k r nothing
store-thread at t n p k r h =
    store_of-mixed new at i (i + 7) clear 2 t n p (omega arith)
    ∙ ap (λ (f : ℕ → Thread). mixed 2 (uniform f (λ _. 0)) (store_of at t n p))
    (below_put idle t _ _ k r h row (λ j l o. row_kept new at i (i + 7) clear (threads_at + thread_words * j) (λ e m x y. omega arith)))
  where
    i : ℕ
    i = threads_at + thread_words * k

    new : ℕ → ℕ
    new = upd_from at i 0 (thread_row r)

    clear : (j : ℕ) → Clear i (i + 7) j → new j ≡ at j
    clear j c = upd_from_other at i 0 (thread_row r) j (λ l u. c (omega arith) (omega arith))

    row : thread_from new i ≡ r
    row = λ d.
        record {
          op = (ap new (sym (add-zero i)) ∙ upd_from_at at i 0 (thread_row r) 0 (omega arith)) d;
          line = upd_from_at at i 0 (thread_row r) 1 (omega arith) d;
          n = upd_from_at at i 0 (thread_row r) 2 (omega arith) d;
          c = upd_from_at at i 0 (thread_row r) 3 (omega arith) d;
          p = upd_from_at at i 0 (thread_row r) 4 (omega arith) d;
          q = upd_from_at at i 0 (thread_row r) 5 (omega arith) d;
          h = upd_from_at at i 0 (thread_row r) 6 (omega arith) d;
        }

-- ---- the area: what each setter leaves

-- a word past the sizes that is put
module _ {a : List ℕ} {t n p : ℕ} (live : Live a t n p) (w x : ℕ) (inside : Within a w) (past : p_at < w) (fits : x ≤ most_word) where
  word_put_at : word (put_word a w x) ≡ upd (word a) w x
  word_put_at = word-put a w x inside (omega arith)

  pub live-put : Live (put_word a w x) t n p
  live-put =
      record {
        threads = ap (λ (f : ℕ → ℕ). f t_at) word_put_at ∙ upd_other (word a) w t_at x (λ e. omega arith) ∙ live.threads;
        numbers = ap (λ (f : ℕ → ℕ). f n_at) word_put_at ∙ upd_other (word a) w n_at x (λ e. omega arith) ∙ live.numbers;
        blocks = ap (λ (f : ℕ → ℕ). f p_at) word_put_at ∙ upd_other (word a) w p_at x (λ e. omega arith) ∙ live.blocks;
        few = live.few;
        fits = length-put_word a w x ∙ live.fits;
      }

  -- an effect e that putting x as word w has on any store of these sizes it has on the decoded one
  decode-put :
      (e : Effect) → store_of (upd (word a) w x) t n p ≡ with_effect (store_of (word a) t n p) e → decode (put_word a w x) ≡ with_effect (decode a) e
  decode-put e q =
      decode-live live-put ∙ ap (λ (f : ℕ → ℕ). store_of f t n p) word_put_at ∙ q ∙ ap (λ s. with_effect s e) (sym (decode-live live))

-- the effects on one table alone
abbrev pub lock_only : Option ℕ → Effect
lock_only w = record { lock = w; owner = None; map = None; locks = Leave; header = None; content = None; wear = None; own = Leave }

abbrev pub owner_only : Option ℕ → Effect
owner_only w = record { lock = None; owner = w; map = None; locks = Leave; header = None; content = None; wear = None; own = Leave }

abbrev pub map_only : Option (ℕ × ℕ) → Effect
map_only w = record { lock = None; owner = None; map = w; locks = Leave; header = None; content = None; wear = None; own = Leave }

abbrev pub locks_only : Pass → Effect
locks_only w = record { lock = None; owner = None; map = None; locks = w; header = None; content = None; wear = None; own = Leave }

abbrev pub header_only : Option (ℕ × ℕ) → Effect
header_only w = record { lock = None; owner = None; map = None; locks = Leave; header = w; content = None; wear = None; own = Leave }

abbrev pub content_only : Option (ℕ × ℕ) → Effect
content_only w = record { lock = None; owner = None; map = None; locks = Leave; header = None; content = w; wear = None; own = Leave }

abbrev pub wear_only : Option (ℕ × ℕ) → Effect
wear_only w = record { lock = None; owner = None; map = None; locks = Leave; header = None; content = None; wear = w; own = Leave }

abbrev pub own_only : Pass → Effect
own_only w = record { lock = None; owner = None; map = None; locks = Leave; header = None; content = None; wear = None; own = w }

-- a pass of table f, of as many entries as column at: what it comes to, by the area's words
module _ (a : List ℕ) (at : Column) (f : ℕ → ℕ) where
  pub passed-below : (c : Pass) → PassBelow at.count f c → EntryBelow at.count (passed a at c)
  passed-below Leave h = tt
  passed-below (Plus k m) h = h.0
  passed-below (Minus k m) h = h.0

  passed-came : (c : Pass) → PassBelow at.count f c → passed a at c ≡ came (column (word a) at.from at.stride at.count) c
  passed-came Leave h = refl
  passed-came (Plus k m) h = rw (lt-ltb k at.count h.0)
  passed-came (Minus k m) h = rw (lt-ltb k at.count h.0)

  within_pass :
      f ≡ column (word a) at.from at.stride at.count →
      ((k : ℕ) → k < at.count → Within a (at.from + at.stride * k) × (p_at < at.from + at.stride * k)) →
      (c : Pass) → PassBelow at.count f c → PassWithin a at c
  within_pass is i Leave h = tt
  within_pass is i (Plus k m) h = ((i k h.0).0, rw (is, lt-ltb k at.count h.0) at h.1)
  within_pass is i (Minus k m) h = ((i k h.0).0, rw (is, lt-ltb k at.count h.0) at h.1)

module _ {a : List ℕ} {t n p : ℕ} (live : Live a t n p) where
  -- the area stays live, whatever becomes of a word past the sizes
  pub live-become : (k : ℕ) (w : Option ℕ) → Within a k → p_at < k → BecomeFits w → Live (put_become a k w) t n p
  live-become k None i o f = live
  live-become k (Some x) i o f = live-put live k x i o f

  pub live-entry :
      (at : Column) (e : Option (ℕ × ℕ)) → EntryBelow at.count e →
      ((k : ℕ) → k < at.count → Within a (at.from + at.stride * k) × (p_at < at.from + at.stride * k)) → EntryFits e →
      Live (put_entry a at e) t n p
  live-entry at None h i f = live
  live-entry at (Some (k, x)) h i f = live-put live (at.from + at.stride * k) x (i k h).0 (i k h).1 f

  pub within-entry :
      (at : Column) (e : Option (ℕ × ℕ)) → EntryBelow at.count e →
      ((k : ℕ) → k < at.count → Within a (at.from + at.stride * k) × (p_at < at.from + at.stride * k)) → EntryWithin a at e
  within-entry at None h i = tt
  within-entry at (Some (k, x)) h i = (i k h).0

  -- where each table stands
  pub map-inside : (k : ℕ) → k < n → Within a (map_at t + 1 * k) × (p_at < map_at t + 1 * k)
  map-inside k h = omega (arith, live.fits)

  pub locks-inside : (k : ℕ) → k < n → Within a (locks_at t n + 1 * k) × (p_at < locks_at t n + 1 * k)
  locks-inside k h = omega (arith, live.fits)

  pub blocks-inside :
      (d : ℕ) → d < block_words → (k : ℕ) → k < p →
      Within a (blocks_at t n + d + block_words * k) × (p_at < blocks_at t n + d + block_words * k)
  blocks-inside d l k h = omega (arith, live.fits)

  pub header-inside : (k : ℕ) → k < p → Within a (blocks_at t n + block_words * k) × (p_at < blocks_at t n + block_words * k)
  header-inside k h = omega (arith, live.fits)

  -- what a pass of the locks or of the owners asks
  pub within-locks : (c : Pass) → PassBelow n (decode a).locks c → PassWithin a (locks_column t n) c
  within-locks = within_pass a (locks_column t n) (decode a).locks (ap (λ s. s.locks) (decode-live live)) locks-inside

  pub within_own : (c : Pass) → PassBelow p (decode a).own c → PassWithin a (blocks_column t n p 3) c
  within_own =
      within_pass a (blocks_column t n p 3) (decode a).own (ap (λ s. s.own) (decode-live live)) (blocks-inside 3 (omega arith))

  -- what becomes of each table of the decoded store
  pub decode-lock : (w : Option ℕ) → BecomeFits w → decode (put_become a lock_at w) ≡ with_effect (decode a) (lock_only w)
  decode-lock None f = refl
  decode-lock (Some x) f =
      decode-put live lock_at x (omega (arith, live.fits)) (omega arith) f (on_lock x) (others (word a) t n p 0 lock_at x (omega arith))

  pub decode-owner : (w : Option ℕ) → BecomeFits w → decode (put_become a owner_at w) ≡ with_effect (decode a) (owner_only w)
  decode-owner None f = refl
  decode-owner (Some x) f =
      decode-put live owner_at x (omega (arith, live.fits)) (omega arith) f (on_owner x) (others (word a) t n p 1 owner_at x (omega arith))

  -- Table x of numbers is column c.
  module _ (x : ℕ) (c : Column)
      (keeps : store_of (word a) t n p ≡ with_table x (column (word a) c.from c.stride c.count) (store_of (word a) t n p))
      (reads : (at : ℕ → ℕ) (s : Store) → mixed x (store_of at t n p) s ≡ with_table x (column at c.from c.stride c.count) s)
      (apart : (k : ℕ) → k < c.count → Apart x t n p (c.from + c.stride * k) (c.from + c.stride * k + 1))
      (once : (k j : ℕ) → (k ≡ j → ⊥) → c.from + c.stride * k ≡ c.from + c.stride * j → ⊥)
      (inside : (k : ℕ) → k < c.count → Within a (c.from + c.stride * k) × (p_at < c.from + c.stride * k)) where
    -- effect o puts e to it and does nothing else
    decode-entry :
        (e : Option (ℕ × ℕ)) (o : Effect) →
        with_table x (put e (column (word a) c.from c.stride c.count)) (store_of (word a) t n p) ≡ with_effect (store_of (word a) t n p) o →
        EntryBelow c.count e → EntryFits e → decode (put_entry a c e) ≡ with_effect (decode a) o
    decode-entry None o makes h f = decode-live live ∙ keeps ∙ makes ∙ ap (λ s. with_effect s o) (sym (decode-live live))
    decode-entry (Some (k, v)) o makes h f =
        decode-put live (c.from + c.stride * k) v (inside k h).0 (inside k h).1 f o
        (others (word a) t n p x (c.from + c.stride * k) v (apart k h)
        ∙ reads (upd (word a) (c.from + c.stride * k) v) (store_of (word a) t n p)
        ∙ ap (λ g. with_table x g (store_of (word a) t n p)) (column-put (word a) c.from c.stride c.count k v h (once k))
        ∙ makes)

  pub decode-map : (e : Option (ℕ × ℕ)) → EntryBelow n e → EntryFits e → decode (put_entry a (map_column t n) e) ≡ with_effect (decode a) (map_only e)
  decode-map e =
      decode-entry 3 (map_column t n) refl (λ at s. refl) (λ k h. omega arith) (λ k j o e. omega arith) map-inside e (map_only e) refl

  pub decode-locks :
      (c : Pass) → PassBelow n (decode a).locks c → EntryFits (passed a (locks_column t n) c) →
      decode (put_entry a (locks_column t n) (passed a (locks_column t n) c)) ≡ with_effect (decode a) (locks_only c)
  decode-locks c h =
      decode-entry 4 (locks_column t n) refl (λ at s. refl) (λ k h. omega arith) (λ k j o e. omega arith) locks-inside
      (passed a (locks_column t n) c) (locks_only c)
      (ap (λ e. with_table 4 (put e (column (word a) (locks_at t n) 1 n)) (store_of (word a) t n p))
      (passed-came a (locks_column t n) (decode a).locks c h))
      (passed-below a (locks_column t n) (decode a).locks c h)

  pub decode-header :
      (e : Option (ℕ × ℕ)) → EntryBelow p e → EntryFits e → decode (put_entry a (header_column t n p) e) ≡ with_effect (decode a) (header_only e)
  decode-header e =
      decode-entry 5 (header_column t n p) refl (λ at s. refl) (λ k h. omega arith) (λ k j o e. omega arith) header-inside
      e (header_only e) refl

  pub decode-content :
      (e : Option (ℕ × ℕ)) → EntryBelow p e → EntryFits e → decode (put_entry a (blocks_column t n p 1) e) ≡ with_effect (decode a) (content_only e)
  decode-content e =
      decode-entry 6 (blocks_column t n p 1) refl (λ at s. refl) (λ k h. omega arith) (λ k j o e. omega arith)
      (blocks-inside 1 (omega arith)) e (content_only e) refl

  pub decode-wear :
      (e : Option (ℕ × ℕ)) → EntryBelow p e → EntryFits e → decode (put_entry a (blocks_column t n p 2) e) ≡ with_effect (decode a) (wear_only e)
  decode-wear e =
      decode-entry 7 (blocks_column t n p 2) refl (λ at s. refl) (λ k h. omega arith) (λ k j o e. omega arith)
      (blocks-inside 2 (omega arith)) e (wear_only e) refl

  pub decode_own :
      (c : Pass) → PassBelow p (decode a).own c → EntryFits (passed a (blocks_column t n p 3) c) →
      decode (put_entry a (blocks_column t n p 3) (passed a (blocks_column t n p 3) c)) ≡ with_effect (decode a) (own_only c)
  decode_own c h =
      decode-entry 8 (blocks_column t n p 3) refl (λ at s. refl) (λ k h. omega arith) (λ k j o e. omega arith)
      (blocks-inside 3 (omega arith)) (passed a (blocks_column t n p 3) c) (own_only c)
      (ap (λ e. with_table 8 (put e (column (word a) (blocks_at t n + 3) block_words p)) (store_of (word a) t n p))
      (passed-came a (blocks_column t n p 3) (decode a).own c h))
      (passed-below a (blocks_column t n p 3) (decode a).own c h)

  -- several words past the sizes that are put
  live-put_from : {b : List ℕ} → Live b t n p → (i e : ℕ) (vs : List ℕ) → p_at < i → 4 * (i + e + length vs) ≤ size t n p → OfWords vs → Live (put_from b i e vs) t n p
  live-put_from l i e [] past fit all = l
  live-put_from {b = b} l i e (v ∷ vs) past fit all =
      live-put_from {b = put_word b (i + e) v} (live-put l (i + e) v (omega (arith, l.fits)) (omega arith) all.0) i (suc e) vs past (omega arith) all.1

module _ {a : List ℕ} {t n p : ℕ} (live : Live a t n p) (k : ℕ) (r : Thread) (small : Small r) (low : k < t) where
  abbrev cell : ℕ
  cell = threads_at + thread_words * k

  all_small : OfWords (thread_row r)
  all_small = omega (arith, small)

  put-row : put_from a cell 0 (thread_row r) ≡ put_thread a cell r
  put-row = rw (add-zero cell)

  pub live-thread : Live (put_thread a cell r) t n p
  live-thread = subst (λ b. Live b t n p) put-row (live-put_from live live cell 0 (thread_row r) (omega arith) (omega arith) all_small)

  pub decode-thread : decode (put_thread a cell r) ≡ apply (decode a) k r nothing
  decode-thread =
      decode-live live-thread
      ∙ ap (λ b. store_of (word b) t n p) (sym put-row)
      ∙ ap (λ (f : ℕ → ℕ). store_of f t n p) (word-put_from a cell 0 (thread_row r) (omega (arith, live.fits)) all_small)
      ∙ store-thread (word a) t n p k r low
      ∙ ap (λ s. apply s k r nothing) (sym (decode-live live))
