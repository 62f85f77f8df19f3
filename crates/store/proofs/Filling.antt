-- An array of zeros that is filled from a column, an entry at a time, is the column so far: what the reading loops go by; and the
-- working store so filled is the decoded one. Assumes nothing.
use mathlib.Core.Path.{◌≡◌, refl, ◌∙◌, sym, ap, fun_ext}
use mathlib.Core.Bool.{Bool, true, false, cond}
use mathlib.Core.List.{List}
use Prim.Native.Nat.{ℕ, zero, suc, ◌+◌, ◌*◌, ◌<◌, ◌≤◌}
use native.Mathlib.Omega.{arith}
use lib.Dec.{eqb, ltb}
use lib.ListN.{set, length, replicate, length-replicate, length-set}
use lib.Seq.{get_or-set_same, get_or-set_other}
use borrow.Author.Tests.{lt-ltb, le-ltb, ltb-true, ltb-false, eqb-true, eqb-false}
use Rattle.meaning.specs.Table.{below}
use Rattle.meaning.specs.Limits.{most_blocks}
use Rattle.meaning.specs.Store.{idle}
use Rattle.store.specs.declared.Store.{Store as WorkingStore}
use Rattle.store.specs.declared.Column.{Column}
use Rattle.store.specs.Layout.{t_at, n_at, p_at, d_at, lock_at, owner_at, threads_at, thread_words, map_at, locks_at, blocks_at, block_words, area_words}
use Rattle.store.specs.Area.{word, thread_from, column, decode}
use Rattle.store.specs.Live.{Live, table, Fills, view}
use Rattle.store.proofs.Decode.{decode-live}

table-zeros : (room j : ℕ) → table (replicate room 0) j ≡ 0
table-zeros zero j = refl
table-zeros (suc room) zero = refl
table-zeros (suc room) (suc j) = table-zeros room j

table_none : (room : ℕ) (at : ℕ → ℕ) (from stride : ℕ) → table (replicate room 0) ≡ column at from stride 0
table_none room at from stride = fun_ext λ j. rw (le-ltb j 0 (omega arith)) (table-zeros room j)

table_more :
    (l : List ℕ) (at : ℕ → ℕ) (from stride k : ℕ) {v : ℕ} → k < length l → table l ≡ column at from stride k →
    v ≡ at (from + stride * k) → table (set l k v) ≡ column at from stride (k + 1)
table_more l at from stride k {v} h e q = fun_ext λ j. by_entry j (eqb j k) refl
  where
    by_entry : (j : ℕ) (b : Bool) → eqb j k ≡ b → table (set l k v) j ≡ column at from stride (k + 1) j
    by_entry j true s =
        let i : j ≡ k = eqb-true j k s in
        rw (i, lt-ltb k (k + 1) (omega arith)) (get_or-set_same l k v 0 h ∙ q)
    by_entry j false s = get_or-set_other l k j v 0 (eqb-false j k s) ∙ ap (λ (f : ℕ → ℕ). f j) e ∙ by_size (ltb j k) refl
      where
        by_size : (b : Bool) → ltb j k ≡ b → column at from stride k j ≡ column at from stride (k + 1) j
        by_size true t = rw (t, lt-ltb j (k + 1) (omega (arith, ltb-true j k t)))
        by_size false t =
            let o : j ≡ k → ⊥ = eqb-false j k s in
            rw (t, le-ltb j (k + 1) (omega (arith, ltb-false j k t)))

-- an array with room for so many words holds the column's first k
pub record Filled (at : ℕ → ℕ) (from stride count room k : ℕ) (l : List ℕ) : Type 0 where
  pub most : k ≤ count
  pub long : length l ≡ room
  pub holds : table l ≡ column at from stride k

-- before, in and after the loop
pub filled_none : {a l : List ℕ} {c : Column} (at : ℕ → ℕ) → Fills a c l → Filled at c.from c.stride c.count (length l) 0 l
filled_none {l = l} {c} at f =
    record { most = omega arith; long = refl; holds = rw f.zeroed (table_none (length l) at c.from c.stride) }

pub filled_more :
    {at : ℕ → ℕ} {from stride count room k v : ℕ} {l : List ℕ} → Filled at from stride count room k l → k < count → count ≤ room →
    v ≡ at (from + stride * k) → Filled at from stride count room (k + 1) (set l k v)
filled_more {at} {from} {stride} {k = k} {v} {l} f h g q =
    record {
      most = omega arith;
      long = length-set l k v ∙ f.long;
      holds = table_more l at from stride k (omega (arith, f.long)) f.holds q;
    }

pub filled-done :
    {at : ℕ → ℕ} {from stride count room k : ℕ} {l : List ℕ} → Filled at from stride count room k l → count ≤ k →
    table l ≡ column at from stride count
filled-done {count = count} {k = k} f h = let i : k ≡ count = omega (arith, f.most) in rw (← i) f.holds

-- ---- the working store of a live area

-- an array of zeros may be filled with words of a live area
pub fills :
    {a : List ℕ} {t n p : ℕ} → Live a t n p → (c : Column) (room : ℕ) {into : List ℕ} → into ≡ replicate room 0 → c.count ≤ room → room ≤ most_blocks →
    ((k : ℕ) → k < c.count → c.from + c.stride * k < area_words t n p) → Fills a c into
fills v c room {into} z h m r =
    let e : length into ≡ room = rw z (length-replicate room 0) in
    record { reach = λ k l. omega (arith, v.fits, r k l); fit = omega arith; few = omega arith; zeroed = rw e z }

pub record Loaded (a : List ℕ) (t n p : ℕ) (w : WorkingStore) : Type 0 where
  pub size_t : w.t ≡ word a t_at
  pub size_n : w.n ≡ word a n_at
  pub size_p : w.p ≡ word a p_at
  pub size_d : w.d ≡ word a d_at
  pub lock : w.lock ≡ word a lock_at
  pub owner : w.owner ≡ word a owner_at
  pub threads : table w.threads ≡ column (word a) threads_at 1 (thread_words * t)
  pub map : table w.map ≡ column (word a) (map_at t) 1 n
  pub locks : table w.locks ≡ column (word a) (locks_at t n) 1 n
  pub header : table w.header ≡ column (word a) (blocks_at t n) block_words p
  pub content : table w.content ≡ column (word a) (blocks_at t n + 1) block_words p
  pub wear : table w.wear ≡ column (word a) (blocks_at t n + 2) block_words p
  pub own : table w.own ≡ column (word a) (blocks_at t n + 3) block_words p

column_in : (at : ℕ → ℕ) (from count j m : ℕ) → j < count → m ≡ from + j → column at from 1 count j ≡ at m
column_in at from count j m h e =
    let q : from + 1 * j ≡ m = omega arith in
    rw (lt-ltb j count h, q)

column_out : (at : ℕ → ℕ) (from count j : ℕ) → count ≤ j → column at from 1 count j ≡ 0
column_out at from count j h = rw (le-ltb j count h)

-- the records of the loaded words
threads-loaded :
    (at : ℕ → ℕ) (t k : ℕ) →
    thread_from (column at threads_at 1 (thread_words * t)) (thread_words * k)
    ≡ below idle t (λ j. thread_from at (threads_at + thread_words * j)) k
threads-loaded at t k = by_size (ltb k t) refl
  where
    by_size :
        (b : Bool) → ltb k t ≡ b →
        thread_from (column at threads_at 1 (thread_words * t)) (thread_words * k)
        ≡ cond b (thread_from at (threads_at + thread_words * k)) idle
    by_size true e =
        let h : k < t = ltb-true k t e in
        λ i.
        record {
          op = column_in at threads_at (thread_words * t) (thread_words * k) (threads_at + thread_words * k) (omega arith) (omega arith) i;
          line = column_in at threads_at (thread_words * t) (thread_words * k + 1) (threads_at + thread_words * k + 1) (omega arith) (omega arith) i;
          n = column_in at threads_at (thread_words * t) (thread_words * k + 2) (threads_at + thread_words * k + 2) (omega arith) (omega arith) i;
          c = column_in at threads_at (thread_words * t) (thread_words * k + 3) (threads_at + thread_words * k + 3) (omega arith) (omega arith) i;
          p = column_in at threads_at (thread_words * t) (thread_words * k + 4) (threads_at + thread_words * k + 4) (omega arith) (omega arith) i;
          q = column_in at threads_at (thread_words * t) (thread_words * k + 5) (threads_at + thread_words * k + 5) (omega arith) (omega arith) i;
          h = column_in at threads_at (thread_words * t) (thread_words * k + 6) (threads_at + thread_words * k + 6) (omega arith) (omega arith) i;
        }
    by_size false e =
        let h : t ≤ k = ltb-false k t e in
        λ i.
        record {
          op = column_out at threads_at (thread_words * t) (thread_words * k) (omega arith) i;
          line = column_out at threads_at (thread_words * t) (thread_words * k + 1) (omega arith) i;
          n = column_out at threads_at (thread_words * t) (thread_words * k + 2) (omega arith) i;
          c = column_out at threads_at (thread_words * t) (thread_words * k + 3) (omega arith) i;
          p = column_out at threads_at (thread_words * t) (thread_words * k + 4) (omega arith) i;
          q = column_out at threads_at (thread_words * t) (thread_words * k + 5) (omega arith) i;
          h = column_out at threads_at (thread_words * t) (thread_words * k + 6) (omega arith) i;
        }

pub view-loaded : {a : List ℕ} {t n p : ℕ} {w : WorkingStore} → Live a t n p → Loaded a t n p w → view w ≡ decode a
view-loaded {a} {t} v l =
    (λ i.
    record {
      threads = (l.size_t ∙ v.threads) i;
      numbers = (l.size_n ∙ v.numbers) i;
      blocks = (l.size_p ∙ v.blocks) i;
      distance = l.size_d i;
      lock = l.lock i;
      owner = l.owner i;
      thread = (ap (λ f k. thread_from f (thread_words * k)) l.threads ∙ fun_ext (threads-loaded (word a) t)) i;
      map = l.map i;
      locks = l.locks i;
      header = l.header i;
      content = l.content i;
      wear = l.wear i;
      own = l.own i;
    })
    ∙ sym (decode-live v)
