-- What begin and step do first, alike: an area is refused with SHAPE and a thread with THREAD, or the thread's record is read.
use Rattle.std.specs.Prelude.{List, ◌≡◌, ℕ, true, ◌+◌, ◌*◌, ◌<◌, ltb}
use Rattle.meaning.specs.Numbers.{SHAPE, THREAD}
use Rattle.meaning.specs.Call.{Outcome, refused, check}
use Rattle.store.specs.Layout.{threads_at, thread_words}
use Rattle.store.specs.Area.{word, thread_from, decode, well_formed}
use Rattle.store.specs.Live.{Live}
use Rattle.calls.specs.declared.Opened.{Opened}
use Rattle.calls.specs.declared.Refusal.{Refusal}
use Rattle.calls.specs.Answering.{refusal_number}

-- the area is well formed, with these sizes, and has a thread t, with this record
pub record Opens (a : List ℕ) (t : ℕ) (o : Opened) : Type 0 where
  pub well : well_formed a ≡ true
  pub live : Live a o.z.t o.z.n o.z.p
  pub index : o.k ≡ t
  pub below : t < o.z.t
  pub as_read : o.r ≡ thread_from (word a) (threads_at + thread_words * t)

-- whatever a call of thread t would come to, the area refuses it with the number
abbrev pub RefusesAny : List ℕ → ℕ → Refusal → Type 0
RefusesAny a t r =
    (o : Outcome) → check (well_formed a) SHAPE (check (ltb t (decode a).threads) THREAD o) ≡ refused (refusal_number r)
