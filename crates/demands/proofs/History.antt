-- What a schedule does as a whole, its history, is the same of an area and of the store that it holds. So whatever is proved of every
-- history from a fresh store holds of every history from an area that a format left which gave WENT (`areas_follow`). And the
-- operations in the order of their last locks, run whole one after the other, are again a schedule of words (`serial-words`).
-- Assumes nothing.
use mathlib.Core.Path.{◌≡◌, sym, subst}
use mathlib.Core.Bool.{Bool, true, false, ◌&&◌}
use mathlib.Core.List.{List, [], ◌∷◌, ◌++◌}
use mathlib.Core.Logic.{inl, inr}
use Prim.Native.Nat.{ℕ, zero, suc, ◌≤◌}
use native.Mathlib.Omega.{arith}
use lib.Dec.{eqb, ltb}
use borrow.Author.Tests.{ltb-true, ltb-false}
use Rattle.meaning.specs.declared.Thread.{Thread}
use Rattle.meaning.specs.Numbers.{WENT}
use Rattle.meaning.specs.Limits.{most_word, in_limits}
use Rattle.meaning.specs.Store.{Store, idle, fresh}
use Rattle.meaning.specs.Programs.{WRITE, LEVEL}
use Rattle.meaning.specs.Call.{Entry, begin, step, call_store, stored_n, stored_c}
use Rattle.meaning.specs.Schedule.{Operation, operation, emit, takes_last, order, steps, longest, whole, serial}
use Rattle.meaning.proofs.Base.Words.{either_way}
use Rattle.store.specs.Area.{decode}
use Rattle.store.specs.Calls.{call_area, Formatted}
use Rattle.store.proofs.Sound.{SoundThread}
use Rattle.store.proofs.Range.{Ranged, Good, good-ranged, formatted-good, formatted-fresh}
use Rattle.demands.specs.History.{AllWords, History, history}
use Rattle.demands.proofs.Bridge.{after_call, run-decoded, replies-decoded, order-decoded, begun_by-decoded, finished_by-decoded}

pub history-decoded : (a : List ℕ) → Good a → (w : List Entry) → AllWords w →
    history call_area decode a w ≡ history call_store (λ s. s) (decode a) w
history-decoded a g w x = λ i.
    record {
      left = run-decoded a g w x i;
      replies = replies-decoded a g w x i;
      order = order-decoded a g w x i;
      begun = λ t. begun_by-decoded a g t w x i;
      finished = λ t. finished_by-decoded a g t w x i;
    }

pub areas_follow : (a : List ℕ) → Formatted a → (w : List Entry) → AllWords w → (A : History → Type 0) →
    ((t n p d : ℕ) → in_limits t n p d ≡ true → A (history call_store (λ s. s) (fresh t n p d) w)) → A (history call_area decode a w)
areas_follow a f w x A all =
    subst A (sym (history-decoded a (formatted-good a f) w x)) (formatted-fresh a f (λ s. A (history call_store (λ s. s) s w)) all)

-- the first part of a schedule of words is one
pub words_first : (v v' : List Entry) → AllWords (v ++ v') → AllWords v
words_first [] v' x = tt
words_first (e ∷ v) v' x = (x.0, words_first v v' x.1)

-- ---- the serial schedule

-- the numbers of a thread's record that an operation has are words
abbrev RecordWords : Thread → Type 0
RecordWords r = (r.op ≤ most_word) × (r.n ≤ most_word) × (r.c ≤ most_word)

record_words : (s : Store) → Ranged s → (t : ℕ) → RecordWords (s.thread t)
record_words s R t =
    either_way (ltb t s.threads) (λ b. go ((R.thread t).sound (ltb-true t s.threads b)))
    (λ b. rests (sym ((R.thread t).past (ltb-false t s.threads b))))
  where
    rests : s.thread t ≡ idle → RecordWords (s.thread t)
    rests e = subst RecordWords (sym e) (omega arith)

    go : SoundThread s.numbers s.blocks (s.thread t) → RecordWords (s.thread t)
    go (inl e) = rests e
    go (inr w) =
        let z = R.sizes in
        let c = (R.thread t).c in
        omega arith

steps-words : (k t : ℕ) (w : List Entry) → t ≤ most_word → AllWords w → AllWords (steps k t w)
steps-words zero t w h x = x
steps-words (suc k) t w h x = (h, steps-words k t w h x)

whole_words : (t op n c : ℕ) (w : List Entry) → t ≤ most_word → op ≤ most_word → n ≤ most_word → c ≤ most_word → AllWords w →
    AllWords (whole (operation t op n c) w)
whole_words t op n c w ht ho hn hc x =
    let n-word : stored_n op n ≤ most_word = either_way (eqb op LEVEL) (λ b. rw b (omega arith)) (λ b. rw b hn) in
    let c-word : stored_c op c ≤ most_word = either_way (eqb op WRITE) (λ b. rw b hc) (λ b. rw b (omega arith)) in
    ((ht, ho, n-word, c-word), steps-words longest t w ht x)

-- in front of a list or not
emit-words : (b : Bool) (o : Operation) (l : List Operation) → AllWords (whole o (serial l)) → AllWords (serial l) →
    AllWords (serial (emit b o l))
emit-words true o l y n = y
emit-words false o l y n = n

pub serial-words : (a : List ℕ) → Good a → (w : List Entry) → AllWords w → AllWords (serial (order call_area decode a w))
serial-words a g [] x = tt
serial-words a g (begin t op n c ∷ w) x =
    serial-words (call_area a (begin t op n c)).after (after_call a g (begin t op n c) x.0).good w x.1
serial-words a g (step t ∷ w) x =
    let rest = serial-words (call_area a (step t)).after (after_call a g (step t) x.0).good w x.1 in
    let l = order call_area decode (call_area a (step t)).after w in
    let r = (decode a).thread t in
    let z = record_words (decode a) (good-ranged a g) t in
    emit-words (eqb (call_area a (step t)).number WENT && takes_last (decode a) r) (operation t r.op r.n r.c) l
    (whole_words t r.op r.n r.c (serial l) x.0 z.0 z.1 z.2 rest) rest
