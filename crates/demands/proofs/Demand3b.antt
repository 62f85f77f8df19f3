-- DEMAND 3, second half, over areas of bytes: of an area that a format left which gave WENT, and of every schedule of words. (The first
-- half is Demand3a.)
--  * area_one_at_a_time: where all threads are idle after the schedule, the bytes are those that the operations leave which are run whole,
--    one after the other, in the order of their last locks; and each thread's operations have answered the same.
--  * area_answers_so_far: before that, finished or not, what a thread has finished with are the first of its answers in that run, and at
--    most one is left, that of its open operation.
--  * area_serial_whole: in that run each operation is begun, goes and finishes, and the steps that are left find its thread idle: nothing
--    there is blocked or refused before its end.
--  * area_each_once: a thread's operations in that order are those that it has begun, each once, but for one at most that has no place
--    yet; and all of them are finished, but for one at most that is open.
-- And of every area grown from fresh:
--  * grown_last_takes: a step that takes an operation's last lock takes a lock.
--  * grown_last_is_last: after it, whatever is called, the operation takes no lock and can step, until it finishes.
--  * grown_place_changes: an operation gains its place exactly by the step that takes its last lock, and loses it exactly by the one that
--    finishes it. So none finishes before its last lock.
-- The definitions are those of the crate meaning, specs/Schedule and specs/Demands, and of specs/LastLock. Assumes nothing.
use mathlib.Core.Path.{◌≡◌, refl, sym, ap, ◌∙◌, subst}
use mathlib.Core.Bool.{true, false}
use mathlib.Core.List.{List, [], ◌++◌}
use Prim.Native.Nat.{ℕ}
use native.Mathlib.Omega.{arith}
use borrow.Author.Tests.{ltb-true, leb-true}
use Rattle.meaning.specs.Numbers.{WENT, FINISHED}
use Rattle.meaning.specs.Store.{Store}
use Rattle.meaning.specs.Call.{Entry, step, call_store, is_idle}
use Rattle.meaning.specs.Schedule.{Words, AtTake, takes_last, placed, called, Operation, Answered, run, replies, order, finished_by, serial}
use Rattle.meaning.specs.Demands.{PlaceChanges, of_thread, ops, answered_ops, pending, placed_op, Owed, RunsWhole, EachOnce, one_by_one, OneAtATime, AnswersSoFar}
use Rattle.meaning.proofs.OneAtATime.{one_at_a_time, answers_so_far}
use Rattle.meaning.proofs.OneAtATime.Places.{placed_no_take}
use Rattle.meaning.proofs.OneAtATime.LastIsLast.{last_takes, placed-steps, place-changes, placed_until_finished}
use Rattle.meaning.proofs.OneAtATime.EachOnce.{each_once}
use Rattle.meaning.proofs.OneAtATime.Whole.{serial-whole}
use Rattle.store.specs.Area.{decode}
use Rattle.store.specs.Calls.{call_area, step_area, Formatted, Grown}
use Rattle.store.proofs.Range.{Good, good-ranged, decode_injective, formatted-good, formatted-fresh}
use Rattle.demands.specs.RefusalTables.{rests}
use Rattle.demands.specs.LastLock.{TakesNoMore}
use Rattle.demands.specs.History.{AllWords}
use Rattle.demands.proofs.Bridge.{after_call, run-good, run-decoded, replies-decoded, order-decoded, finished_by-decoded, grown-good, grown-inv, run-grown}
use Rattle.demands.proofs.Demand1.{refusals, grown_well_formed, number-decoded}
use Rattle.demands.proofs.History.{areas_follow, serial-words}

module _ (a : List ℕ) (f : Formatted a) (w : List Entry) (x : AllWords w) where
  good : Good a
  good = formatted-good a f

  -- the whole operations one after the other
  abbrev wholes : List Entry
  wholes = one_by_one call_area decode a w

  wholes-words : AllWords wholes
  wholes-words = serial-words a good w x

  wholes-decoded : wholes ≡ one_by_one call_store (λ s. s) (decode a) w
  wholes-decoded = ap serial (order-decoded a good w x)

  wholes-finished : (u : ℕ) → finished_by call_area decode a u wholes ≡
      finished_by call_store (λ s. s) (decode a) u (one_by_one call_store (λ s. s) (decode a) w)
  wholes-finished u =
      finished_by-decoded a good u wholes wholes-words
      ∙ ap (λ (v : List Entry). finished_by call_store (λ s. s) (decode a) u v) wholes-decoded

  pub area_serial_whole : RunsWhole (order call_area decode a w) (replies call_area a (one_by_one call_area decode a w))
  area_serial_whole =
      let l = order-decoded a good w x in
      let r =
      replies-decoded a good wholes wholes-words ∙ ap (λ (v : List Entry). replies call_store (decode a) v) wholes-decoded in
      let R =
      formatted-fresh a f
      (λ s. RunsWhole (order call_store (λ s. s) s w) (replies call_store s (one_by_one call_store (λ s. s) s w)))
      (λ t n p d limits. serial-whole t n p d limits w) in
      subst (λ (o : List Operation). RunsWhole o (replies call_area a wholes)) (sym l)
      (subst (RunsWhole (order call_store (λ s. s) (decode a) w)) (sym r) R)

  pub area_one_at_a_time : ((u : ℕ) → rests (run call_area a w) u ≡ true) → OneAtATime call_area decode a w
  area_one_at_a_time idle =
      let left = run-decoded a good w x in
      let O =
      formatted-fresh a f (λ s. ((u : ℕ) → is_idle ((run call_store s w).thread u) ≡ true) → OneAtATime call_store (λ s. s) s w)
      (λ t n p d limits. one_at_a_time t n p d limits w)
      (λ u. subst (λ (s : Store). is_idle (s.thread u) ≡ true) left (idle u)) in
      record {
        leaves =
            decode_injective (run call_area a w) (run call_area a wholes) (run-good a good w x)
            (run-good a good wholes wholes-words)
            (left ∙ O.leaves
            ∙ sym (run-decoded a good wholes wholes-words ∙ ap (λ (v : List Entry). run call_store (decode a) v) wholes-decoded));
        answers = λ u. finished_by-decoded a good u w x ∙ O.answers u ∙ sym (wholes-finished u);
      }

  pub area_answers_so_far : (u : ℕ) → AnswersSoFar call_area decode a w u
  area_answers_so_far u =
      let A =
      formatted-fresh a f (λ s. AnswersSoFar call_store (λ s. s) s w u) (λ t n p d limits. answers_so_far t n p d limits w u) in
      record {
        rest_owed = A.rest_owed;
        owed = subst (λ (s : Store). Owed s u A.rest_owed) (sym (run-decoded a good w x)) A.owed;
        answers =
            wholes-finished u ∙ A.answers
            ∙ ap (λ (l : List Answered). l ++ A.rest_owed) (sym (finished_by-decoded a good u w x));
      }

  pub area_each_once : (u : ℕ) → EachOnce call_area decode a w u
  area_each_once u =
      record {
        begun_once =
            areas_follow a f w x (λ h. h.begun u ≡ of_thread u h.order ++ pending u h.left)
            (λ t n p d limits. (each_once t n p d limits w u).begun_once);
        finished_once =
            areas_follow a f w x (λ h. ops (of_thread u h.order) ≡ answered_ops (h.finished u) ++ placed_op u h.left)
            (λ t n p d limits. (each_once t n p d limits w u).finished_once);
      }

-- ---- last locks

module _ (a : List ℕ) (g : Grown a) where
  pub grown_last_takes : (t : ℕ) → rests a t ≡ false → takes_last (decode a) ((decode a).thread t) ≡ true → AtTake ((decode a).thread t)
  grown_last_takes = last_takes (decode a) (grown-inv a g)

  pub grown_place_changes : (e : Entry) → Words e → (t : ℕ) →
      PlaceChanges (decode a) (decode (call_area a e).after) e (call_area a e).number t
  grown_place_changes e w t =
      let m = after_call a (grown-good a g) e w in
      subst (λ (s : Store). PlaceChanges (decode a) s e (call_area a e).number t) (sym m.decoded)
      (subst (λ (k : ℕ). PlaceChanges (decode a) (call_store (decode a) e).after e k t) (sym m.number)
      (place-changes (decode a) (grown-inv a g) t e))

  -- who has its place takes no more
  placed_no_more : (t : ℕ) → placed (decode a) ((decode a).thread t) ≡ true → TakesNoMore a t
  placed_no_more t has =
      let e = number-decoded a (grown_well_formed a g) (step t) in
      let c = leb-true (call_store (decode a) (step t)).number FINISHED (placed-steps (decode a) (grown-inv a g) t has) in
      record { place = has; no_take = placed_no_take (decode a) (grown-inv a g) t has; can_step = omega arith }

  -- a thread that can step has a number that is a word
  step_words : (t : ℕ) → (step_area a t).number ≡ WENT → Words (step t)
  step_words t w =
      let below = ltb-true t _ (((refusals a).step t).went.0 w).1.0 in
      let sizes = (good-ranged a (grown-good a g)).sizes in
      omega arith

pub grown_last_is_last : (a : List ℕ) → Grown a → (t : ℕ) → (step_area a t).number ≡ WENT →
    takes_last (decode a) ((decode a).thread t) ≡ true → (w : List Entry) → AllWords w →
    finished_by call_area decode (step_area a t).after t w ≡ [] → TakesNoMore (run call_area (step_area a t).after w) t
grown_last_is_last a g t went last w x none =
    let y = step_words a g t went in
    let a' = (step_area a t).after in
    let g' : Grown a' = called g (step t) y in
    let has : placed (decode a') ((decode a').thread t) ≡ true = ((grown_place_changes a g (step t) y t).gained.1 (refl, went, last)).1 in
    placed_no_more (run call_area a' w) (run-grown a' g' w x) t
    (subst (λ (s : Store). placed s (s.thread t) ≡ true) (sym (run-decoded a' (grown-good a' g') w x))
    (placed_until_finished w (decode a') (grown-inv a' g') t has (sym (finished_by-decoded a' (grown-good a' g') t w x) ∙ none)))
