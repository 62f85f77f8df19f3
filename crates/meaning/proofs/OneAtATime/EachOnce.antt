-- Each once, over stores: a thread's operations in the order of last locks, and then the one that it has begun and that has no
-- place yet, are those that it has begun, in the order in which it began them; and of those in the order all are finished, but for an open one that
-- has its place (`each_once`). So each begun operation stands in the order at most once, and each finished one
-- exactly once.
-- Assumes nothing.
use mathlib.Core.Path.{◌≡◌, refl, sym, ap, ◌∙◌, subst}
use mathlib.Core.Bool.{Bool, true, false, not, ◌&&◌, ◌||◌, and-true, and-false, or-false}
use mathlib.Core.List.{List, [], ◌∷◌, ◌++◌, map-append, append-nil, append_assoc}
use Prim.Native.Nat.{ℕ}
use native.Mathlib.Omega.{arith}
use lib.Dec.{eqb, ltb, leb}
use borrow.Author.Tests.{eqb-true, eqb-false, ne_eqb}
use Rattle.meaning.specs.declared.Thread.{Thread}
use Rattle.meaning.specs.Numbers.{WENT, FINISHED}
use Rattle.meaning.specs.Limits.{within, in_limits}
use Rattle.meaning.specs.Store.{Store, idle, fresh}
use Rattle.meaning.specs.Programs.{WRITE, LEVEL}
use Rattle.meaning.specs.Step.{nothing, apply}
use Rattle.meaning.specs.Call.{Entry, begin, step, call_store, is_idle, begun, stored_n, stored_c, reply}
use Rattle.meaning.specs.Schedule.{Operation, Answered, operation, emit, takes_last, placed, run, placing, starting, finishing, order, begun_by, finished_by}
use Rattle.meaning.specs.Demands.{by_thread, of_thread, ops, answered_ops, pending, placed_op, EachOnce}
use Rattle.meaning.proofs.Base.Words.{same, either_way, within_true, upd_same, upd_other}
use Rattle.meaning.proofs.Invariant.{Inv}
use Rattle.meaning.proofs.Lines.EveryLine.{idle_is, begins}
use Rattle.meaning.proofs.Progress.{inv-fresh, inv-call}
use Rattle.meaning.proofs.EitherOrder.{Going, left_by, can-going, going-reply, going-moves}
use Rattle.meaning.proofs.OneAtATime.Places.{Went, went, over, Came, going-came, first_unplaced, last_unplaced, placed-kept}
use Rattle.meaning.proofs.OneAtATime.Settles.{stepped, stepped_is}
use Rattle.meaning.proofs.OneAtATime.LastLock.{work}
use Rattle.meaning.proofs.Base.Requests.{those-append}
use Rattle.meaning.proofs.Base.Schedules.{by_begin, refused-not, step_stays, refused-number, placing-append, starting-append, finishing-append}

-- ---- from one call to a schedule

of_thread-emit : (u : ℕ) (b : Bool) (o : Operation) → of_thread u (emit b o []) ≡ emit (b && eqb o.thread u) o []
of_thread-emit u true o = refl
of_thread-emit u false o = refl

-- what each call adds to the one list and to the other, with what is still open before and after it
module _ {A : Type 0} (still : Store → List A) (f g : Store → Entry → List A) (F G : Store → List Entry → List A)
    (F-none : (s : Store) → F s [] ≡ [])
    (F-more : (s : Store) (e : Entry) (w : List Entry) → F s (e ∷ w) ≡ f s e ++ F (call_store s e).after w)
    (G-none : (s : Store) → G s [] ≡ [])
    (G-more : (s : Store) (e : Entry) (w : List Entry) → G s (e ∷ w) ≡ g s e ++ G (call_store s e).after w)
    (one : (s : Store) → Inv s → (e : Entry) → still s ++ f s e ≡ g s e ++ still (call_store s e).after) where
  telescope : (w : List Entry) (s : Store) → Inv s → still s ++ F s w ≡ G s w ++ still (run call_store s w)
  telescope [] s I = rw (F-none s, G-none s) (append-nil (still s))
  telescope (e ∷ w) s I =
      let s' = (call_store s e).after in
      ap (λ (l : List A). still s ++ l) (F-more s e w)
      ∙ sym (append_assoc (still s) (f s e) (F s' w))
      ∙ ap (λ (l : List A). l ++ F s' w) (one s I e)
      ∙ append_assoc (g s e) (still s') (F s' w)
      ∙ ap (λ (l : List A). g s e ++ l) (telescope w s' (inv-call s I e))
      ∙ sym (append_assoc (g s e) (G s' w) (still (run call_store s' w)))
      ∙ ap (λ (l : List A). l ++ still (run call_store s' w)) (sym (G-more s e w))

-- ---- one call

-- what a call adds to what u has begun (x), to its place in the order (y), and to what it has finished (z)
record Sees (u : ℕ) (s s' : Store) (x y : List Operation) (z : List Answered) : Type 0 where
  begins : pending u s ++ x ≡ y ++ pending u s'
  finishes : placed_op u s ++ ops y ≡ answered_ops z ++ placed_op u s'

-- by u's record and whether it has its place
pending_is : (u : ℕ) (s : Store) (r : Thread) (b : Bool) → s.thread u ≡ r → placed s r ≡ b →
    pending u s ≡ emit (not (is_idle r) && not b) (work u r) []
pending_is u s r b is place = rw (is, place)

placed_op_is : (u : ℕ) (s : Store) (r : Thread) (b : Bool) → s.thread u ≡ r → placed s r ≡ b → placed_op u s ≡ emit b r.op []
placed_op_is u s r b is place = rw (is, place)

-- from what u was to what it is
sees : (u : ℕ) (s s' : Store) (r r' : Thread) (b b' : Bool) (x y : List Operation) (z : List Answered) →
    s.thread u ≡ r → placed s r ≡ b → s'.thread u ≡ r' → placed s' r' ≡ b' →
    emit (not (is_idle r) && not b) (work u r) [] ++ x ≡ y ++ emit (not (is_idle r') && not b') (work u r') [] →
    emit b r.op [] ++ ops y ≡ answered_ops z ++ emit b' r'.op [] → Sees u s s' x y z
sees u s s' r r' b b' x y z is place is' place' begin-law finish-law =
    record {
      begins =
          ap (λ (l : List Operation). l ++ x) (pending_is u s r b is place) ∙ begin-law
          ∙ ap (λ (l : List Operation). y ++ l) (sym (pending_is u s' r' b' is' place'));
      finishes =
          ap (λ (l : List ℕ). l ++ ops y) (placed_op_is u s r b is place) ∙ finish-law
          ∙ ap (λ (l : List ℕ). answered_ops z ++ l) (sym (placed_op_is u s' r' b' is' place'));
    }

sees-alike : {u : ℕ} {s s' : Store} {x y y' : List Operation} {z z' : List Answered} → Sees u s s' x y z → y' ≡ y → z' ≡ z →
    Sees u s s' x y' z'
sees-alike {u} {s} {s'} {x} {y} {z' = z'} S ys zs =
    subst (λ (l : List Operation). Sees u s s' x l z') (sym ys) (subst (λ (l : List Answered). Sees u s s' x y l) (sym zs) S)

-- nothing is added, where u stands as it stood
sees_same : (u : ℕ) (s s' : Store) → s'.thread u ≡ s.thread u → placed s' (s.thread u) ≡ placed s (s.thread u) →
    Sees u s s' [] [] []
sees_same u s s' is place =
    record {
      begins = append-nil (pending u s) ∙ sym (rw (is, place));
      finishes = append-nil (placed_op u s) ∙ sym (rw (is, place));
    }

-- begin stores what it stores
operation-stored : (t op n c : ℕ) → operation t op (stored_n op n) (stored_c op c) ≡ operation t op n c
operation-stored t op n c =
    either_way (eqb op LEVEL) (λ x. either_way (eqb op WRITE) (λ y. rw (x, y)) (λ y. rw (x, y)))
    (λ x. either_way (eqb op WRITE) (λ y. rw (x, y)) (λ y. rw (x, y)))

module _ (s : Store) (I : Inv s) (u : ℕ) where
  begun_own : (op n c : ℕ) → is_idle (s.thread u) ≡ true → within WRITE LEVEL op ≡ true →
      (eqb op LEVEL || ltb n s.numbers) ≡ true →
      Sees u s (apply s u (begun op n c) nothing) (operation u op n c ∷ []) [] []
  begun_own op n c rests known logical =
      let s' = apply s u (begun op n c) nothing in
      let is : s.thread u ≡ idle = idle_is (s.thread u) (I.stands u) rests in
      let new : s'.thread u ≡ begun op n c = upd_same s.thread u (begun op n c) in
      let busy : eqb op 0 ≡ false = ne_eqb op 0 (λ e. let b = within_true WRITE LEVEL op known in omega arith) in
      let place : placed s' (begun op n c) ≡ false =
      first_unplaced s' (begun op n c) (begins s I u rests op n c known logical).stands refl in
      sees u s s' idle (begun op n c) false false (operation u op n c ∷ []) [] [] is refl new place
      (rw busy (ap (λ (o : Operation). o ∷ []) (sym (operation-stored u op n c)))) refl

  begun-sees : (t op n c : ℕ) →
      Sees u s (call_store s (begin t op n c)).after (starting call_store (λ s. s) s u (begin t op n c) []) [] []
  begun-sees t op n c =
      by_begin
      (λ o. let y = reply (λ s'. s') s o in Sees u s y.after (emit (eqb y.number WENT && eqb t u) (operation t op n c) []) [] [])
      s t op n c
      (λ number x. rw (refused-not number x WENT refl) (sees_same u s s refl refl))
      (λ b x y z. either_way (eqb t u)
      (λ e. rw e (subst (λ (t : ℕ). Sees u s (apply s t (begun op n c) nothing) (operation t op n c ∷ []) [] [])
      (sym (eqb-true t u e))
      (begun_own op n c (rw (eqb-true t u e) at x) y z)))
      (λ e. rw e (sees_same u s (apply s t (begun op n c) nothing)
      (upd_other s.thread t u (begun op n c) (eqb-false t u e)) refl)))

  module _ (g : Going s u) where
    abbrev r : Thread
    r = s.thread u

    -- what it places and finishes, where that is its own
    abbrev places : List Operation
    places = emit (eqb g.number WENT && takes_last s r) (work u r) []

    abbrev finish : List Answered
    finish = emit (eqb g.number FINISHED) (record { op = r.op; value = g.value }) []

    now : (left_by s u g).thread u ≡ g.becomes
    now = upd_same s.thread u g.becomes

    last_own : g.number ≡ WENT → Went s u g.becomes g.effect → takes_last s r ≡ true →
        Sees u s (left_by s u g) [] places finish
    last_own w W takes =
        let lacks = last_unplaced s I u takes in
        sees-alike (sees u s (left_by s u g) r g.becomes false true [] (work u r ∷ []) [] refl lacks now
        (W.place ∙ rw (lacks, takes)) (rw (g.busy, and-false (not (is_idle g.becomes)))) (rw W.op))
        (rw (w, takes)) (rw w)

    on-own : g.number ≡ WENT → Went s u g.becomes g.effect → takes_last s r ≡ false →
        Sees u s (left_by s u g) [] places finish
    on-own w W takes =
        sees-alike (sees u s (left_by s u g) r g.becomes (placed s r) (placed s r) [] [] [] refl refl now
        (W.place ∙ rw takes (or-false (placed s r)))
        (append-nil (emit (not (is_idle r) && not (placed s r)) (work u r) []) ∙ rw (W.work, W.op))
        (append-nil (emit (placed s r) r.op []) ∙ rw W.op))
        (rw (w, takes)) (rw w)

    over_own : g.number ≡ FINISHED → g.becomes ≡ idle → placed s r ≡ true → Sees u s (left_by s u g) [] places finish
    over_own w is has =
        sees-alike (sees u s (left_by s u g) r idle true false [] [] (record { op = r.op; value = g.value } ∷ []) refl has
        (now ∙ is) refl (rw (and-false (not (is_idle r)))) refl)
        (rw w) (rw w)

    came_own : Came s u g.number g.becomes g.effect → Sees u s (left_by s u g) [] places finish
    came_own (went w W) = either_way (takes_last s r) (λ y. last_own w W y) (λ y. on-own w W y)
    came_own (over w is has) = over_own w is has

  -- what a step of t places and finishes
  abbrev placings : ℕ → List Operation
  placings t = of_thread u (placing call_store (λ s. s) s (step t) [])

  abbrev finishings : ℕ → List Answered
  finishings t = finishing call_store (λ s. s) s u (step t) []

  placing_own : (t : ℕ) → placings t ≡
      emit (eqb (call_store s (step t)).number WENT && takes_last s (s.thread t) && eqb t u) (work t (s.thread t)) []
  placing_own t = of_thread-emit u (eqb (call_store s (step t)).number WENT && takes_last s (s.thread t)) (work t (s.thread t))

  own_sees : Going s u → Sees u s (stepped s u) [] (placings u) (finishings u)
  own_sees g =
      subst (λ (x : Store). Sees u s x [] (placings u) (finishings u)) (sym (stepped_is s u g))
      (sees-alike (came_own g (going-came s I u g))
      (placing_own u ∙ rw (going-reply s u g, same u, and-true (eqb g.number WENT && takes_last s (s.thread u))))
      (rw (going-reply s u g, same u, and-true (eqb g.number FINISHED))))

  other_sees : (t : ℕ) → (t ≡ u → ⊥) → Going s t → Sees u s (stepped s t) [] (placings t) (finishings t)
  other_sees t apart g =
      subst (λ (x : Store). Sees u s x [] (placings t) (finishings t)) (sym (stepped_is s t g))
      (sees-alike (sees_same u s (left_by s t g) (upd_other s.thread t u g.becomes apart)
      (placed-kept s I t g.becomes g.effect (going-moves s t I g) u apart))
      (placing_own t ∙ rw (ne_eqb t u apart, and-false (eqb (call_store s (step t)).number WENT && takes_last s (s.thread t))))
      (rw (ne_eqb t u apart, and-false (eqb (call_store s (step t)).number FINISHED))))

  step-sees : (t : ℕ) → Sees u s (stepped s t) [] (placings t) (finishings t)
  step-sees t =
      either_way (leb (call_store s (step t)).number FINISHED)
      (λ c. either_way (eqb t u)
      (λ e. subst (λ (v : ℕ). Sees u s (stepped s v) [] (placings v) (finishings v)) (sym (eqb-true t u e))
      (own_sees (can-going s u (rw (eqb-true t u e) at c))))
      (λ e. other_sees t (eqb-false t u e) (can-going s t c)))
      (λ x. step_stays s (λ y. Sees u s y [] (placings t) (finishings t)) t x
      (sees-alike (sees_same u s s refl refl) (rw (refused-number s t WENT refl x)) (rw (refused-number s t FINISHED refl x))))

  call-sees : (e : Entry) → Sees u s (call_store s e).after (starting call_store (λ s. s) s u e [])
      (of_thread u (placing call_store (λ s. s) s e [])) (finishing call_store (λ s. s) s u e [])
  call-sees (begin t op n c) = begun-sees t op n c
  call-sees (step t) = step-sees t

-- ---- the theorem

module _ (u : ℕ) where
  abbrev its_order : Store → List Entry → List Operation
  its_order s w = of_thread u (order call_store (λ s. s) s w)

  order-more : (s : Store) (e : Entry) (w : List Entry) → its_order s (e ∷ w) ≡
      of_thread u (placing call_store (λ s. s) s e []) ++ its_order (call_store s e).after w
  order-more s e w =
      let rest = order call_store (λ s. s) (call_store s e).after w in
      ap (of_thread u) (sym (placing-append call_store (λ s. s) s e [] rest))
      ∙ those-append (by_thread u) (placing call_store (λ s. s) s e []) rest

  begun_all : (w : List Entry) (s : Store) → Inv s →
      pending u s ++ begun_by call_store (λ s. s) s u w ≡ its_order s w ++ pending u (run call_store s w)
  begun_all =
      telescope (pending u) (λ s e. starting call_store (λ s. s) s u e []) (λ s e. of_thread u (placing call_store (λ s. s) s e []))
      (λ s w. begun_by call_store (λ s. s) s u w) its_order (λ s. refl)
      (λ s e w. sym (starting-append call_store (λ s. s) s u e [] (begun_by call_store (λ s. s) (call_store s e).after u w)))
      (λ s. refl) order-more (λ s I e. (call-sees s I u e).begins)

  finished-all : (w : List Entry) (s : Store) → Inv s →
      placed_op u s ++ ops (its_order s w) ≡ answered_ops (finished_by call_store (λ s. s) s u w) ++ placed_op u (run call_store s w)
  finished-all =
      telescope (placed_op u) (λ s e. ops (of_thread u (placing call_store (λ s. s) s e [])))
      (λ s e. answered_ops (finishing call_store (λ s. s) s u e [])) (λ s w. ops (its_order s w))
      (λ s w. answered_ops (finished_by call_store (λ s. s) s u w)) (λ s. refl)
      (λ s e w. ap ops (order-more s e w)
      ∙ map-append (λ (o : Operation). o.op) (of_thread u (placing call_store (λ s. s) s e [])) (its_order (call_store s e).after w))
      (λ s. refl)
      (λ s e w.
      let rest = finished_by call_store (λ s. s) (call_store s e).after u w in
      ap answered_ops (sym (finishing-append call_store (λ s. s) s u e [] rest))
      ∙ map-append (λ (x : Answered). x.op) (finishing call_store (λ s. s) s u e []) rest)
      (λ s I e. (call-sees s I u e).finishes)

pub each_once : (t n p d : ℕ) → in_limits t n p d ≡ true → (w : List Entry) (u : ℕ) → EachOnce call_store (λ s. s) (fresh t n p d) w u
each_once t n p d limits w u =
    record {
      begun_once = begun_all u w (fresh t n p d) (inv-fresh t n p d limits);
      finished_once = finished-all u w (fresh t n p d) (inv-fresh t n p d limits);
    }
