-- The last lock is the last, over stores. A step that takes an operation's last lock takes a lock (`last_takes`); if it goes, the operation
-- has its place, and a place is gained in no other way, and lost only where the operation finishes (`place-changes`). So it keeps its place
-- until it finishes (`placed_until_finished`); and an operation that has its place is at no take (`placed_no_take` of Places) and can
-- step (`placed-steps`).
-- Assumes nothing.
use mathlib.Core.Path.{◌≡◌, refl, sym, ap, ◌∙◌, subst}
use mathlib.Core.Bool.{true, false, ◌&&◌, ◌||◌, or-false}
use mathlib.Core.List.{List, [], ◌∷◌}
use mathlib.Core.Logic.{inl, inr}
use Prim.Native.Nat.{ℕ}
use native.Mathlib.Omega.{arith}
use lib.Dec.{eqb, leb}
use borrow.Author.Tests.{eqb-true, eqb-false}
use Rattle.meaning.specs.declared.Kind.{Kind}
use Rattle.meaning.specs.declared.Kind.TheVariants.{Reader, Writer}
use Rattle.meaning.specs.declared.Act.TheVariants.{TakeN}
use Rattle.meaning.specs.declared.Thread.{Thread}
use Rattle.meaning.specs.declared.Effect.{Effect}
use Rattle.meaning.specs.declared.Verdict.{Verdict}
use Rattle.meaning.specs.Numbers.{WENT, FINISHED}
use Rattle.meaning.specs.Limits.{within}
use Rattle.meaning.specs.Store.{Store, idle}
use Rattle.meaning.specs.Programs.{WRITE, LEVEL, last_line, act_at, last_take, unmoved_take}
use Rattle.meaning.specs.Step.{nothing, apply}
use Rattle.meaning.specs.Call.{Reply, Entry, begin, step, call_store, is_idle, begun, reply}
use Rattle.meaning.specs.Schedule.{AtTake, takes_last, placed, run, finished_by}
use Rattle.meaning.specs.Demands.{PlaceChanges}
use Rattle.meaning.proofs.Base.Words.{either_way, clash, and_left, and_right, or_way, within_true, upd_same, upd_other}
use Rattle.meaning.proofs.Base.Schedules.{by_begin, step_stays, not-begin, not_step, finishing-none}
use Rattle.meaning.proofs.Invariant.{Inv}
use Rattle.meaning.proofs.Lines.{◌▸◌, from_at}
use Rattle.meaning.proofs.Lines.EveryLine.{idle_is, open-line, begins}
use Rattle.meaning.proofs.Progress.{inv-call, CanStep}
use Rattle.meaning.proofs.EitherOrder.{Goes, goes, ends, Going, left_by, can-going, going-reply, going-moves}
use Rattle.meaning.proofs.OneAtATime.Places.{went, over, Came, going-came, first_unplaced, last_unplaced, placed-going, placed-kept}

-- ---- a step that takes a last lock takes a lock

pub last_takes : (s : Store) → Inv s → (t : ℕ) → is_idle (s.thread t) ≡ false → takes_last s (s.thread t) ≡ true →
    AtTake (s.thread t)
last_takes s I t busy takes =
    let r = s.thread t in
    let on = open-line r (I.stands t) busy in
    let op = within_true WRITE LEVEL r.op (and_left _ (within 1 (last_line r.op) r.line) on) in
    or_way (eqb r.line (last_take r.op)) _ takes
    (λ x.
    let take =
    from_at (λ op. (κ : Kind) × (act_at op (last_take op) ≡ TakeN κ)) LEVEL WRITE
    ((Writer, refl) ▸ (Reader, refl) ▸ (Writer, refl) ▸ (Writer, refl) ▸ tt) r.op (omega arith) (omega arith) in
    inr (take.0, ap (act_at r.op) (eqb-true r.line (last_take r.op) x) ∙ take.1))
    (λ x.
    let y = and_left (eqb r.op LEVEL && eqb r.line unmoved_take) _ x in
    inl (rw (
      eqb-true r.op LEVEL (and_left (eqb r.op LEVEL) _ y),
      eqb-true r.line unmoved_take (and_right (eqb r.op LEVEL) _ y),
    )))

-- ---- who has its place can step

goes-can : {v : Verdict} {n x : ℕ} {r : Thread} {e : Effect} → Goes v n x r e → leb n FINISHED ≡ true
goes-can goes = refl
goes-can ends = refl

pub placed-steps : (s : Store) → Inv s → (t : ℕ) → placed s (s.thread t) ≡ true → CanStep s t
placed-steps s I t has =
    let g = placed-going s I t has in
    rw (going-reply s t g) (goes-can g.told')

-- ---- how a place is gained and lost

-- by a call t's operation keeps its place or its lack of one, gains it or loses it
data Turns (s s' : Store) (e : Entry) (number t : ℕ) : Type 0 where
  keeps : placed s' (s'.thread t) ≡ placed s (s.thread t) →
      (e ≡ step t → number ≡ WENT → takes_last s (s.thread t) ≡ true → ⊥) → (e ≡ step t → number ≡ FINISHED → ⊥) → Turns s s' e number t
  gains : e ≡ step t → number ≡ WENT → takes_last s (s.thread t) ≡ true → placed s (s.thread t) ≡ false →
      placed s' (s'.thread t) ≡ true → Turns s s' e number t
  loses : e ≡ step t → number ≡ FINISHED → placed s (s.thread t) ≡ true → placed s' (s'.thread t) ≡ false → Turns s s' e number t

turns-changes : (s s' : Store) (e : Entry) (number t : ℕ) → Turns s s' e number t → PlaceChanges s s' e number t
turns-changes s s' e number t (keeps still no_last no_end) =
    record {
      gained = (λ x. clash x.1 (still ∙ x.0), λ x. absurd (no_last x.0 x.1 x.2));
      lost = (λ x. clash x.0 (sym still ∙ x.1), λ x. absurd (no_end x.0 x.1));
    }
turns-changes s s' e number t (gains is w last lacks has) =
    record {
      gained = (λ x. (is, w, last), λ x. (lacks, has));
      lost = (λ x. clash x.0 lacks, λ x. absurd (let z = x.1 in omega arith));
    }
turns-changes s s' e number t (loses is w had lacks) =
    record {
      gained = (λ x. clash had x.0, λ x. absurd (let z = x.1 in omega arith));
      lost = (λ x. (is, w), λ x. (had, lacks));
    }

module _ (s : Store) (I : Inv s) (t : ℕ) where
  -- nothing changes
  refused-turns : (e : Entry) (number : ℕ) → leb number FINISHED ≡ false → Turns s s e number t
  refused-turns e number x =
      keeps refl (λ _ w _. clash (rw w) x) (λ _ w. clash (rw w) x)

  begin-turns : (u op n c : ℕ) →
      Turns s (call_store s (begin u op n c)).after (begin u op n c) (call_store s (begin u op n c)).number t
  begin-turns u op n c =
      by_begin (λ o. let y = reply (λ s'. s') s o in Turns s y.after (begin u op n c) y.number t) s u op n c
      (λ number x. refused-turns (begin u op n c) number x)
      (λ b x y z. keeps
      (either_way (eqb u t)
      (λ e.
      let is : s.thread t ≡ idle = idle_is (s.thread t) (I.stands t) (rw (eqb-true u t e) at x) in
      rw (e, is) (first_unplaced (apply s u (begun op n c) nothing) (begun op n c) (begins s I u x op n c y z).stands refl))
      (λ e. rw e))
      (λ is. absurd (not-begin t u op n c is)) (λ is. absurd (not-begin t u op n c is)))

  own_turns : (g : Going s t) → Came s t g.number g.becomes g.effect → Turns s (left_by s t g) (step t) g.number t
  own_turns g (went w W) =
      let place : placed (left_by s t g) ((left_by s t g).thread t) ≡ (placed s (s.thread t) || takes_last s (s.thread t)) =
      rw (upd_same s.thread t g.becomes) W.place in
      either_way (takes_last s (s.thread t))
      (λ x. let lacks = last_unplaced s I t x in gains refl w x lacks (place ∙ rw (lacks, x)))
      (λ x. keeps (place ∙ rw x (or-false (placed s (s.thread t)))) (λ _ _ y. clash y x) (λ _ y. omega arith))
  own_turns g (over w is has) = loses refl w has (rw (upd_same s.thread t g.becomes, is))

  other_turns : (u : ℕ) → (u ≡ t → ⊥) → (g : Going s u) → Turns s (left_by s u g) (step u) g.number t
  other_turns u apart g =
      keeps
      (rw (upd_other s.thread u t g.becomes apart)
      (placed-kept s I u g.becomes g.effect (going-moves s u I g) t apart))
      (λ is. absurd (not_step t u apart is)) (λ is. absurd (not_step t u apart is))

  going-turns : (u : ℕ) (g : Going s u) → Turns s (left_by s u g) (step u) g.number t
  going-turns u g =
      either_way (eqb u t)
      (λ e. subst (λ (v : ℕ). (g : Going s v) → Turns s (left_by s v g) (step v) g.number t) (sym (eqb-true u t e))
      (λ g. own_turns g (going-came s I t g)) g)
      (λ e. other_turns u (eqb-false u t e) g)

  step-turns : (u : ℕ) → Turns s (call_store s (step u)).after (step u) (call_store s (step u)).number t
  step-turns u =
      either_way (leb (call_store s (step u)).number FINISHED)
      (λ c.
      let g = can-going s u c in
      subst (λ (x : Reply Store). Turns s x.after (step u) x.number t) (sym (going-reply s u g)) (going-turns u g))
      (λ x. step_stays s (λ y. Turns s y (step u) (call_store s (step u)).number t) u x
      (refused-turns (step u) (call_store s (step u)).number x))

  call-turns : (e : Entry) → Turns s (call_store s e).after e (call_store s e).number t
  call-turns (begin u op n c) = begin-turns u op n c
  call-turns (step u) = step-turns u

  pub place-changes : (e : Entry) → PlaceChanges s (call_store s e).after e (call_store s e).number t
  place-changes e = turns-changes s (call_store s e).after e (call_store s e).number t (call-turns e)

-- ---- until it finishes

-- a call that finishes nothing of t's leaves it its place
placed_once : (s : Store) → Inv s → (t : ℕ) (e : Entry) → placed s (s.thread t) ≡ true →
    (e ≡ step t → (call_store s e).number ≡ FINISHED → ⊥) →
    placed (call_store s e).after ((call_store s e).after.thread t) ≡ true
placed_once s I t e has unfinished =
    either_way (placed (call_store s e).after ((call_store s e).after.thread t)) (λ x. x)
    (λ x. let z = (place-changes s I t e).lost.0 (has, x) in absurd (unfinished z.0 z.1))

pub placed_until_finished : (w : List Entry) (s : Store) → Inv s → (t : ℕ) → placed s (s.thread t) ≡ true →
    finished_by call_store (λ s. s) s t w ≡ [] → placed (run call_store s w) ((run call_store s w).thread t) ≡ true
placed_until_finished [] s I t has none = has
placed_until_finished (e ∷ w) s I t has none =
    let s' = (call_store s e).after in
    let z = finishing-none s t e (finished_by call_store (λ s. s) s' t w) none in
    placed_until_finished w s' (inv-call s I e) t (placed_once s I t e has z.0) z.1
