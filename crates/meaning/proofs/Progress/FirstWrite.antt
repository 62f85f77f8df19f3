-- Over stores: W8 empties the block of a first write, and it holds empty until the write's W14. The write's own lines between leave all
-- contents; others write a content only with the lock of the number that its block's header names, and that lock the write has. Lines W12
-- to W14 are also those of a write to a mapped number, whose block needn't be empty; so this is said of a schedule from W8 on and not
-- of a line.
-- Assumes nothing.
use Rattle.std.specs.Prelude.{None}
use mathlib.Core.Path.{◌≡◌, refl, sym, ap, ◌∙◌, subst}
use mathlib.Core.Bool.{Bool, true, false, ◌&&◌, ◌||◌}
use mathlib.Core.List.{List, [], ◌∷◌}
use Prim.Native.Nat.{ℕ, ◌≤◌}
use native.Mathlib.Omega.{arith}
use lib.Dec.{eqb, leb}
use borrow.Author.Tests.{leb-true, eqb-true, eqb-false, ne_eqb, le-leb, lt-ltb}
use Rattle.meaning.specs.declared.Kind.TheVariants.{Writer}
use Rattle.meaning.specs.declared.Thread.{Thread}
use Rattle.meaning.specs.declared.Verdict.{Verdict}
use Rattle.meaning.specs.declared.Verdict.TheVariants.{Blocked, Fault, Go, Done}
use Rattle.meaning.specs.declared.Act.TheVariants.{EmptyContent}
use Rattle.meaning.specs.declared.Effect.{Effect}
use Rattle.meaning.specs.Numbers.{FINISHED}
use Rattle.meaning.specs.Store.{Store, idle}
use Rattle.meaning.specs.Holding.{held_by, held, admits, naming}
use Rattle.meaning.specs.Programs.{WRITE, act_at}
use Rattle.meaning.specs.Manager.{empty}
use Rattle.meaning.specs.Step.{nothing, onward, on_content, need, next, touches, perform, verdict, apply}
use Rattle.meaning.specs.Call.{Entry, begin, step, call_store, reply, told, begun}
use Rattle.meaning.specs.Schedule.{run, finished_by}
use Rattle.meaning.specs.Demands.{EmptyTillW14}
use Rattle.meaning.proofs.Base.Words.{same, either_way, clash, and_left, and_right, or_way, upd_same}
use Rattle.meaning.proofs.Base.Sets.{writer-alone}
use Rattle.meaning.proofs.Base.Schedules.{by_step, finishing-none}
use Rattle.meaning.proofs.Invariant.{kind, holds_n, n_on_p, p-headed, GuardsContent, Inv}
use Rattle.meaning.proofs.Invariant.Keeping.{up, put-kept, n_locked, Moves}
use Rattle.meaning.proofs.Invariant.Sharing.{fact}
use Rattle.meaning.proofs.Lines.{Fine, at, From, ◌▸◌, from_at}
use Rattle.meaning.proofs.Lines.EveryLine.{fine}
use Rattle.meaning.proofs.Progress.{inv-call, up_busy}
use Rattle.meaning.proofs.Progress.Called.{CallCases, stays, opens, goes, ends, call_cases}

-- a record in a write that has done W8; if it hasn't done W14, its block is empty
record DoneW8 (content : ℕ → ℕ) (r : Thread) : Type 0 where
  op : r.op ≡ WRITE
  line : 9 ≤ r.line
  holds : r.line ≤ 14 → content r.p ≡ empty

abbrev HasDoneW8 : ℕ → Store → Type 0
HasDoneW8 t s = DoneW8 s.content (s.thread t)

-- ---- its own lines

-- what a line past W8 comes to: the next line, and up to W13 no content is changed
abbrev Walks : Thread → Verdict → Type 0
Walks r Blocked = Unit {0}
Walks r Fault = Unit {0}
Walks r (Go r' e) = (r' ≡ onward r) × (r.line ≤ 13 → e.content ≡ None)
Walks r (Done v e) = Unit {0}

needed : (b : Bool) (r : Thread) (v : Verdict) → Walks r v → Walks r (need b v)
needed true r v w = w
needed false r v w = tt

module _ (s : Store) (t : ℕ) where
  abbrev Walking : ℕ → ℕ → Type 0
  Walking op line = (n c p q h : ℕ) → Walks (at op line n c p q h) (perform (act_at op line) s t (at op line n c p q h))

  walking : From (Walking WRITE) 9 8
  walking =
      (λ n c p q h. needed (held Writer t (s.own p)) (at WRITE 9 n c p q h) _ (refl, λ _. refl))  -- W9
      ▸ (λ n c p q h. (refl, λ _. refl))  -- W10
      ▸ (λ n c p q h. needed (held_by t s.owner) (at WRITE 11 n c p q h) _ (refl, λ _. refl))  -- W11
      ▸ (λ n c p q h. needed (held_by t s.lock) (at WRITE 12 n c p q h) _ (refl, λ _. refl))  -- W12
      ▸ (λ n c p q h. needed (admits Writer t (s.own p)) (at WRITE 13 n c p q h) _ (refl, λ _. refl))  -- W13
      ▸ (λ n c p q h. needed (touches s t p) (at WRITE 14 n c p q h) _ (refl, λ (x : 14 ≤ 13). absurd (omega arith)))  -- W14
      ▸ (λ n c p q h. needed (held Writer t (s.own p)) (at WRITE 15 n c p q h) _ (refl, λ _. refl))  -- W15
      ▸ (λ n c p q h. needed (held Writer t (s.locks n)) (at WRITE 16 n c p q h) _ tt)  -- W16
      ▸ tt

-- ---- a call

-- it stands at a line of a write past W8
abbrev past_w8 : Thread → Bool
past_w8 r = eqb r.op WRITE && leb 9 r.line

-- the call is no step of thread t
abbrev NoStepOf : ℕ → Entry → Type 0
NoStepOf t (begin u op n c) = Unit {0}
NoStepOf t (step u) = u ≡ t → ⊥

module _ (s : Store) (I : Inv s) (t : ℕ) (D : HasDoneW8 t s) where
  past : past_w8 (s.thread t) ≡ true
  past = rw (D.op, le-leb 9 (s.thread t).line D.line)

  -- t's own step, unless it finishes

  walks : Walks (s.thread t) (verdict s t)
  walks =
      let r = s.thread t in
      let last = leb-true r.line 16 (up past_w8 (λ r. leb r.line 16) refl r (I.stands t) past) in
      subst (λ (op : ℕ). Walking s t op r.line) (sym D.op)
      (from_at (Walking s t WRITE) 8 9 (walking s t) r.line D.line (omega arith)) r.n r.c r.p r.q r.h

  own_told : (v : Verdict) → Walks (s.thread t) v → eqb (reply (λ s'. s') s (told s t v)).number FINISHED ≡ false →
      HasDoneW8 t (reply (λ s'. s') s (told s t v)).after
  own_told Blocked w x = D
  own_told Fault w x = D
  own_told (Go r' e) w x =
      let line = D.line in
      rw (same t, w.0)
      (record {
        op = D.op;
        line = omega arith;
        holds = λ y. rw (w.1 (omega arith)) (D.holds (omega arith));
      })
  own_told (Done v e) w x = clash refl x

  own_keeps : eqb (call_store s (step t)).number FINISHED ≡ false → HasDoneW8 t (call_store s (step t)).after
  own_keeps =
      by_step (λ o. eqb (reply (λ s'. s') s o).number FINISHED ≡ false → HasDoneW8 t (reply (λ s'. s') s o).after) s t
      (λ _ _ _. D) (λ _ _. own_told (verdict s t) walks)

  -- others: who writes the content of t's block would hold the lock of t's number, which its header names

  moved_keeps : (u : ℕ) → (u ≡ t → ⊥) → (r' : Thread) (e : Effect) → Moves s u (s.thread u) r' e → HasDoneW8 t (apply s u r' e)
  moved_keeps u apart r' e M =
      let r = s.thread t in
      let F = I.facts t in
      let known = up past_w8 (λ r. (p-headed r || n_on_p r) && holds_n r) refl r (I.stands t) past in
      let headed : s.header r.p ≡ naming r.n =
      or_way (p-headed r) (n_on_p r) (and_left (p-headed r || n_on_p r) _ known) (λ x. fact (p-headed r) _ x F.headed-p)
      (λ x. I.agrees.headed r.n r.p (fact (n_on_p r) _ x F.on_p)) in
      let mine : held (kind r) t (s.locks r.n) ≡ true =
      (I.holds t).locks (kind r) r.n ∙ n_locked r (and_right (p-headed r || n_on_p r) _ known) in
      let kept = put-kept e.content s.content (λ m w. GuardsContent s u m) M.guards.content r.p
      (λ w g. apart (writer-alone (kind r) u t (s.locks r.n) (g.heads r.n headed) mine)) in
      rw (ne_eqb u t apart) (record { op = D.op; line = D.line; holds = λ x. kept ∙ D.holds x })

  others_keep : {e : Entry} → CallCases s e → NoStepOf t e → HasDoneW8 t (call_store s e).after
  others_keep (stays number _ _ is) a = rw is D
  others_keep (opens u op n c _ rests m is) a =
      rw is (moved_keeps u (λ e. clash (rw (e, D.op) at rests) refl) (begun op n c) nothing m)
  others_keep (goes u r' e _ _ g is) a = rw is (moved_keeps u a r' e g.moves)
  others_keep (ends u value e _ _ g is) a = rw is (moved_keeps u a idle e g.moves)

  call-keeps : (e : Entry) → (e ≡ step t → (call_store s e).number ≡ FINISHED → ⊥) → HasDoneW8 t (call_store s e).after
  call-keeps (begin u op n c) unfinished = others_keep (call_cases s I (begin u op n c)) tt
  call-keeps (step u) unfinished =
      either_way (eqb u t)
      (λ y.
      let e = eqb-true u t y in
      rw e (own_keeps (ne_eqb (call_store s (step t)).number FINISHED (λ f. unfinished (ap step e) (rw e f)))))
      (λ y. others_keep (call_cases s I (step u)) (eqb-false u t y))

-- ---- a schedule, from W8 on

run-keeps : (s : Store) → Inv s → (t : ℕ) → HasDoneW8 t s → (w : List Entry) → finished_by call_store (λ s. s) s t w ≡ [] →
    HasDoneW8 t (run call_store s w)
run-keeps s I t D [] x = D
run-keeps s I t D (e ∷ w) x =
    let s' = (call_store s e).after in
    let z = finishing-none s t e (finished_by call_store (λ s. s) s' t w) x in
    run-keeps s' (inv-call s I e) t (call-keeps s I t D e z.0) w z.1

module _ (s : Store) (I : Inv s) (t : ℕ) (op : (s.thread t).op ≡ WRITE) (line : (s.thread t).line ≡ 8) where
  told-emptied : (b : Bool) → Fine s t (s.thread t) (need b (next (s.thread t) (on_content (s.thread t).p empty))) →
      HasDoneW8 t (reply (λ s'. s') s (told s t (need b (next (s.thread t) (on_content (s.thread t).p empty))))).after
  told-emptied true f =
      rw (same t)
      (record { op = op; line = omega arith; holds = λ _. upd_same s.content (s.thread t).p empty })
  told-emptied false f = absurd f

  emptied : HasDoneW8 t (call_store s (step t)).after
  emptied =
      let r = s.thread t in
      let busy = up_busy s I (λ r. eqb r.op WRITE) refl t (rw op) in
      let is : verdict s t ≡ perform EmptyContent s t r = λ i. perform (act_at (op i) (line i)) s t r in
      rw (lt-ltb t s.threads busy.0, busy.1, is)
      (told-emptied (touches s t r.p) (subst (λ (v : Verdict). Fine s t r v) is (fine s I t busy.1)))

  pub first_write_empty : (w : List Entry) → EmptyTillW14 call_store (λ s. s) (call_store s (step t)).after w t
  first_write_empty w x = (run-keeps (call_store s (step t)).after (inv-call s I (step t)) t emptied w x).holds
