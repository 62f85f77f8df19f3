-- Over stores: headers and map agree exactly where no thread stands between W7 and W10, between U6 and U7 or between L10 and L13, so where
-- nobody owns the headers; and whoever changes a wear holds H before and after.
-- Assumes nothing.
use Rattle.std.specs.Prelude.{Option, Some, None}
use mathlib.Core.Path.{◌≡◌, refl, sym, ◌∙◌, subst}
use mathlib.Core.Bool.{true, false, ◌&&◌, ◌||◌}
use mathlib.Core.Logic.{◌↔◌, inl, inr}
use Prim.Native.Nat.{ℕ}
use lib.Dec.{eqb}
use borrow.Author.Tests.{eqb-true, eqb-false}
use Rattle.meaning.specs.declared.Thread.{Thread}
use Rattle.meaning.specs.declared.Effect.{Effect}
use Rattle.meaning.specs.Store.{Store, idle}
use Rattle.meaning.specs.Holding.{free, naming}
use Rattle.meaning.specs.Step.{put, apply}
use Rattle.meaning.specs.Call.{Entry, step, call_store}
use Rattle.meaning.specs.Guarding.{between, HeadersAgree, WearUnderH}
use Rattle.meaning.proofs.Base.Words.{either_way, clash, and_left, and_right, or_way, naming_once, naming_not_none, upd_other}
use Rattle.meaning.proofs.Invariant.{holds_h, n-unmapped, n_on_p, n_on_q, p-headed, q-headed, p_apart_q, p-astray, q-astray, leads_astray, Puts, GuardsWear, Back, Astray, Inv}
use Rattle.meaning.proofs.Invariant.Keeping.{up, Moves}
use Rattle.meaning.proofs.Invariant.Sharing.{fact, settled-free}
use Rattle.meaning.proofs.Progress.Called.{CallCases, stays, opens, goes, ends, call_cases}

-- ---- headers and map

module _ (s : Store) (I : Inv s) where
  pub headers_agree : free s.owner ≡ true → HeadersAgree s
  headers_agree f m k = (settled-free s I f m k, I.agrees.headed k m)

  -- who stands between those lines has a header that names a number which is mapped elsewhere or nowhere
  between_disagrees : (v : ℕ) → between (s.thread v) ≡ true → HeadersAgree s → ⊥
  between_disagrees v x A =
      let r = s.thread v in
      let F = I.facts v in
      or_way (p-headed r && n-unmapped r) _
      (up between (λ r. p-headed r && n-unmapped r || p_apart_q r && (q-headed r && n_on_p r || p-headed r && n_on_q r)) refl r
      (I.stands v) x)
      (λ y. naming_not_none r.p (s.map r.n)
      ((A r.p r.n).0 (fact (p-headed r) _ (and_left (p-headed r) _ y) F.headed-p))
      (fact (n-unmapped r) _ (and_right (p-headed r) _ y) F.unmapped))
      (λ y.
      let apart = fact (p_apart_q r) _ (and_left (p_apart_q r) _ y) F.apart in
      or_way (q-headed r && n_on_p r) _ (and_right (p_apart_q r) _ y)
      (λ z. apart (naming_once r.p r.q
      (sym (fact (n_on_p r) _ (and_right (q-headed r) _ z) F.on_p) ∙
      (A r.q r.n).0 (fact (q-headed r) _ (and_left (q-headed r) _ z) F.headed-q))))
      (λ z. apart (naming_once r.p r.q
      (sym ((A r.p r.n).0 (fact (p-headed r) _ (and_left (p-headed r) _ z) F.headed-p)) ∙
      fact (n_on_q r) _ (and_right (p-headed r) _ z) F.on_q))))

  -- and only those threads lead a block astray
  astray-between : (v m : ℕ) → leads_astray (s.thread v) m ≡ true → between (s.thread v) ≡ true
  astray-between v m x =
      let r = s.thread v in
      or_way (q-astray r && eqb r.q m) (p-astray r && eqb r.p m) x
      (λ y. up q-astray between refl r (I.stands v) (and_left (q-astray r) _ y))
      (λ y. up p-astray between refl r (I.stands v) (and_left (p-astray r) _ y))

  pub headers_agree_between : HeadersAgree s ↔ ((v : ℕ) → between (s.thread v) ≡ false)
  headers_agree_between = (
    λ A v. either_way (between (s.thread v)) (λ x. absurd (between_disagrees v x A)) (λ x. x),
    λ none m k. (λ x. back none m k (I.mapped m k x), I.agrees.headed k m),
  )
    where
      back : ((v : ℕ) → between (s.thread v) ≡ false) → (m k : ℕ) → Back s.map m k (Astray s m) → s.map k ≡ naming m
      back none m k (inl y) = y
      back none m k (inr a) = clash (astray-between a.who m a.leads) (none a.who)

-- ---- wear

-- an entry that changes is guarded
put-changed : (c : Option (ℕ × ℕ)) (f : ℕ → ℕ) (guard : ℕ → ℕ → Type 0) → Puts c guard → (m : ℕ) → (put c f m ≡ f m → ⊥) →
    (w : ℕ) × guard m w
put-changed None f guard g m x = absurd (x refl)
put-changed (Some (i, w)) f guard g m x =
    either_way (eqb i m) (λ e. (w, subst (λ (j : ℕ). guard j w) (eqb-true i m e) g))
    (λ e. absurd (x (upd_other f i m w (eqb-false i m e))))

module _ (s : Store) (I : Inv s) where
  step_under : (t : ℕ) (r' : Thread) (e : Effect) → Moves s t (s.thread t) r' e → WearUnderH s (apply s t r' e) (step t)
  step_under t r' e M m x =
      record {
        who = t;
        steps = refl;
        before = (put-changed e.wear s.wear (λ m w. GuardsWear s t m) M.guards.wear m x).1.lock;
        after = M.holds.lock ∙ (put-changed e.wear s.wear (λ m w. holds_h r' ≡ true) M.still-h m x).1;
      }

  call_under : {e : Entry} → CallCases s e → WearUnderH s (call_store s e).after e
  call_under (stays number _ _ is) = λ m x. absurd (x (rw is))
  call_under (opens t op n c _ _ _ is) = λ m x. absurd (x (rw is))
  call_under (goes t r' e _ _ g is) = rw is (step_under t r' e g.moves)
  call_under (ends t value e _ _ g is) = rw is (step_under t idle e g.moves)

  pub wear_under_h : (e : Entry) → WearUnderH s (call_store s e).after e
  wear_under_h e = call_under (call_cases s I e)
