-- Demand 1, over stores. Each store that a schedule leaves, starting from a format in limits, satisfies the invariant; no step of such
-- a store faults; and where some thread has open work, some open thread can step.
--  * Called: what a call comes to, four cases. To be read first.
--  * Guarded: what the invariant says of headers, map and wear: 01, "Where a reasonable person goes wrong".
--  * FirstWrite: from W8 to W14 the block of a first write holds empty.
-- Assumes nothing.
pub mod Called
pub mod Guarded
pub mod FirstWrite
use mathlib.Core.Path.{◌≡◌, refl, sym, ◌∙◌, subst}
use mathlib.Core.Bool.{Bool, true, false, ◌&&◌}
use mathlib.Core.List.{List, [], ◌∷◌}
use mathlib.Core.Logic.{◌⊎◌, inl, inr}
use Prim.Native.Nat.{ℕ, ◌<◌, ◌≤◌}
use native.Mathlib.Omega.{arith}
use lib.Dec.{ltb, leb}
use borrow.Author.Tests.{ltb-true, ltb-false, lt-ltb}
use Rattle.meaning.specs.declared.Thread.{Thread}
use Rattle.meaning.specs.declared.Verdict.{Verdict}
use Rattle.meaning.specs.declared.Verdict.TheVariants.{Blocked, Fault, Go, Done}
use Rattle.meaning.specs.Numbers.{FINISHED}
use Rattle.meaning.specs.Limits.{in_limits}
use Rattle.meaning.specs.Store.{Store, idle, fresh}
use Rattle.meaning.specs.Holding.{none, free, held_by}
use Rattle.meaning.specs.Step.{nothing, verdict}
use Rattle.meaning.specs.Call.{Entry, step, call_store, reply, told, is_idle, begun}
use Rattle.meaning.specs.Schedule.{run, Grown, formatted, called}
use Rattle.meaning.proofs.Base.Words.{either_way, clash, and_left, none-held, somebody_holds, held_below, naming_not_none}
use Rattle.meaning.proofs.Base.Sets.{same_kind, nobody-held, none-proper, unlet_not_free, holder_found}
use Rattle.meaning.proofs.Invariant.{kind, holds_h, holds_n, owns_headers, Inv}
use Rattle.meaning.proofs.Invariant.Keeping.{limits_say, moves-inv}
use Rattle.meaning.proofs.Invariant.Sharing.{few}
use Rattle.meaning.proofs.Lines.{Waits, for_h, for_n, Fine, facts-idle}
use Rattle.meaning.proofs.Lines.EveryLine.{idle_is, fine}
use Rattle.meaning.proofs.Progress.Called.{CallCases, stays, opens, goes, ends, call_cases}

-- ---- every store grown from fresh satisfies the invariant

pub inv-fresh : (t n p d : ℕ) → in_limits t n p d ≡ true → Inv (fresh t n p d)
inv-fresh t n p d l =
    let sizes = limits_say t n p d l in
    record {
      limits = l;
      stands = λ v. inl refl;
      past = λ v _. refl;
      holds = λ v. search (none-held, nobody-held);
      locks = λ k. none-proper t;
      own = λ m. none-proper t;
      facts = λ v. facts-idle (fresh t n p d) sizes.2 sizes.1;
      agrees =
          record {
            headed = λ k m e. naming_not_none m none e refl;
            map_below = λ k. omega arith;
            header-below = λ m. omega arith;
          };
      mapped = λ m k e. naming_not_none k none e refl;
    }

-- refused calls leave the store as it was
inv-called : (s : Store) → Inv s → {e : Entry} → CallCases s e → Inv (call_store s e).after
inv-called s I (stays number _ _ x) = rw x I
inv-called s I (opens t op n c below rests m x) = rw x (moves-inv s I t (begun op n c) nothing m below)
inv-called s I (goes t r' e below busy g x) = rw x (moves-inv s I t r' e g.moves below)
inv-called s I (ends t value e below busy g x) = rw x (moves-inv s I t idle e g.moves below)

pub inv-call : (s : Store) → Inv s → (e : Entry) → Inv (call_store s e).after
inv-call s I e = inv-called s I (call_cases s I e)

pub inv-run : (s : Store) → Inv s → (w : List Entry) → Inv (run call_store s w)
inv-run s I [] = I
inv-run s I (e ∷ w) = inv-run (call_store s e).after (inv-call s I e) w

pub inv-grown : (Fresh : Store → Type 0) → ((s : Store) → Fresh s → Inv s) → {s : Store} → Grown call_store Fresh s → Inv s
inv-grown Fresh starts (formatted {s} f) = starts s f
inv-grown Fresh starts (called {s} g e _) = inv-call s (inv-grown Fresh starts g) e

-- ---- no step faults

pub no_fault : (s : Store) → Inv s → (t : ℕ) → t < s.threads → is_idle (s.thread t) ≡ false → verdict s t ≡ Fault → ⊥
no_fault s I t below busy e = subst (λ (v : Verdict). Fine s t (s.thread t) v) e (fine s I t busy)

-- ---- somebody can step

-- the call that steps u answers WENT or FINISHED
abbrev pub CanStep : Store → ℕ → Type 0
CanStep s u = leb (call_store s (step u)).number FINISHED ≡ true

abbrev pub SomeSteps : Store → Type 0
SomeSteps s = (u : ℕ) × (u < s.threads) × (is_idle (s.thread u) ≡ false) × CanStep s u

module _ (s : Store) (I : Inv s) where
  told-steps : (t : ℕ) (v : Verdict) → Fine s t (s.thread t) v →
      (leb (reply (λ s'. s') s (told s t v)).number FINISHED ≡ true) ⊎ Waits s t (s.thread t)
  told-steps t Blocked f = inr f
  told-steps t Fault f = absurd f
  told-steps t (Go r' e) f = inl refl
  told-steps t (Done answer e) f = inl refl

  -- an open thread can step, or it waits
  steps_or_waits : (t : ℕ) → t < s.threads → is_idle (s.thread t) ≡ false → CanStep s t ⊎ Waits s t (s.thread t)
  steps_or_waits t below busy = rw (lt-ltb t s.threads below, busy) (told-steps t (verdict s t) (fine s I t busy))

  -- so somebody can step, if that is so where it waits
  unless-waits : (t : ℕ) → (t < s.threads) × (is_idle (s.thread t) ≡ false) → (Waits s t (s.thread t) → SomeSteps s) →
      SomeSteps s
  unless-waits t busy waits = go (steps_or_waits t busy.0 busy.1)
    where
      go : CanStep s t ⊎ Waits s t (s.thread t) → SomeSteps s
      go (inl c) = (t, busy.0, busy.1, c)
      go (inr w) = waits w

  -- whoever has a flag up is below T and open
  pub up_busy : (flag : Thread → Bool) → flag idle ≡ false → (v : ℕ) → flag (s.thread v) ≡ true →
      (v < s.threads) × (is_idle (s.thread v) ≡ false)
  up_busy flag down v x = (
    either_way (ltb v s.threads) (λ b. ltb-true v s.threads b) (λ b. rests (I.past v (ltb-false v s.threads b))),
    either_way (is_idle (s.thread v)) (λ y. rests (idle_is (s.thread v) (I.stands v) y)) (λ y. y),
  )
    where
      rests : {A : Type 0} → s.thread v ≡ idle → A
      rests e = clash (rw e at x) down

  -- who holds a number's lock waits for nothing
  n_holder_steps : (k : ℕ) → free (s.locks k) ≡ false → SomeSteps s
  n_holder_steps k f =
      let holder = holder_found s.threads (few s I) (s.locks k) (I.locks k) f in
      let κ = holder.0 in
      let r = s.thread holder.1 in
      go holder.1
      (and_left (holds_n r) _ (and_left (holds_n r && same_kind κ (kind r)) _ (sym ((I.holds holder.1).locks κ k) ∙ holder.2)))
    where
      waits : (v : ℕ) → holds_n (s.thread v) ≡ true → Waits s v (s.thread v) → SomeSteps s
      waits v x (for_h _ y _) = clash x y
      waits v x (for_n y _) = clash x y

      go : (v : ℕ) → holds_n (s.thread v) ≡ true → SomeSteps s
      go v x = unless-waits v (up_busy holds_n refl v x) (waits v x)

  -- who holds H waits for nothing, or for a number's lock
  h_holder_steps : free s.lock ≡ false → SomeSteps s
  h_holder_steps f = let holder = somebody_holds s.lock f in go holder.0 (sym (I.holds holder.0).lock ∙ holder.1)
    where
      waits : (v : ℕ) → holds_h (s.thread v) ≡ true → Waits s v (s.thread v) → SomeSteps s
      waits v x (for_h y _ _) = clash x y
      waits v x (for_n _ y) = n_holder_steps (s.thread v).n (unlet_not_free (kind (s.thread v)) v (s.locks (s.thread v).n) y)

      go : (v : ℕ) → holds_h (s.thread v) ≡ true → SomeSteps s
      go v x = unless-waits v (up_busy holds_h refl v x) (waits v x)

  pub progress : (t : ℕ) → t < s.threads → is_idle (s.thread t) ≡ false →
      (u : ℕ) × (u < s.threads) × (is_idle (s.thread u) ≡ false) × CanStep s u
  progress t below busy = unless-waits t (below, busy) waits
    where
      waits : Waits s t (s.thread t) → SomeSteps s
      waits (for_h _ _ f) = h_holder_steps f
      waits (for_n _ f) = n_holder_steps (s.thread t).n (unlet_not_free (kind (s.thread t)) t (s.locks (s.thread t).n) f)

  -- ---- H and the headers' owner are in range: only threads below T hold and own

  flag_below : (w : ℕ) (flag : Thread → Bool) → flag idle ≡ false → ((v : ℕ) → held_by v w ≡ flag (s.thread v)) → w ≤ s.threads
  flag_below w flag down is = held_below w s.threads (λ v x. (up_busy flag down v (sym (is v) ∙ x)).0)

  pub lock-below : s.lock ≤ s.threads
  lock-below = flag_below s.lock holds_h refl (λ v. (I.holds v).lock)

  pub owner-below : s.owner ≤ s.threads
  owner-below = flag_below s.owner owns_headers refl (λ v. (I.holds v).owner)
