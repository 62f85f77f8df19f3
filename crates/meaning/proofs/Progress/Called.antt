-- What a call comes to on a store that satisfies the invariant: it is refused and leaves the store, it begins, it goes on, or it ends an
-- operation. Theorems over schedules go by these four cases.
-- Assumes nothing.
use mathlib.Core.Path.{◌≡◌, refl}
use mathlib.Core.Bool.{true, false}
use Prim.Native.Nat.{ℕ, ◌<◌}
use lib.Dec.{eqb}
use Rattle.meaning.specs.declared.Thread.{Thread}
use Rattle.meaning.specs.declared.Effect.{Effect}
use Rattle.meaning.specs.declared.Verdict.{Verdict}
use Rattle.meaning.specs.declared.Verdict.TheVariants.{Blocked, Fault, Go, Done}
use Rattle.meaning.specs.Numbers.{WENT, FINISHED, BLOCKED}
use Rattle.meaning.specs.Store.{Store, idle}
use Rattle.meaning.specs.Step.{nothing, verdict, apply}
use Rattle.meaning.specs.Call.{Entry, begin, step, call_store, reply, told, is_idle, begun}
use Rattle.meaning.proofs.Base.Schedules.{reply_of, by_begin, by_step, refused-not}
use Rattle.meaning.proofs.Invariant.{Inv}
use Rattle.meaning.proofs.Invariant.Keeping.{Moves}
use Rattle.meaning.proofs.Lines.{Fine, GoesOn, Ends}
use Rattle.meaning.proofs.Lines.EveryLine.{fine, begins}

pub data CallCases (s : Store) : Entry → Type 0 where
  stays : {e : Entry} (number : ℕ) → eqb number WENT ≡ false → eqb number FINISHED ≡ false →
      call_store s e ≡ reply_of number 0 s → CallCases s e
  opens : (t op n c : ℕ) → t < s.threads → is_idle (s.thread t) ≡ true → Moves s t (s.thread t) (begun op n c) nothing →
      call_store s (begin t op n c) ≡ reply_of WENT 0 (apply s t (begun op n c) nothing) → CallCases s (begin t op n c)
  goes : (t : ℕ) (r' : Thread) (e : Effect) → t < s.threads → is_idle (s.thread t) ≡ false → GoesOn s t (s.thread t) r' e →
      call_store s (step t) ≡ reply_of WENT 0 (apply s t r' e) → CallCases s (step t)
  ends : (t value : ℕ) (e : Effect) → t < s.threads → is_idle (s.thread t) ≡ false → Ends s t (s.thread t) value e →
      call_store s (step t) ≡ reply_of FINISHED value (apply s t idle e) → CallCases s (step t)

module _ (s : Store) (I : Inv s) where
  steps : (t : ℕ) → t < s.threads → is_idle (s.thread t) ≡ false → (v : Verdict) → Fine s t (s.thread t) v →
      call_store s (step t) ≡ reply (λ s'. s') s (told s t v) → CallCases s (step t)
  steps t b busy Blocked f x = stays BLOCKED refl refl x
  steps t b busy Fault f x = absurd f
  steps t b busy (Go r' e) f x = goes t r' e b busy f x
  steps t b busy (Done value e) f x = ends t value e b busy f x

  pub call_cases : (e : Entry) → CallCases s e
  call_cases (begin t op n c) =
      by_begin (λ o. call_store s (begin t op n c) ≡ reply (λ s'. s') s o → CallCases s (begin t op n c)) s t op n c
      (λ number x q. stays number (refused-not number x WENT refl) (refused-not number x FINISHED refl) q)
      (λ b x y z q. opens t op n c b x (begins s I t x op n c y z) q) refl
  call_cases (step t) =
      by_step (λ o. call_store s (step t) ≡ reply (λ s'. s') s o → CallCases s (step t)) s t
      (λ number x q. stays number (refused-not number x WENT refl) (refused-not number x FINISHED refl) q)
      (λ b x q. steps t b x (verdict s t) (fine s I t x) q) refl
