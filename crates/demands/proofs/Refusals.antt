-- The tables of refusals hold of every area and argument (`refusal_tables`), one law for a check of a chain; and what is so of every
-- refusal and of every effect is so of every call (`calling_each`). Assumes nothing.
use mathlib.Core.Path.{◌≡◌, refl, sym, ◌∙◌}
use mathlib.Core.Bool.{Bool, true, false, not, ◌||◌}
use mathlib.Core.List.{List, [], ◌∷◌}
use mathlib.Core.Logic.{◌↔◌}
use Prim.Native.Nat.{ℕ, ◌<◌, ◌≤◌}
use native.Mathlib.Omega.{arith}
use lib.Dec.{eqb, ltb}
use lib.ListN.{length}
use borrow.Author.Tests.{not-true, not-false, eqb-false}
use Rattle.meaning.specs.declared.Thread.{Thread}
use Rattle.meaning.specs.declared.Effect.{Effect}
use Rattle.meaning.specs.declared.Verdict.{Verdict}
use Rattle.meaning.specs.declared.Verdict.TheVariants.{Blocked, Fault, Go, Done}
use Rattle.meaning.specs.Numbers.{WENT, FINISHED, BLOCKED, SHAPE, THREAD, BUSY, IDLE, LOGICAL, OPERATION, FAULT, LIMITS}
use Rattle.meaning.specs.Limits.{within, in_limits}
use Rattle.meaning.specs.Store.{Store, idle, fresh}
use Rattle.meaning.specs.Programs.{WRITE, LEVEL, act_at, last_line}
use Rattle.meaning.specs.Step.{nothing, verdict, apply}
use Rattle.meaning.specs.Call.{Reply, Outcome, refused, left, reply, check, is_idle, begun, told, Entry, begin, step, calling}
use Rattle.meaning.specs.Schedule.{next_act}
use Rattle.meaning.proofs.Base.Words.{either_way, clash, alike, alike_is}
use Rattle.meaning.proofs.Acts.{shape, Lands, lands}
use Rattle.meaning.proofs.Invariant.Keeping.{everywhere}
use Rattle.store.specs.Layout.{size}
use Rattle.store.specs.Calls.{call_area}
use Rattle.store.specs.Area.{encode, decode, well_formed}
use Rattle.store.proofs.Sound.{formed-stands}
use Rattle.demands.specs.RefusalTables.{rests, Past, lacking, barred, on_last, FormatRefusals, BeginRefusals, StepRefusals, Refusals}

-- ---- the tables of refusals

module _ (a : List ℕ) where
  -- the number that an outcome of a call on the area gives
  abbrev pub given : Outcome → ℕ
  given o = (reply encode a o).number

  -- a check's own number
  given_own : (b : Bool) (number : ℕ) (o : Outcome) → (given o ≡ number → ⊥) → (given (check b number o) ≡ number) ↔ (b ≡ false)
  given_own true number o apart = (λ e. absurd (apart e), λ e. clash refl e)
  given_own false number o apart = (λ e. refl, λ e. refl)

  -- a number of those after it, where the check holds
  given_under : (b : Bool) (number other : ℕ) (o : Outcome) {C : Type 0} → eqb number other ≡ false →
      (b ≡ true → (given o ≡ other) ↔ C) → (given (check b number o) ≡ other) ↔ ((b ≡ true) × C)
  given_under true number other o apart f = (λ e. (refl, (f refl).0 e), λ c. (f refl).1 c.1)
  given_under false number other o apart f = (λ e. absurd (eqb-false number other apart e), λ c. clash c.0 refl)

  given-later : (b : Bool) (number other : ℕ) (o : Outcome) {C : Type 0} → eqb number other ≡ false → (given o ≡ other) ↔ C →
      (given (check b number o) ≡ other) ↔ ((b ≡ true) × C)
  given-later b number other o apart f = given_under b number other o apart (λ _. f)

  -- a number of neither
  given-never : (b : Bool) (number other : ℕ) (o : Outcome) → eqb number other ≡ false → (given o ≡ other → ⊥) →
      given (check b number o) ≡ other → ⊥
  given-never true number other o apart never = never
  given-never false number other o apart never = eqb-false number other apart

  -- the number of what is left where the last check holds
  given_last : (b : Bool) (number other : ℕ) (o : Outcome) → eqb number other ≡ false → given o ≡ other →
      (given (check b number o) ≡ other) ↔ (b ≡ true)
  given_last true number other o apart is = (λ e. refl, λ e. is)
  given_last false number other o apart is = (λ e. absurd (eqb-false number other apart e), λ e. clash e refl)

  format-refusals : (t n p d : ℕ) → FormatRefusals a t n p d
  format-refusals t n p d =
      let done = left WENT 0 (fresh t n p d) in
      let fits = eqb (length a) (size t n p) in
      let limits = in_limits t n p d in
      let fitted = check fits SHAPE done in
      record {
        limits = given_own limits LIMITS fitted (given-never fits SHAPE LIMITS done refl (λ e. omega arith));
        shape = given-later limits LIMITS SHAPE fitted refl (given_own fits SHAPE done (λ e. omega arith));
        went = given-later limits LIMITS WENT fitted refl (given_last fits SHAPE WENT done refl refl);
      }

  begin-refusals : (t op n c : ℕ) → BeginRefusals a t op n c
  begin-refusals t op n c =
      let s = decode a in
      let o₅ = left WENT 0 (apply s t (begun op n c) nothing) in
      let logical = eqb op LEVEL || ltb n s.numbers in
      let o₄ = check logical LOGICAL o₅ in
      let operation = within WRITE LEVEL op in
      let o₃ = check operation OPERATION o₄ in
      let busy = is_idle (s.thread t) in
      let o₂ = check busy BUSY o₃ in
      let thread = ltb t s.threads in
      let o₁ = check thread THREAD o₂ in
      let shape = well_formed a in
      record {
        shape =
            given_own shape SHAPE o₁
            (given-never thread THREAD SHAPE o₂ refl
            (given-never busy BUSY SHAPE o₃ refl
            (given-never operation OPERATION SHAPE o₄ refl
            (given-never logical LOGICAL SHAPE o₅ refl (λ e. omega arith)))));
        thread =
            given-later shape SHAPE THREAD o₁ refl
            (given_own thread THREAD o₂
            (given-never busy BUSY THREAD o₃ refl
            (given-never operation OPERATION THREAD o₄ refl
            (given-never logical LOGICAL THREAD o₅ refl (λ e. omega arith)))));
        busy =
            given-later shape SHAPE BUSY o₁ refl
            (given-later thread THREAD BUSY o₂ refl
            (given_own busy BUSY o₃
            (given-never operation OPERATION BUSY o₄ refl
            (given-never logical LOGICAL BUSY o₅ refl (λ e. omega arith)))));
        operation =
            given-later shape SHAPE OPERATION o₁ refl
            (given-later thread THREAD OPERATION o₂ refl
            (given-later busy BUSY OPERATION o₃ refl
            (given_own operation OPERATION o₄
            (given-never logical LOGICAL OPERATION o₅ refl (λ e. omega arith)))));
        logical =
            given-later shape SHAPE LOGICAL o₁ refl
            (given-later thread THREAD LOGICAL o₂ refl
            (given-later busy BUSY LOGICAL o₃ refl
            (given-later operation OPERATION LOGICAL o₄ refl
            (given_own logical LOGICAL o₅ (λ e. omega arith)))));
        went =
            given-later shape SHAPE WENT o₁ refl
            (given-later thread THREAD WENT o₂ refl
            (given-later busy BUSY WENT o₃ refl
            (given-later operation OPERATION WENT o₄ refl
            (given_last logical LOGICAL WENT o₅ refl refl))));
      }

  -- a line's own numbers: those that end are the operations' last

  abbrev ends_at_last : ℕ → ℕ → Bool
  ends_at_last op line = eqb op 0 || alike (shape (act_at op line)).ends? (eqb line (last_line op))

  line-never : (t : ℕ) (v : Verdict) (number : ℕ) → BLOCKED < number → number < FAULT → given (told (decode a) t v) ≡ number → ⊥
  line-never t Blocked number low high e = omega arith
  line-never t Fault number low high e = omega arith
  line-never t (Go r f) number low high e = omega arith
  line-never t (Done answer f) number low high e = omega arith

  -- the number of a verdict
  abbrev saying : ℕ → Verdict → ℕ
  saying t v = given (told (decode a) t v)

  module _ (t : ℕ) where
    abbrev r : Thread
    r = (decode a).thread t

    abbrev Landing : Verdict → Type 0
    Landing = Lands (next_act r) (decode a) t r

    says_blocked : (v : Verdict) → Landing v → (saying t v ≡ BLOCKED) ↔ (barred a t ≡ true)
    says_blocked Blocked l = (λ e. l.1, λ e. refl)
    says_blocked Fault l = (λ e. absurd (omega arith), λ e. clash e l.1)
    says_blocked (Go r' f) l = (λ e. absurd (omega arith), λ e. clash e l.ready.unblocked)
    says_blocked (Done value f) l = (λ e. absurd (omega arith), λ e. clash e l.ready.unblocked)

    says_fault : (v : Verdict) → Landing v → (saying t v ≡ FAULT) ↔ (lacking a t ≡ true)
    says_fault Blocked l = (λ e. absurd (omega arith), λ e. clash e l.0)
    says_fault Fault l = (λ e. l.0, λ e. refl)
    says_fault (Go r' f) l = (λ e. absurd (omega arith), λ e. clash e l.ready.met)
    says_fault (Done value f) l = (λ e. absurd (omega arith), λ e. clash e l.ready.met)

    -- the act ends its operation exactly at the last line
    says_went : (v : Verdict) → Landing v → (shape (next_act r)).ends? ≡ on_last a t →
        (saying t v ≡ WENT) ↔ Past (not (barred a t) ∷ not (lacking a t) ∷ []) (on_last a t ≡ false)
    says_went Blocked l at = (λ e. absurd (omega arith), λ c. clash l.1 (not-true _ c.0))
    says_went Fault l at = (λ e. absurd (omega arith), λ c. clash l.0 (not-true _ c.1.0))
    says_went (Go r' f) l at = (λ e. (rw l.ready.unblocked, (rw l.ready.met, sym at ∙ l.goes)), λ c. refl)
    says_went (Done value f) l at = (λ e. absurd (omega arith), λ c. clash (sym at ∙ l.ends) c.1.1)

    says_finished : (v : Verdict) → Landing v → (shape (next_act r)).ends? ≡ on_last a t →
        (saying t v ≡ FINISHED) ↔ Past (not (barred a t) ∷ not (lacking a t) ∷ []) (on_last a t ≡ true)
    says_finished Blocked l at = (λ e. absurd (omega arith), λ c. clash l.1 (not-true _ c.0))
    says_finished Fault l at = (λ e. absurd (omega arith), λ c. clash l.0 (not-true _ c.1.0))
    says_finished (Go r' f) l at = (λ e. absurd (omega arith), λ c. clash c.1.1 (sym at ∙ l.goes))
    says_finished (Done value f) l at = (λ e. (rw l.ready.unblocked, (rw l.ready.met, sym at ∙ l.ends)), λ c. refl)

    landing : Landing (verdict (decode a) t)
    landing = lands (next_act r) (decode a) t r

    ends_last : well_formed a ≡ true → not (rests a t) ≡ true → (shape (next_act r)).ends? ≡ on_last a t
    ends_last f o =
        let busy : is_idle r ≡ false = not-true _ o in
        alike_is _ _ (rw busy at (everywhere ends_at_last refl r (formed-stands a f t)))

  step-refusals : (t : ℕ) → StepRefusals a t
  step-refusals t =
      let s = decode a in
      let v = verdict s t in
      let o₃ = told s t v in
      let idle = not (is_idle (s.thread t)) in
      let o₂ = check idle IDLE o₃ in
      let thread = ltb t s.threads in
      let o₁ = check thread THREAD o₂ in
      let shape = well_formed a in
      let own = given_own idle IDLE o₃ (line-never t v IDLE (omega arith) (omega arith)) in
      record {
        shape =
            given_own shape SHAPE o₁
            (given-never thread THREAD SHAPE o₂ refl
            (given-never idle IDLE SHAPE o₃ refl (line-never t v SHAPE (omega arith) (omega arith))));
        thread =
            given-later shape SHAPE THREAD o₁ refl
            (given_own thread THREAD o₂
            (given-never idle IDLE THREAD o₃ refl (line-never t v THREAD (omega arith) (omega arith))));
        idle =
            given-later shape SHAPE IDLE o₁ refl
            (given-later thread THREAD IDLE o₂ refl
            (λ e. not-false (is_idle (s.thread t)) (own.0 e), λ e. own.1 (rw e)));
        blocked =
            given-later shape SHAPE BLOCKED o₁ refl
            (given-later thread THREAD BLOCKED o₂ refl (given-later idle IDLE BLOCKED o₃ refl (says_blocked t v (landing t))));
        fault =
            given-later shape SHAPE FAULT o₁ refl
            (given-later thread THREAD FAULT o₂ refl (given-later idle IDLE FAULT o₃ refl (says_fault t v (landing t))));
        went =
            given_under shape SHAPE WENT o₁ refl (λ f.
            given_under thread THREAD WENT o₂ refl (λ _.
            given_under idle IDLE WENT o₃ refl (λ o. says_went t v (landing t) (ends_last t f o))));
        finished =
            given_under shape SHAPE FINISHED o₁ refl (λ f.
            given_under thread THREAD FINISHED o₂ refl (λ _.
            given_under idle IDLE FINISHED o₃ refl (λ o. says_finished t v (landing t) (ends_last t f o))));
      }

  pub refusal_tables : Refusals a
  refusal_tables = record { format = format-refusals; begin = begin-refusals; step = step-refusals }

-- ---- what a call leaves

-- the number and the value of a call that goes: it finishes an operation, or its value is 0
pub record Fair (number value : ℕ) : Type 0 where
  pub low : number ≤ FINISHED
  pub unfinished : (number ≡ FINISHED → ⊥) → value ≡ 0

-- what is so of every refusal, and of every effect on the store with its number and value, is so of every call
module _ (s : Store) (A : Outcome → Type 0) (no-effect : (number : ℕ) → A (refused number))
    (effect : (number value : ℕ) → Fair number value → (t : ℕ) (r : Thread) (f : Effect) → A (left number value (apply s t r f))) where
  check_each : (b : Bool) (number : ℕ) (o : Outcome) → A o → A (check b number o)
  check_each true number o x = x
  check_each false number o x = no-effect number

  told_each : (t : ℕ) (v : Verdict) → A (told s t v)
  told_each t Blocked = no-effect BLOCKED
  told_each t Fault = no-effect FAULT
  told_each t (Go r f) = effect WENT 0 (record { low = omega arith; unfinished = λ _. refl }) t r f
  told_each t (Done answer f) = effect FINISHED answer (record { low = omega arith; unfinished = λ e. absurd (e refl) }) t idle f

  pub calling_each : (e : Entry) → A (calling s e)
  calling_each (begin t op n c) =
      check_each (ltb t s.threads) THREAD _
      (check_each (is_idle (s.thread t)) BUSY _
      (check_each (within WRITE LEVEL op) OPERATION _
      (check_each (eqb op LEVEL || ltb n s.numbers) LOGICAL _
      (effect WENT 0 (record { low = omega arith; unfinished = λ _. refl }) t (begun op n c) nothing))))
  calling_each (step t) =
      check_each (ltb t s.threads) THREAD _
      (check_each (not (is_idle (s.thread t))) IDLE _ (told_each t (verdict s t)))

-- ---- what a refusal leaves

-- a reply on an area that leaves it, or goes with 0 unless it finishes
pub record Modest (a : List ℕ) (x : Reply (List ℕ)) : Type 0 where
  pub kept : BLOCKED ≤ x.number → x.after ≡ a
  pub unfinished : (x.number ≡ FINISHED → ⊥) → x.value ≡ 0

pub call_refusing : (a : List ℕ) (e : Entry) → Modest a (call_area a e)
call_refusing a e =
    either_way (well_formed a)
    (λ b. rw b
    (calling_each (decode a) (λ o. Modest a (reply encode a o)) (λ number. record { kept = λ _. refl; unfinished = λ _. refl })
    (λ number value fair t r f. record { kept = λ l. let z = fair.low in absurd (omega arith); unfinished = fair.unfinished }) e))
    (λ b. rw b (record { kept = λ _. refl; unfinished = λ _. refl }))
