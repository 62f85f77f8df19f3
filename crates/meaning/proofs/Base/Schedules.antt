-- What a call comes to on any store: it is refused, or goes (`by_begin`, `by_step`). And a schedule in two parts leaves, answers and places in
-- the order what the first part does and then, from the store that the first part left, the second; over any kind of store.
-- Assumes nothing.
use mathlib.Core.Path.{◌≡◌, refl, sym, ap, ◌∙◌, subst}
use mathlib.Core.Bool.{Bool, true, false, ◌&&◌, ◌||◌}
use mathlib.Core.List.{List, [], ◌∷◌, ◌++◌, append_assoc}
use Prim.Native.Nat.{ℕ, zero, suc, ◌+◌, ◌<◌}
use native.Mathlib.Omega.{arith}
use lib.Dec.{eqb, ltb, leb}
use borrow.Author.Tests.{ltb-true, eqb-true, eq-eqb}
use Rattle.meaning.specs.declared.Verdict.{Verdict}
use Rattle.meaning.specs.declared.Verdict.TheVariants.{Blocked, Fault, Go, Done}
use Rattle.meaning.specs.Numbers.{WENT, FINISHED, THREAD, BUSY, IDLE, LOGICAL, OPERATION}
use Rattle.meaning.specs.Limits.{within}
use Rattle.meaning.specs.Store.{Store}
use Rattle.meaning.specs.Programs.{WRITE, LEVEL}
use Rattle.meaning.specs.Step.{nothing, verdict, apply}
use Rattle.meaning.specs.Call.{Outcome, refused, left, Reply, Entry, begin, step, beginning, stepping, call_store, reply, told, is_idle, begun}
use Rattle.meaning.specs.Schedule.{Operation, Answered, emit, takes_last, run, placing, starting, finishing, order, finished_by, steps, longest, whole, serial}
use Rattle.meaning.proofs.Base.Words.{either_way, clash}

-- ---- a call

-- a reply by its number and value and what is left
abbrev pub reply_of : {S : Type 0} → ℕ → ℕ → S → Reply S
reply_of number value s = record { number = number; value = value; after = s }

-- What is so of a refusal, and of the begin where it goes, is so of what a begin comes to.
pub by_begin : (A : Outcome → Type 0) (s : Store) (t op n c : ℕ) →
    ((number : ℕ) → leb number FINISHED ≡ false → A (refused number)) →
    (t < s.threads → is_idle (s.thread t) ≡ true → within WRITE LEVEL op ≡ true → (eqb op LEVEL || ltb n s.numbers) ≡ true →
    A (left WENT 0 (apply s t (begun op n c) nothing))) → A (beginning s t op n c)
by_begin A s t op n c kept gone =
    either_way (ltb t s.threads)
    (λ b. rw b (either_way (is_idle (s.thread t))
    (λ x. rw x (either_way (within WRITE LEVEL op)
    (λ y. rw y (either_way (eqb op LEVEL || ltb n s.numbers) (λ z. rw z (gone (ltb-true t s.threads b) x y z))
    (λ z. rw z (kept LOGICAL refl))))
    (λ y. rw y (kept OPERATION refl))))
    (λ x. rw x (kept BUSY refl))))
    (λ b. rw b (kept THREAD refl))

-- Likewise of a step, whose verdict is told.
pub by_step : (A : Outcome → Type 0) (s : Store) (t : ℕ) → ((number : ℕ) → leb number FINISHED ≡ false → A (refused number)) →
    (t < s.threads → is_idle (s.thread t) ≡ false → A (told s t (verdict s t))) → A (stepping s t)
by_step A s t kept gone =
    either_way (ltb t s.threads)
    (λ b. rw b (either_way (is_idle (s.thread t)) (λ x. rw x (kept IDLE refl)) (λ x. rw x (gone (ltb-true t s.threads b) x))))
    (λ b. rw b (kept THREAD refl))

-- a number past FINISHED is neither WENT nor FINISHED
pub refused-not : (number : ℕ) → leb number FINISHED ≡ false → (k : ℕ) → leb k FINISHED ≡ true → eqb number k ≡ false
refused-not number x k small =
    either_way (eqb number k) (λ y. clash small (subst (λ (m : ℕ). leb m FINISHED ≡ false) (eqb-true number k y) x)) (λ y. y)

-- ---- schedules in two parts

pub emit-append : {A : Type 0} (b : Bool) (x : A) (l m : List A) → emit b x l ++ m ≡ emit b x (l ++ m)
emit-append true x l m = refl
emit-append false x l m = refl

pub steps-append : (k t : ℕ) (w : List Entry) → steps k t w ≡ steps k t [] ++ w
steps-append zero t w = refl
steps-append (suc k) t w = ap (λ (v : List Entry). step t ∷ v) (steps-append k t w)

-- so many steps are as many and the others
pub steps-split : (i j k t : ℕ) → i ≡ j + k → (w : List Entry) → steps i t w ≡ steps j t [] ++ steps k t w
steps-split i zero k t e w = let x : i ≡ k = omega arith in ap (λ (i : ℕ). steps i t w) x
steps-split zero (suc j) k t e w = absurd (omega arith)
steps-split (suc i) (suc j) k t e w = ap (λ (v : List Entry). step t ∷ v) (steps-split i j k t (omega arith) w)

pub whole_append : (o : Operation) (w : List Entry) → whole o w ≡ whole o [] ++ w
whole_append o w =
    ap (λ (v : List Entry). begin o.thread o.op o.number o.word ∷ v) (steps-append longest o.thread w)

module _ {S : Type 0} (call : S → Entry → Reply S) where
  pub run-append : (s : S) (v w : List Entry) → run call s (v ++ w) ≡ run call (run call s v) w
  run-append s [] w = refl
  run-append s (e ∷ v) w = run-append (call s e).after v w

module _ {S : Type 0} (call : S → Entry → Reply S) (seen : S → Store) where
  pub placing-append : (s : S) (e : Entry) (l m : List Operation) → placing call seen s e l ++ m ≡ placing call seen s e (l ++ m)
  placing-append s (begin u op n c) l m = refl
  placing-append s (step u) l m =
      emit-append (eqb (call s (step u)).number WENT && takes_last (seen s) ((seen s).thread u))
      _ l m

  pub starting-append : (s : S) (t : ℕ) (e : Entry) (l m : List Operation) →
      starting call seen s t e l ++ m ≡ starting call seen s t e (l ++ m)
  starting-append s t (begin u op n c) l m =
      emit-append (eqb (call s (begin u op n c)).number WENT && eqb u t) _ l m
  starting-append s t (step u) l m = refl

  pub finishing-append : (s : S) (t : ℕ) (e : Entry) (l m : List Answered) →
      finishing call seen s t e l ++ m ≡ finishing call seen s t e (l ++ m)
  finishing-append s t (begin u op n c) l m = refl
  finishing-append s t (step u) l m =
      emit-append (eqb (call s (step u)).number FINISHED && eqb u t)
      _ l m

  pub order-append : (s : S) (v w : List Entry) → order call seen s (v ++ w) ≡ order call seen s v ++ order call seen (run call s v) w
  order-append s [] w = refl
  order-append s (e ∷ v) w =
      ap (λ (l : List Operation). placing call seen s e l) (order-append (call s e).after v w)
      ∙ sym (placing-append s e (order call seen (call s e).after v) _)

  pub finished_by-append : (s : S) (t : ℕ) (v w : List Entry) →
      finished_by call seen s t (v ++ w) ≡ finished_by call seen s t v ++ finished_by call seen (run call s v) t w
  finished_by-append s t [] w = refl
  finished_by-append s t (e ∷ v) w =
      ap (λ (l : List Answered). finishing call seen s t e l) (finished_by-append (call s e).after t v w)
      ∙ sym (finishing-append s t e (finished_by call seen (call s e).after t v) _)

pub serial-append : (p q : List Operation) → serial (p ++ q) ≡ serial p ++ serial q
serial-append [] q = refl
serial-append (o ∷ p) q =
    whole_append o (serial (p ++ q)) ∙ ap (λ (w : List Entry). whole o [] ++ w) (serial-append p q)
    ∙ sym (append_assoc (whole o []) (serial p) (serial q))
    ∙ ap (λ (w : List Entry). w ++ serial q) (sym (whole_append o (serial p)))

-- ---- a step that is refused or waits leaves the store as it was

module _ (s : Store) where
  told-stays : (t : ℕ) (v : Verdict) → leb (reply (λ s'. s') s (told s t v)).number FINISHED ≡ false →
      (reply (λ s'. s') s (told s t v)).after ≡ s
  told-stays t Blocked x = refl
  told-stays t Fault x = refl
  told-stays t (Go r e) x = clash refl x
  told-stays t (Done v e) x = clash refl x

  pub step_stays : (P : Store → Type 0) (t : ℕ) → leb (call_store s (step t)).number FINISHED ≡ false → P s →
      P (call_store s (step t)).after
  step_stays P t x p =
      by_step (λ o. leb (reply (λ s'. s') s o).number FINISHED ≡ false → P (reply (λ s'. s') s o).after) s t (λ _ _ _. p)
      (λ _ _ y. subst P (sym (told-stays t (verdict s t) y)) p) x

  -- a number that is neither WENT nor FINISHED
  pub refused-number : (t k : ℕ) → leb k FINISHED ≡ true → leb (call_store s (step t)).number FINISHED ≡ false →
      eqb (call_store s (step t)).number k ≡ false
  refused-number t k small x = refused-not (call_store s (step t)).number x k small

-- ---- a call that finishes nothing of a thread's

pub not-begin : (t u op n c : ℕ) → begin u op n c ≡ step t → ⊥
not-begin t u op n c x = let z : ◌≡◌ {A = ℕ} 0 1 = cc in omega arith

pub not_step : (t u : ℕ) → (u ≡ t → ⊥) → step u ≡ step t → ⊥
not_step t u apart x = apart (cc)

emit-none : {A : Type 0} (b : Bool) (x : A) (l : List A) → emit b x l ≡ [] → (b ≡ false) × (l ≡ [])
emit-none true x l is = absurd (let z : ◌≡◌ {A = ℕ} 0 1 = cc in omega arith)
emit-none false x l is = (refl, is)

-- where t has finished nothing, the call was no step that finished t's operation, and nothing is finished after it
pub finishing-none : (s : Store) (t : ℕ) (e : Entry) (l : List Answered) → finishing call_store (λ s. s) s t e l ≡ [] →
    (e ≡ step t → (call_store s e).number ≡ FINISHED → ⊥) × (l ≡ [])
finishing-none s t (begin u op n c) l is = (λ x. absurd (not-begin t u op n c x), is)
finishing-none s t (step u) l is =
    let z = emit-none (eqb (call_store s (step u)).number FINISHED && eqb u t) _ l is in (
      λ x w.
          let own : u ≡ t = cc in
          let both : (eqb (call_store s (step u)).number FINISHED && eqb u t) ≡ true = rw (w, eq-eqb u t own) in
          clash both z.0,
      z.1,
    )
