-- A step that takes its operation's last lock turns what the store comes to into what its operation, run whole and alone from there, leaves;
-- and the operation answers what it answers there.
-- Assumes nothing.
use mathlib.Core.Path.{◌≡◌, ap, ◌∙◌, subst}
use mathlib.Core.Bool.{true, false, ◌&&◌}
use mathlib.Core.List.{List, [], ◌∷◌, ◌++◌}
use Prim.Native.Nat.{ℕ, suc, ◌+◌, ◌-◌}
use native.Mathlib.Omega.{arith}
use lib.Dec.{eqb}
use Rattle.meaning.specs.declared.Thread.{Thread}
use Rattle.meaning.specs.declared.Effect.{Effect}
use Rattle.meaning.specs.Numbers.{WENT}
use Rattle.meaning.specs.Store.{Store}
use Rattle.meaning.specs.Step.{apply}
use Rattle.meaning.specs.Call.{Reply, Entry, begin, step, call_store}
use Rattle.meaning.specs.Schedule.{Operation, operation, Answered, emit, takes_last, placed, run, finished_by, steps, longest, whole}
use Rattle.meaning.proofs.Base.Words.{clash, upd_same}
use Rattle.meaning.proofs.Invariant.{Inv}
use Rattle.meaning.proofs.Invariant.Keeping.{moves-inv}
use Rattle.meaning.proofs.EitherOrder.{Going, left_by, going-moves}
use Rattle.meaning.proofs.OneAtATime.Places.{Went, went, over, Came, going-came}
use Rattle.meaning.proofs.OneAtATime.Settles.{cleared, stepped, answering, SettlesTo, settles-alike, Moved, moved-settles, Ready, ready-going, ready-moves, ready-still}
use Rattle.meaning.proofs.OneAtATime.Alone.{alone, lines_end, next-nobody, step-alone, ends_as, ends_with, going, placed-settles}
use Rattle.meaning.proofs.Base.Schedules.{emit-append, steps-split, run-append, finished_by-append}
use Rattle.meaning.proofs.OneAtATime.Replay.{Replayed, last_replayed}

abbrev pub answers_of : Store → List Entry → ℕ → List Answered
answers_of s w u = finished_by call_store (λ s. s) s u w

-- the operation of a thread's record
abbrev pub work : ℕ → Thread → Operation
work t r = operation t r.op r.n r.c

-- ---- where nobody has a place

module _ (s : Store) (I : Inv s) (t : ℕ) (g : Going s t) (takes : takes_last s (s.thread t) ≡ true) (went : g.number ≡ WENT) where
  R : Replayed s t
  R = last_replayed s I t g.below takes g.busy

  abbrev begins : List Entry
  begins = begin t (s.thread t).op (work t (s.thread t)).number (work t (s.thread t)).word ∷ steps R.before t []

  -- the steps after the one that takes the last lock
  abbrev rest_of : ℕ
  rest_of = longest - (R.before + 1)

  lines : longest ≡ R.before + suc rest_of
  lines =
      let line = R.line in
      let end = lines_end s I t in
      omega arith

  whole_is : whole (work t (s.thread t)) [] ≡ begins ++ step t ∷ steps rest_of t []
  whole_is =
      ap (λ (w : List Entry). begin t (s.thread t).op (work t (s.thread t)).number (work t (s.thread t)).word ∷ w)
      (steps-split longest R.before (suc rest_of) t lines [])

  -- the step that takes the lock, alone
  taken : stepped (alone t s) t ≡ alone t (left_by s t g)
  taken = ap (λ (x : Reply Store). x.after) (step-alone s I t g)

  taken-answers : (u : ℕ) (l : List Answered) → answering (alone t s) t u l ≡ l
  taken-answers u l = rw (step-alone s I t g, went)

  leaves : (w : List Entry) → w ≡ begins ++ step t ∷ steps rest_of t [] →
      run call_store (cleared s) w ≡ ends_as rest_of t (alone t (left_by s t g))
  leaves w is =
      ap (λ (w : List Entry). run call_store (cleared s) w) is
      ∙ run-append call_store (cleared s) begins (step t ∷ steps rest_of t [])
      ∙ ap (λ (x : Store). ends_as rest_of t (stepped x t)) R.plays.leaves
      ∙ ap (λ (x : Store). ends_as rest_of t x) taken

  answers : (w : List Entry) → w ≡ begins ++ step t ∷ steps rest_of t [] → (u : ℕ) →
      answers_of (cleared s) w u ≡ ends_with rest_of t (alone t (left_by s t g)) u
  answers w is u =
      ap (λ (w : List Entry). answers_of (cleared s) w u) is
      ∙ finished_by-append call_store (λ s. s) (cleared s) u begins (step t ∷ steps rest_of t [])
      ∙ ap (λ (l : List Answered). l ++ answers_of (run call_store (cleared s) begins) (step t ∷ steps rest_of t []) u)
      (R.plays.silent u)
      ∙ ap (λ (x : Store). answers_of x (step t ∷ steps rest_of t []) u) R.plays.leaves
      ∙ taken-answers u (ends_with rest_of t (stepped (alone t s) t) u)
      ∙ ap (λ (x : Store). ends_with rest_of t x u) taken

  settled : Went s t g.becomes g.effect → ((v : ℕ) → placed s (s.thread v) ≡ false) →
      SettlesTo (left_by s t g) (ends_as rest_of t (alone t (left_by s t g))) (ends_with rest_of t (alone t (left_by s t g)))
  settled w nobody =
      placed-settles rest_of (left_by s t g)
      (moves-inv s I t g.becomes g.effect (going-moves s t I g) g.below) t
      (next-nobody s I t g (λ v _. nobody v))
      (going (rw (upd_same s.thread t g.becomes) (w.place ∙ rw (nobody t, takes)))
      (rw (upd_same s.thread t g.becomes) (let up = w.up in let line = R.line in let x = lines in omega arith)))

-- ---- wherever they are

module _ (t : ℕ) (r : Thread) (n x : ℕ) (r' : Thread) (e : Effect) (d : Store) where
  abbrev Takes : Store → Type 0
  Takes = Ready t r n x r' e false true

  -- what the whole operation leaves and answers, alone from d
  abbrev after_whole : Thread → Store
  after_whole q = run call_store d (whole (work t q) [])

  -- the answers l' are l and then that of the whole operation
  abbrev pub Adding : Thread → ℕ → List Answered → List Answered → Type 0
  Adding q u l l' = l ++ answers_of d (whole (work t q) []) u ≡ l'

  takes-alone : (s : Store) (a : ℕ → List Answered) → Inv s → (C : Takes s) → ((v : ℕ) → placed s (s.thread v) ≡ false) →
      d ≡ cleared s → ((u : ℕ) → a u ≡ []) → Came s t n r' e →
      Moved (apply s t r' e) (after_whole (s.thread t)) (Adding (s.thread t)) a
  takes-alone s a I C nobody is none (went w' w) =
      let g = ready-going t r n x r' e false true s C in
      let takes : takes_last s (s.thread t) ≡ true = rw C.is C.takes in
      let to = whole_is s I t g takes w' in
      record {
        answers = λ u. answers_of d (whole (work t (s.thread t)) []) u;
        settles =
            settles-alike (settled s I t g takes w' w nobody)
            (rw is (leaves s I t g takes w' (whole (work t (s.thread t)) []) to))
            (λ u. rw is (answers s I t g takes w' (whole (work t (s.thread t)) []) to u));
        related = λ u. rw (none u);
      }
  takes-alone s a I C nobody is none (over _ _ has) = clash has (nobody t)

  pub last_settles : {s : Store} {a : ℕ → List Answered} → Inv s → Takes s → SettlesTo s d a →
      Moved (apply s t r' e) (after_whole r) (Adding r) a
  last_settles =
      moved-settles t r' e d (after_whole r) Takes (Adding r) (ready-moves t r n x r' e false true) (λ s C. C.below)
      (ready-still t r n x r' e false true)
      (λ s a I C nobody is none.
      subst (λ (q : Thread). Moved (apply s t r' e) (after_whole q) (Adding q) a) C.is
      (takes-alone s a I C nobody is none (going-came s I t (ready-going t r n x r' e false true s C))))
      (λ s a b I C has S is. clash has (rw C.is C.has))
      (λ v u apart b y l l' is. emit-append (b && eqb v u) y l _ ∙ ap (λ (m : List Answered). emit (b && eqb v u) y m) is)
