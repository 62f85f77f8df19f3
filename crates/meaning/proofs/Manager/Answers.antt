-- Demand 2, over stores: the manager, obeying the operations in the order of their last locks, answers what the machine answers, and has
-- mapped and holds what the store says. One call at a time (`serves`): what the manager has of each number is what the store says will
-- become of it, and what is owed is answered later, by the step that finishes.
-- Assumes nothing.
use mathlib.Core.Path.{◌≡◌, refl, sym, ap, ◌∙◌, subst}
use mathlib.Core.Bool.{Bool, true, false, not, cond, ◌&&◌, or-false}
use mathlib.Core.List.{List, [], ◌∷◌, ◌++◌, append_assoc, append-nil}
use Prim.Native.Nat.{ℕ}
use lib.Dec.{eqb}
use lib.ListN.{length, take}
use lib.Seq.{take_at}
use borrow.Author.Tests.{eqb-true, eqb-false, ne_eqb}
use Rattle.meaning.specs.declared.Kind.TheVariants.{Writer}
use Rattle.meaning.specs.declared.Thread.{Thread}
use Rattle.meaning.specs.declared.Effect.{Effect}
use Rattle.meaning.specs.Numbers.{WENT, FINISHED}
use Rattle.meaning.specs.Limits.{in_limits}
use Rattle.meaning.specs.Store.{Store, idle, fresh}
use Rattle.meaning.specs.Holding.{unwritten, held, writer}
use Rattle.meaning.specs.Programs.{WRITE, READ, LEVEL, last_take}
use Rattle.meaning.specs.Step.{nothing, apply}
use Rattle.meaning.specs.Call.{Entry, begin, step, call_store, is_idle, begun}
use Rattle.meaning.specs.Manager.{Manager, initial, ebm_read}
use Rattle.meaning.specs.Schedule.{Operation, operation, Answered, emit, takes_last, past_last, placed, run, placing, finishing, order, finished_by, obey_all, managed, of_manager}
use Rattle.meaning.specs.Demands.{kept, leaves_alone, Owed, none_owed, one_owed}
use Rattle.meaning.proofs.Base.Words.{same, either_way, clash, or_way, two_ways, upd_same}
use Rattle.meaning.proofs.Base.Sets.{writer-found}
use Rattle.meaning.proofs.Invariant.{takes_n, Stands, Inv}
use Rattle.meaning.proofs.Invariant.Keeping.{Moves, up}
use Rattle.meaning.proofs.Invariant.Sharing.{fact, few}
use Rattle.meaning.proofs.Lines.{GoesOn}
use Rattle.meaning.proofs.Lines.EveryLine.{idle_is}
use Rattle.meaning.proofs.Progress.{inv-fresh, inv-call, inv-run}
use Rattle.meaning.proofs.Manager.View.{status, asked, leaves, future, owes, answered, due, owing}
use Rattle.meaning.proofs.Progress.Called.{CallCases, stays, opens, goes, ends, call_cases}
use Rattle.meaning.proofs.Base.Schedules.{reply_of, placing-append, finishing-append}
use Rattle.meaning.proofs.Manager.Laws.{operation-asked, level_obeys, obey_all-append, managed-passes}
use Rattle.meaning.proofs.Manager.Step.{future-unwritten, future-step, takes-status, owing-others}

-- the manager has of each number what the store says will become of it
abbrev pub Matches : Store → Manager → Type 0
Matches s m = (k : ℕ) → asked k m ≡ future s k

-- ---- where an operation of the manager's takes its last lock

pub takes-last : (s : Store) (r : Thread) → Stands r → is_idle r ≡ false → eqb r.op LEVEL ≡ false → takes_last s r ≡ takes_n r
takes-last s r st busy other =
    rw (other, or-false (eqb r.line (last_take r.op)))
    (two_ways (eqb r.line (last_take r.op)) (takes_n r)
    (λ x. up (λ r. not (is_idle r) && not (eqb r.op LEVEL) && eqb r.line (last_take r.op)) takes_n refl r st (rw (busy, other, x)))
    (λ x. up takes_n (λ r. eqb r.line (last_take r.op)) refl r st x))

-- ---- what one call does

-- the call that e makes of s takes manager m to another one, and what it owed and answers to what that owes and answers
pub record Serves (s : Store) (m : Manager) (e : Entry) : Type 0 where
  pub matches : Matches (call_store s e).after (obey_all m (placing call_store (λ s. s) s e []))
  pub answers : (u : ℕ) (l : List Operation) →
      owing s u ++ managed m u (placing call_store (λ s. s) s e l) ≡
      of_manager (finishing call_store (λ s. s) s u e []) ++
      (owing (call_store s e).after u ++ managed (obey_all m (placing call_store (λ s. s) s e [])) u l)

module _ (s : Store) (I : Inv s) (m : Manager) (M : Matches s m) where
  refused : (e : Entry) (number : ℕ) → eqb number WENT ≡ false → eqb number FINISHED ≡ false → call_store s e ≡ reply_of number 0 s →
      Serves s m e
  refused (begin t op n c) number went finished x = record { matches = rw x M; answers = λ u l. rw x }
  refused (step t) number went finished x = record { matches = rw (x, went) M; answers = λ u l. rw (x, went, finished) }

  -- where t takes no number's lock, no number changes
  quiet : (t : ℕ) (r' : Thread) (e : Effect) → Moves s t (s.thread t) r' e → takes_n (s.thread t) ≡ false →
      Matches (apply s t r' e) m
  quiet t r' e g x k = M k ∙ sym (future-step s I t r' e g k ∙ rw x)

  -- what is owed to thread u, where it is known of t
  owing_each : (t : ℕ) (r' : Thread) (e : Effect) → Moves s t (s.thread t) r' e → (P : ℕ → List Answered → List Answered → Type 0) →
      P t (owing s t) (due (apply s t r' e) r') → ((u : ℕ) → (t ≡ u → ⊥) → P u (owing s u) (owing s u)) →
      (u : ℕ) → P u (owing s u) (owing (apply s t r' e) u)
  owing_each t r' e g P mine others u =
      either_way (eqb t u)
      (λ x. subst (λ (u : ℕ). P u (owing s u) (owing (apply s t r' e) u)) (eqb-true t u x) (rw (upd_same s.thread t r') mine))
      (λ x. rw (owing-others s I t r' e g u (eqb-false t u x)) (others u (eqb-false t u x)))

  started : (t op n c : ℕ) → is_idle (s.thread t) ≡ true → Moves s t (s.thread t) (begun op n c) nothing →
      (u : ℕ) → owing s u ≡ owing (apply s t (begun op n c) nothing) u
  started t op n c rests b =
      owing_each t (begun op n c) nothing b (λ u x y. x ≡ y)
      (rw (idle_is (s.thread t) (I.stands t) rests, first) refl) (λ u _. refl)
    where
      first : owes (begun op n c) ≡ false
      first =
          either_way (owes (begun op n c))
          (λ x. clash (up owes (λ r. not (eqb r.line 1)) refl (begun op n c) b.stands x) refl) (λ x. x)

  -- t's operation, and where its step takes the last lock
  abbrev mine : ℕ → Operation
  mine t = operation t (s.thread t).op (s.thread t).n (s.thread t).c

  abbrev last : ℕ → Bool
  last t = takes_last s (s.thread t)

  -- what the manager has of a number once it is placed
  placed-asked : (t : ℕ) → is_idle (s.thread t) ≡ false → (k : ℕ) → asked k (obey_all m (emit (last t) (mine t) [])) ≡
      cond (takes_n (s.thread t) && eqb (s.thread t).n k) (leaves (s.thread t).op (s.thread t).c (asked k m)) (asked k m)
  placed-asked t busy k =
      let r = s.thread t in
      either_way (eqb r.op LEVEL)
      (λ x. rw (level_obeys m (last t) (mine t) x, x) (either_way (takes_n r && eqb r.n k) (λ y. rw y) (λ y. rw y)))
      (λ x. rw (takes-last s r (I.stands t) busy x) (either_way (takes_n r)
      (λ y. rw y (operation-asked t r.op r.n r.c x m k)) (λ y. rw y)))

  -- what it adds to what is owed is what the manager answers
  placed-answers : (t : ℕ) → is_idle (s.thread t) ≡ false → (r' : Thread) (e : Effect) → GoesOn s t (s.thread t) r' e →
      (l : List Operation) → due s (s.thread t) ++ managed m t (emit (last t) (mine t) l) ≡
      due (apply s t r' e) r' ++ managed (obey_all m (emit (last t) (mine t) [])) t l
  placed-answers t busy r' e g l =
      let r = s.thread t in
      rw g.owed (either_way (eqb r.op LEVEL)
      (λ x. rw (managed-passes m t (mine t) (last t) l (rw (same t, x)), x))
      (λ x. rw (takes-last s r (I.stands t) busy x) (either_way (takes_n r)
      (λ y.
      let nothing-due : owes r ≡ false =
      either_way (owes r) (λ z. clash (up takes_n (λ r. not (owes r)) refl r (I.stands t) y) (rw z)) (λ z. z) in
      let content : ebm_read r.n m ≡ kept s r.n = ap (λ x. x.content) (M r.n ∙ takes-status s I t r' e g.moves y) in
      rw (y, x, same t, nothing-due, content)) (λ y. rw (y, x)))))

  -- a thread that ends takes no lock
  ends-takes : (t : ℕ) (e : Effect) → Moves s t (s.thread t) idle e → takes_n (s.thread t) ≡ false
  ends-takes t e g = either_way (takes_n (s.thread t)) (λ y. clash (fact (takes_n (s.thread t)) _ y g.taken) refl) (λ y. y)

  pub serves : {e : Entry} → CallCases s e → Serves s m e
  serves (stays {e} number went finished x) = refused e number went finished x
  serves (opens t op n c below rests b x) =
      record {
        matches = rw x (quiet t (begun op n c) nothing b (rw (idle_is (s.thread t) (I.stands t) rests)));
        answers = λ u l. rw (x, started t op n c rests b u);
      }
  serves (goes t r' e below busy g x) =
      record {
        matches = rw x (λ k. placed-asked t busy k ∙ rw (M k) (sym (future-step s I t r' e g.moves k)));
        answers =
            λ u l. rw x (owing_each t r' e g.moves
            (λ u x y. x ++ managed m u (emit (last t) (mine t) l) ≡ y ++ managed (obey_all m (emit (last t) (mine t) [])) u l)
            (placed-answers t busy r' e g l)
            (λ u apart. rw (managed-passes m u (mine t) (last t) l (rw (ne_eqb t u apart)))) u);
      }
  serves (ends t value e below busy g x) =
      let given : Answered = record { op = (s.thread t).op; value = value } in
      record {
        matches = rw x (quiet t idle e g.moves (ends-takes t e g.moves));
        answers =
            λ u l. rw x (owing_each t idle e g.moves
            (λ u x y. x ++ managed m u l ≡ of_manager (emit (eqb t u) given []) ++ (y ++ managed m u l))
            (rw (same t, g.owed)) (λ u apart. rw (ne_eqb t u apart)) u);
      }

-- ---- over schedules

pub of_manager-append : (l l' : List Answered) → of_manager (l ++ l') ≡ of_manager l ++ of_manager l'
of_manager-append [] l' = refl
of_manager-append (x ∷ l) l' =
    either_way (eqb x.op LEVEL) (λ y. rw y (of_manager-append l l')) (λ y. rw (y, of_manager-append l l'))

pub answers-run : (s : Store) → Inv s → (m : Manager) → Matches s m → (u : ℕ) (w : List Entry) →
    owing s u ++ managed m u (order call_store (λ s. s) s w) ≡
    of_manager (finished_by call_store (λ s. s) s u w) ++ owing (run call_store s w) u
answers-run s I m M u [] = append-nil (owing s u)
answers-run s I m M u (e ∷ w) =
    let S = serves s I m M (call_cases s I e) in
    let s' = (call_store s e).after in
    let now = finishing call_store (λ s. s) s u e [] in
    let later = finished_by call_store (λ s. s) s' u w in
    S.answers u (order call_store (λ s. s) s' w) ∙
    ap (λ l. of_manager now ++ l)
    (answers-run s' (inv-call s I e) (obey_all m (placing call_store (λ s. s) s e [])) S.matches u w) ∙
    sym (append_assoc (of_manager now) (of_manager later) (owing (run call_store s' w) u)) ∙
    ap (λ l. l ++ owing (run call_store s' w) u) (sym (of_manager-append now later) ∙ ap of_manager (finishing-append call_store (λ s. s) s u e [] later))

pub matches-run : (s : Store) → Inv s → (m : Manager) → Matches s m → (w : List Entry) →
    Matches (run call_store s w) (obey_all m (order call_store (λ s. s) s w))
matches-run s I m M [] = M
matches-run s I m M (e ∷ w) =
    let S = serves s I m M (call_cases s I e) in
    rw (sym (placing-append call_store (λ s. s) s e [] (order call_store (λ s. s) (call_store s e).after w)), obey_all-append)
    (matches-run (call_store s e).after (inv-call s I e) _ S.matches w)

-- ---- demand 2

future-alone : (s : Store) → Inv s → (k : ℕ) →
    ((v : ℕ) → held Writer v (s.locks k) ≡ true → leaves_alone (s.thread v) ≡ true) → future s k ≡ status s k
future-alone s I k alone =
    either_way (unwritten (s.locks k)) (λ u. future-unwritten s k u)
    (λ u.
    let r = s.thread (writer (s.locks k)) in
    let levels = alone (writer (s.locks k)) (writer-found s.threads (few s I) (s.locks k) (I.locks k) u) in
    rw u (either_way (eqb r.op LEVEL) (λ x. rw x)
    (λ x.
    let reads : eqb r.op READ ≡ true = rw x at levels in
    let writes : eqb r.op WRITE ≡ false = rw (eqb-true r.op READ reads) in
    rw (x, writes, reads))))

-- the answer that is owed to a thread with its place is owed by the manager, but for a levelling's answer
pub owing-owed : (s : Store) → Inv s → (u : ℕ) → (l : List Answered) × Owed s u l × (owing s u ≡ of_manager l)
owing-owed s I u =
    let r = s.thread u in
    let late : owes r ≡ true → placed s r ≡ true = λ x. rw (up owes past_last refl r (I.stands u) x) in
    either_way (owes r)
    (λ x. (
      answered r (kept s r.n) ∷ [],
      one_owed (late x) _ refl,
      rw (x, up owes (λ r. not (eqb r.op LEVEL)) refl r (I.stands u) x),
    ))
    (λ x. either_way (placed s r)
    (λ y. (
      record { op = r.op; value = 0 } ∷ [],
      one_owed y 0 refl,
      rw (x, two_ways (eqb r.op LEVEL) true (λ _. refl) (λ _. level x y)),
    ))
    (λ y. ([], none_owed y refl, rw x)))
  where
    level : owes (s.thread u) ≡ false → placed s (s.thread u) ≡ true → eqb (s.thread u).op LEVEL ≡ true
    level x y =
        either_way (eqb (s.thread u).op LEVEL) (λ z. z)
        (λ z. clash (up (λ r. not (eqb r.op LEVEL) && past_last r) owes refl (s.thread u) (I.stands u)
        (rw z (or_way (past_last (s.thread u)) _ y (λ p. p) (λ p. clash p (rw z))))) x)

module _ (t n p d : ℕ) (limits : in_limits t n p d ≡ true) (w : List Entry) where
  pub manager-owing : (u : ℕ) →
      managed initial u (order call_store (λ s. s) (fresh t n p d) w) ≡
      of_manager (finished_by call_store (λ s. s) (fresh t n p d) u w) ++ owing (run call_store (fresh t n p d) w) u
  manager-owing u = answers-run (fresh t n p d) (inv-fresh t n p d limits) initial (λ k. refl) u w

  -- so its finished answers are the first so many of the manager's, all but one at most
  pub finished_first : (u : ℕ) →
      of_manager (finished_by call_store (λ s. s) (fresh t n p d) u w) ≡
      take (length (of_manager (finished_by call_store (λ s. s) (fresh t n p d) u w)))
      (managed initial u (order call_store (λ s. s) (fresh t n p d) w))
  finished_first u = rw (manager-owing u) (sym (take_at _ _ _ refl))

  pub manager_will : (k : ℕ) →
      asked k (obey_all initial (order call_store (λ s. s) (fresh t n p d) w)) ≡ future (run call_store (fresh t n p d) w) k
  manager_will = matches-run (fresh t n p d) (inv-fresh t n p d limits) initial (λ k. refl) w

  -- whether k is mapped, and what its block holds, is what the manager has of it: where k's lock is written by nobody, or in a levelling
  pub manager-status : (k : ℕ) →
      ((v : ℕ) → held Writer v ((run call_store (fresh t n p d) w).locks k) ≡ true →
      leaves_alone ((run call_store (fresh t n p d) w).thread v) ≡ true) →
      status (run call_store (fresh t n p d) w) k ≡ asked k (obey_all initial (order call_store (λ s. s) (fresh t n p d) w))
  manager-status k alone =
      sym (manager_will k ∙
      future-alone (run call_store (fresh t n p d) w) (inv-run (fresh t n p d) (inv-fresh t n p d limits) w) k alone)

  -- so at rest, where all threads are idle, of every number
  pub manager_status_rest : ((v : ℕ) → is_idle ((run call_store (fresh t n p d) w).thread v) ≡ true) → (k : ℕ) →
      status (run call_store (fresh t n p d) w) k ≡ asked k (obey_all initial (order call_store (λ s. s) (fresh t n p d) w))
  manager_status_rest rest k =
      let I = inv-run (fresh t n p d) (inv-fresh t n p d limits) w in
      manager-status k (λ v h. clash h ((I.holds v).locks Writer k ∙ rw (idle_is _ (I.stands v) (rest v))))
