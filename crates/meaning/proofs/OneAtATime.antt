-- One at a time, over stores: when every thread is idle after a schedule from fresh, the store is the one that the operations of its order
-- of last locks leave, run whole one after the other; and each thread's operations have answered the same (`one_at_a_time`). Before that,
-- finished or not: what a thread has finished with are the first of its answers in that run, and the rest is at most one, that of its
-- open operation that has its place (`answers_so_far`). To be read in this order:
--  * Places: which open operations have their place in the order.
--  * Settles: what a store comes to when those go on to their end; a thread that moves first doesn't change it.
--  * Alone, Replay: a thread alone in a store, and the lines before its last lock run again.
--  * LastLock: a step that takes a last lock turns what the store comes to into what the whole operation leaves.
--  * LastIsLast: that step takes a lock, and the operation takes none after it; no other step gives it its place.
--  * EachOnce: each begun operation stands in the order at most once, and each finished one exactly once.
--  * Whole: in the run of one after the other each operation is begun, goes and finishes; nothing waits there.
--  * Samples: two schedules, computed.
-- Assumes nothing.
pub mod Places
pub mod Settles
pub mod Alone
pub mod Replay
pub mod LastLock
pub mod LastIsLast
pub mod EachOnce
pub mod Whole
pub mod Samples
use mathlib.Core.Path.{◌≡◌, refl, sym, ap, ◌∙◌, subst}
use mathlib.Core.Bool.{Bool, true, false, ◌&&◌, and-false}
use mathlib.Core.List.{List, [], ◌∷◌, ◌++◌, append-nil, append_assoc}
use Prim.Native.Nat.{ℕ, ◌≤◌}
use native.Mathlib.Omega.{arith}
use lib.ListN.{length}
use lib.Dec.{eqb, leb}
use borrow.Author.Tests.{eqb-true, eqb-false, ne_eqb}
use Rattle.meaning.specs.declared.Kind.{Kind}
use Rattle.meaning.specs.declared.Thread.{Thread}
use Rattle.meaning.specs.Numbers.{WENT, FINISHED}
use Rattle.meaning.specs.Limits.{in_limits}
use Rattle.meaning.specs.Store.{Store, idle, fresh}
use Rattle.meaning.specs.Holding.{none, held_by, held, proper}
use Rattle.meaning.specs.Step.{nothing, apply}
use Rattle.meaning.specs.Call.{Reply, Entry, begin, step, call_store, told, is_idle, begun, reply}
use Rattle.meaning.specs.Schedule.{Operation, Answered, emit, takes_last, placed, run, placing, finishing, order, serial}
use Rattle.meaning.specs.Demands.{Owed, none_owed, one_owed, OneAtATime, AnswersSoFar}
use Rattle.meaning.proofs.Base.Words.{same, either_way, clash, nobody-free, free-none, upd_same, upd_other}
use Rattle.meaning.proofs.Base.Sets.{nobody_in}
use Rattle.meaning.proofs.Invariant.{holds_h, owns_headers, holds_lock, owns_block, Inv}
use Rattle.meaning.proofs.Invariant.Sharing.{few}
use Rattle.meaning.proofs.Lines.EveryLine.{idle_is}
use Rattle.meaning.proofs.Progress.{inv-fresh, inv-call, inv-run}
use Rattle.meaning.proofs.EitherOrder.{Going, left_by, can-going, going-reply, going-moves}
use Rattle.meaning.proofs.OneAtATime.Places.{went, over, Came, going-came, last_unplaced, placed-going, placed-kept}
use Rattle.meaning.proofs.OneAtATime.Settles.{cleared, stepped, stepped_is, answering, SettlesTo, rest, more, settles-alike, Moved, Ready, early-settles, begin-settles, late_settles}
use Rattle.meaning.proofs.OneAtATime.LastLock.{work, answers_of, last_settles}
use Rattle.meaning.proofs.Base.Schedules.{by_begin, step_stays, refused-number, emit-append, placing-append, finishing-append, run-append, finished_by-append, serial-append}

-- ---- at most one answer is owed

pub owed-short : {s : Store} {u : ℕ} {l : List Answered} → Owed s u l → length l ≤ 1
owed-short (none_owed _ e) = rw e (omega arith)
owed-short (one_owed _ v e) = rw e (omega arith)

-- ---- one call

-- d runs the operations p that the call places, and the answers f that it finishes come first
abbrev Keeps : Store → List Operation → (ℕ → List Answered) → ℕ → List Answered → List Answered → Type 0
Keeps d p f u l l' = l ++ answers_of d (serial p) u ≡ f u ++ l'

abbrev After : Store → Store → (ℕ → List Answered) → List Operation → (ℕ → List Answered) → Type 0
After s d a p f = Moved s (run call_store d (serial p)) (Keeps d p f) a

-- nothing placed, nothing finished
kept_after : (s d : Store) (a : ℕ → List Answered) → Moved s d (λ u l l'. l ≡ l') a → After s d a [] (λ u. [])
kept_after s d a M =
    record { answers = M.answers; settles = M.settles; related = λ u. append-nil (a u) ∙ M.related u }

same_after : (s d : Store) (a : ℕ → List Answered) → SettlesTo s d a → After s d a [] (λ u. [])
same_after s d a S = kept_after s d a (record { answers = a; settles = S; related = λ u. refl })

after_alike : (s d : Store) (a : ℕ → List Answered) (p p' : List Operation) (f f' : ℕ → List Answered) → After s d a p f →
    p' ≡ p → ((u : ℕ) → f' u ≡ f u) → After s d a p' f'
after_alike s d a p p' f f' M placed' finished =
    subst (λ (q : List Operation). After s d a q f') (sym placed')
    (record {
      answers = M.answers;
      settles = M.settles;
      related = λ u. M.related u ∙ ap (λ (l : List Answered). l ++ M.answers u) (sym (finished u));
    })

module _ (s : Store) (I : Inv s) (d : Store) (a : ℕ → List Answered) (S : SettlesTo s d a) where
  abbrev placings : Entry → List Operation
  placings e = placing call_store (λ s. s) s e []

  abbrev finishings : Entry → ℕ → List Answered
  finishings e u = finishing call_store (λ s. s) s u e []

  begin_after : (t op n c : ℕ) → After (call_store s (begin t op n c)).after d a [] (λ u. [])
  begin_after t op n c =
      by_begin (λ o. After (reply (λ s'. s') s o).after d a [] (λ u. [])) s t op n c (λ _ _. same_after s d a S)
      (λ b x y z. kept_after (apply s t (begun op n c) nothing) d a
      (begin-settles t op n c y I (record { below = b; rests = x; logical = z }) S))

  module _ (t : ℕ) (g : Going s t) where
    abbrev r : Thread
    r = s.thread t

    abbrev ready : (p l : Bool) → placed s r ≡ p → takes_last s r ≡ l →
        Ready t r g.number g.value g.becomes g.effect p l s
    ready p l x y = record { is = refl; below = g.below; busy = g.busy; told = g.told'; has = x; takes = y }

    -- what it places and finishes
    abbrev places : List Operation
    places = emit (eqb g.number WENT && takes_last s r) (work t r) []

    abbrev finishes : ℕ → List Answered
    finishes u = emit (eqb g.number FINISHED && eqb t u) (record { op = r.op; value = g.value }) []

    late_after : placed s r ≡ true → takes_last s r ≡ false → After (left_by s t g) d a places finishes
    late_after x y =
        let M = late_settles t r g.number g.value g.becomes g.effect false I (ready true false x y) S in
        after_alike (left_by s t g) d a [] places finishes finishes
        (record {
          answers = M.answers;
          settles = M.settles;
          related =
              λ u. append-nil (a u) ∙ M.related u
              ∙ sym (emit-append (eqb g.number FINISHED && eqb t u) (record { op = r.op; value = g.value }) [] (M.answers u));
        })
        (rw (y, and-false (eqb g.number WENT))) (λ u. refl)

    early_after : placed s r ≡ false → takes_last s r ≡ false → g.number ≡ WENT → After (left_by s t g) d a places finishes
    early_after x y w =
        after_alike (left_by s t g) d a [] places (λ u. []) finishes
        (kept_after (left_by s t g) d a
        (early-settles t r g.number g.value g.becomes g.effect I (ready false false x y) S))
        (rw (y, w)) (λ u. rw w)

    last_after : placed s r ≡ false → takes_last s r ≡ true → g.number ≡ WENT → After (left_by s t g) d a places finishes
    last_after x y w =
        let M = last_settles t r g.number g.value g.becomes g.effect d I (ready false true x y) S in
        after_alike (left_by s t g) d a (work t r ∷ []) places (λ u. []) finishes
        (record { answers = M.answers; settles = M.settles; related = M.related }) (rw (y, w)) (λ u. rw w)

    came_after : Came s t g.number g.becomes g.effect → After (left_by s t g) d a places finishes
    came_after (went w _) =
        either_way (takes_last s r) (λ y. last_after (last_unplaced s I t y) y w)
        (λ y. either_way (placed s r) (λ x. late_after x y) (λ x. early_after x y w))
    came_after (over _ _ x) =
        late_after x (either_way (takes_last s r) (λ y. clash x (last_unplaced s I t y)) (λ y. y))

    going_after : After (stepped s t) d a (placings (step t)) (finishings (step t))
    going_after =
        subst (λ (x : Store). After x d a (placings (step t)) (finishings (step t)))
        (sym (stepped_is s t g))
        (after_alike (left_by s t g) d a places (placings (step t)) finishes (finishings (step t))
        (came_after (going-came s I t g)) (rw (going-reply s t g)) (λ u. rw (going-reply s t g)))

  call_after : (e : Entry) → After (call_store s e).after d a (placings e) (finishings e)
  call_after (begin t op n c) = begin_after t op n c
  call_after (step t) =
      either_way (leb (call_store s (step t)).number FINISHED) (λ c. going_after t (can-going s t c))
      (λ x. step_stays s (λ y. After y d a (placings (step t)) (finishings (step t))) t x
      (after_alike s d a [] (placings (step t)) (λ u. []) (finishings (step t)) (same_after s d a S)
      (rw (refused-number s t WENT refl x)) (λ u. rw (refused-number s t FINISHED refl x))))

-- ---- a schedule

after_join : (s s' d : Store) (a : ℕ → List Answered) (p q : List Operation) (f g : ℕ → List Answered) (M : After s d a p f) →
    After s' (run call_store d (serial p)) M.answers q g → After s' d a (p ++ q) (λ u. f u ++ g u)
after_join s s' d a p q f g M N =
    record {
      answers = N.answers;
      settles =
          settles-alike N.settles
          (ap (λ (w : List Entry). run call_store d w) (serial-append p q) ∙ run-append call_store d (serial p) (serial q))
          (λ u. refl);
      related =
          λ u.
          ap (λ (w : List Entry). a u ++ answers_of d w u) (serial-append p q)
          ∙ ap (λ (l : List Answered). a u ++ l) (finished_by-append call_store (λ s. s) d u (serial p) (serial q))
          ∙ sym (append_assoc (a u) (answers_of d (serial p) u) (answers_of (run call_store d (serial p)) (serial q) u))
          ∙ ap (λ (l : List Answered). l ++ answers_of (run call_store d (serial p)) (serial q) u) (M.related u)
          ∙ append_assoc (f u) (M.answers u) (answers_of (run call_store d (serial p)) (serial q) u)
          ∙ ap (λ (l : List Answered). f u ++ l) (N.related u)
          ∙ sym (append_assoc (f u) (g u) (N.answers u));
    }

-- d runs the operations of the order, and what is finished comes before what is owed
so_far : (w : List Entry) (s : Store) → Inv s → (d : Store) (a : ℕ → List Answered) → SettlesTo s d a →
    After (run call_store s w) d a (order call_store (λ s. s) s w) (answers_of s w)
so_far [] s I d a S = same_after s d a S
so_far (e ∷ w) s I d a S =
    let s' = (call_store s e).after in
    let M = call_after s I d a S e in
    let p = placing call_store (λ s. s) s e [] in
    let q = order call_store (λ s. s) s' w in
    let N = so_far w s' (inv-call s I e) (run call_store d (serial p)) M.answers M.settles in
    after_alike (run call_store s' w) d a (p ++ q) (placing call_store (λ s. s) s e q)
    (λ u. finishing call_store (λ s. s) s u e [] ++ answers_of s' w u) (answers_of s (e ∷ w))
    (after_join s' (run call_store s' w) d a p q (λ u. finishing call_store (λ s. s) s u e []) (answers_of s' w) M N)
    (sym (placing-append call_store (λ s. s) s e [] q))
    (λ u. sym (finishing-append call_store (λ s. s) s u e [] (answers_of s' w u)))

-- ---- what is owed

answering_other : (s : Store) (t u : ℕ) → (t ≡ u → ⊥) → (l : List Answered) → answering s t u l ≡ l
answering_other s t u apart l = rw (ne_eqb t u apart, and-false (eqb (call_store s (step t)).number FINISHED))

module _ (s : Store) (I : Inv s) (t : ℕ) (g : Going s t) (has : placed s (s.thread t) ≡ true) (l : List Answered) where
  number_is : (k : ℕ) → g.number ≡ k → (call_store s (step t)).number ≡ k
  number_is k w = ap (λ (x : Reply Store). x.number) (going-reply s t g) ∙ w

  after_is : (left_by s t g).thread t ≡ g.becomes
  after_is = upd_same s.thread t g.becomes

  owed_own : Came s t g.number g.becomes g.effect → Owed (left_by s t g) t l → Owed s t (answering s t t l)
  owed_own (went w W) (none_owed x _) = clash (w-place) x
    where
      w-place : placed (left_by s t g) ((left_by s t g).thread t) ≡ true
      w-place = rw after_is (W.place ∙ rw has)
  owed_own (went w W) (one_owed _ v e) =
      let op : ((left_by s t g).thread t).op ≡ (s.thread t).op = ap (λ (r : Thread). r.op) after_is ∙ W.op in
      one_owed has v (rw (number_is WENT w) (e ∙ ap (λ (k : ℕ). record { op = k; value = v } ∷ []) op))
  owed_own (over w is _) (none_owed _ e) =
      one_owed has (call_store s (step t)).value (rw (number_is FINISHED w, same t, e))
  owed_own (over w is _) (one_owed x _ _) =
      clash x (rw (after_is, is))

  owed_other : (u : ℕ) → (t ≡ u → ⊥) → Owed (left_by s t g) u l → Owed s u (answering s t u l)
  owed_other u apart o = subst (Owed s u) (sym (answering_other s t u apart l)) (go o)
    where
      is : (left_by s t g).thread u ≡ s.thread u
      is = upd_other s.thread t u g.becomes apart

      place : placed (left_by s t g) ((left_by s t g).thread u) ≡ placed s (s.thread u)
      place = rw is (placed-kept s I t g.becomes g.effect (going-moves s t I g) u apart)

      go : Owed (left_by s t g) u l → Owed s u l
      go (none_owed x e) = none_owed (sym place ∙ x) e
      go (one_owed x v e) =
          one_owed (sym place ∙ x) v (e ∙ ap (λ (r : Thread). record { op = r.op; value = v } ∷ []) is)

  owed_before : (u : ℕ) → Owed (stepped s t) u l → Owed s u (answering s t u l)
  owed_before u o =
      let o' : Owed (left_by s t g) u l = subst (λ (x : Store). Owed x u l) (stepped_is s t g) o in
      either_way (eqb t u)
      (λ x. subst (λ (v : ℕ). Owed (left_by s t g) v l → Owed s v (answering s t v l)) (eqb-true t u x)
      (owed_own (going-came s I t g)) o')
      (λ x. owed_other u (eqb-false t u x) o')

settles-owed : {s d : Store} {a : ℕ → List Answered} → Inv s → SettlesTo s d a → (u : ℕ) → Owed s u (a u)
settles-owed {s} I (rest nobody _ none) u = none_owed (nobody u) (none u)
settles-owed {s} I (more {b = b} t has S is) u =
    subst (Owed s u) (sym (is u))
    (owed_before s I t (placed-going s I t has) has (b u) u (settles-owed (inv-call s I (step t)) S u))

-- ---- the theorems

fresh-settles : (t n p d : ℕ) → SettlesTo (fresh t n p d) (fresh t n p d) (λ u. [])
fresh-settles t n p d = rest (λ v. refl) refl (λ u. refl)

-- where everybody is idle, nothing is held and nothing is owed
module _ (s : Store) (I : Inv s) (rests : (u : ℕ) → is_idle (s.thread u) ≡ true) where
  is-idle : (u : ℕ) → s.thread u ≡ idle
  is-idle u = idle_is (s.thread u) (I.stands u) (rests u)

  -- a word whose holders have a flag up
  nobody-has : (w : ℕ) (flag : Thread → Bool) → flag idle ≡ false → ((v : ℕ) → held_by v w ≡ flag (s.thread v)) → none ≡ w
  nobody-has w flag down is = sym (free-none w (nobody-free w (λ v. is v ∙ ap flag (is-idle v) ∙ down)))

  -- and one that they read or write
  nobody_shares : (w : ℕ) (flag : Kind → Thread → Bool) → ((κ : Kind) → flag κ idle ≡ false) →
      ((κ : Kind) (v : ℕ) → held κ v w ≡ flag κ (s.thread v)) → proper s.threads w ≡ true → none ≡ w
  nobody_shares w flag down is fits =
      sym (nobody_in s.threads (few s I) w fits (λ κ v. is κ v ∙ ap (flag κ) (is-idle v) ∙ down κ))

  cleared-idle : cleared s ≡ s
  cleared-idle =
      λ i. record {
        threads = s.threads;
        numbers = s.numbers;
        blocks = s.blocks;
        distance = s.distance;
        lock = nobody-has s.lock holds_h refl (λ v. (I.holds v).lock) i;
        owner = nobody-has s.owner owns_headers refl (λ v. (I.holds v).owner) i;
        thread = λ u. sym (is-idle u) i;
        map = s.map;
        locks = λ k. nobody_shares (s.locks k) (λ κ r. holds_lock κ r k) (λ κ. refl) (λ κ v. (I.holds v).locks κ k) (I.locks k) i;
        header = s.header;
        content = s.content;
        wear = s.wear;
        own = λ m. nobody_shares (s.own m) (λ κ r. owns_block κ r m) (λ κ. refl) (λ κ v. (I.holds v).own κ m) (I.own m) i;
      }

  idle-settles : {d : Store} {a : ℕ → List Answered} → SettlesTo s d a → (s ≡ d) × ((u : ℕ) → a u ≡ [])
  idle-settles (rest _ is owed) = (sym (is ∙ cleared-idle), owed)
  idle-settles (more t has _ _) = clash has (rw (is-idle t))

module _ (t n p d : ℕ) (limits : in_limits t n p d ≡ true) (w : List Entry) where
  from-fresh : After (run call_store (fresh t n p d) w) (fresh t n p d) (λ u. []) (order call_store (λ s. s) (fresh t n p d) w)
      (answers_of (fresh t n p d) w)
  from-fresh = so_far w (fresh t n p d) (inv-fresh t n p d limits) (fresh t n p d) (λ u. []) (fresh-settles t n p d)

  grown : Inv (run call_store (fresh t n p d) w)
  grown = inv-run (fresh t n p d) (inv-fresh t n p d limits) w

  pub answers_so_far : (u : ℕ) → AnswersSoFar call_store (λ s. s) (fresh t n p d) w u
  answers_so_far u =
      record {
        rest_owed = from-fresh.answers u;
        owed = settles-owed grown from-fresh.settles u;
        answers = from-fresh.related u;
      }

  pub one_at_a_time : ((u : ℕ) → is_idle ((run call_store (fresh t n p d) w).thread u) ≡ true) →
      OneAtATime call_store (λ s. s) (fresh t n p d) w
  one_at_a_time rests =
      let ends = idle-settles (run call_store (fresh t n p d) w) grown rests from-fresh.settles in
      record {
        leaves = ends.0;
        answers =
            λ u. sym (from-fresh.related u
            ∙ ap (λ (l : List Answered). answers_of (fresh t n p d) w u ++ l) (ends.1 u)
            ∙ append-nil (answers_of (fresh t n p d) w u));
      }
