-- What a store comes to, `SettlesTo s d a`: all threads of s that have their place go on to their ends, the others let go, and what
-- that leaves is d; a is what each thread's operation answers on the way. It doesn't matter in which order they go on: if a thread
-- moves first, the store that is left settles as before, by one induction over SettlesTo, `moved-settles`, with either order at each step.
-- Assumes nothing.
use mathlib.Core.Path.{◌≡◌, refl, sym, ap, ◌∙◌, subst}
use mathlib.Core.Bool.{Bool, true, false, ◌&&◌, ◌||◌, and-false}
use mathlib.Core.List.{List, []}
use Prim.Native.Nat.{ℕ, ◌<◌}
use lib.Dec.{eqb, ltb}
use borrow.Author.Tests.{eqb-true, eqb-false, ne_eqb}
use Rattle.meaning.specs.declared.Thread.{Thread}
use Rattle.meaning.specs.declared.Effect.{Effect}
use Rattle.meaning.specs.Numbers.{FINISHED}
use Rattle.meaning.specs.Store.{Store, idle}
use Rattle.meaning.specs.Holding.{none}
use Rattle.meaning.specs.Table.{upd}
use Rattle.meaning.specs.Limits.{within}
use Rattle.meaning.specs.Programs.{WRITE, LEVEL}
use Rattle.meaning.specs.Step.{nothing, verdict, apply}
use Rattle.meaning.specs.Call.{Reply, step, call_store, is_idle, begun}
use Rattle.meaning.specs.Schedule.{Answered, emit, takes_last, placed, finishing}
use Rattle.meaning.proofs.Base.Words.{either_way, clash, upd_other, upd_each}
use Rattle.meaning.proofs.Invariant.{takes_h, Inv}
use Rattle.meaning.proofs.Invariant.Keeping.{Moves}
use Rattle.meaning.proofs.Lines.EveryLine.{idle_is, begins}
use Rattle.meaning.proofs.Progress.{inv-call}
use Rattle.meaning.proofs.EitherOrder.{same_take, same_take_sym, Goes, Going, left_by, going-reply, going-moves, still, still-left}
use Rattle.meaning.proofs.Acts.{Quiet}
use Rattle.meaning.proofs.OneAtATime.Places.{went, over, Came, going-came, first_unplaced, placed-takes_h, placed-takes_n, placed-going, placed-kept, last_kept}

-- ---- what is said

-- the store with nobody at work
abbrev pub cleared : Store → Store
cleared s =
    record {
      threads = s.threads;
      numbers = s.numbers;
      blocks = s.blocks;
      distance = s.distance;
      lock = none;
      owner = none;
      thread = λ _. idle;
      map = s.map;
      locks = λ _. none;
      header = s.header;
      content = s.content;
      wear = s.wear;
      own = λ _. none;
    }

abbrev pub stepped : Store → ℕ → Store
stepped s t = (call_store s (step t)).after

-- the answer of t's step put in front, where it is thread u's
abbrev pub answering : Store → ℕ → ℕ → List Answered → List Answered
answering s t u l = finishing call_store (λ s. s) s u (step t) l

pub stepped_is : (s : Store) (t : ℕ) (g : Going s t) → stepped s t ≡ left_by s t g
stepped_is s t g = ap (λ (x : Reply Store). x.after) (going-reply s t g)

pub data SettlesTo : Store → Store → (ℕ → List Answered) → Type 0 where
  rest : {s d : Store} {a : ℕ → List Answered} → ((v : ℕ) → placed s (s.thread v) ≡ false) → d ≡ cleared s →
      ((u : ℕ) → a u ≡ []) → SettlesTo s d a
  more : {s d : Store} {a b : ℕ → List Answered} → (t : ℕ) → placed s (s.thread t) ≡ true → SettlesTo (stepped s t) d b →
      ((u : ℕ) → a u ≡ answering s t u (b u)) → SettlesTo s d a

pub settles-alike : {s d d' : Store} {a a' : ℕ → List Answered} → SettlesTo s d a → d' ≡ d → ((u : ℕ) → a' u ≡ a u) →
    SettlesTo s d' a'
settles-alike {s} {d} {d'} {a} {a'} S to is = subst (λ (x : Store). SettlesTo s x a') (sym to) (go S)
  where
    go : SettlesTo s d a → SettlesTo s d a'
    go (rest nobody to none) = rest nobody to (λ u. is u ∙ none u)
    go (more t has S' are) = more t has S' (λ u. is u ∙ are u)

-- ---- another thread moves first

-- thread t moves on with record r' and an effect; thread u has its place
module _ (s : Store) (I : Inv s) (t : ℕ) (r' : Thread) (e : Effect) (M : Moves s t (s.thread t) r' e)
    (below : t < s.threads) (u : ℕ) (apart : t ≡ u → ⊥) (has : placed s (s.thread u) ≡ true) where
  abbrev k : Going s u
  k = placed-going s I u has

  abbrev left : Store
  left = apply s t r' e

  pub takes-apart : same_take (s.thread t) (s.thread u) ≡ false
  takes-apart = rw (placed-takes_h s I u has, placed-takes_n s I u has, and-false (takes_h (s.thread t)))

  abbrev k_after : Going left u
  k_after = still s I t r' e M below u apart takes-apart k

  pub still_placed : placed left (left.thread u) ≡ true
  still_placed = rw (upd_other s.thread t u r' apart) (placed-kept s I t r' e M u apart ∙ has)

  -- u's step answers as it did
  pub answering_after : (v : ℕ) (l : List Answered) → answering left u v l ≡ answering s u v l
  answering_after v l =
      rw (going-reply left u k_after, going-reply s u k, upd_other s.thread t u r' apart)

  pub stepped_after : stepped left u ≡ apply (stepped s u) t r' e
  stepped_after =
      stepped_is left u k_after
      ∙ still-left s I t r' e M below u apart takes-apart k
      ∙ sym (ap (λ (x : Store). apply x t r' e) (stepped_is s u k))

-- what s comes to after the move: Rel says what becomes of the answers
pub record Moved (s d : Store) (Rel : ℕ → List Answered → List Answered → Type 0) (a : ℕ → List Answered) : Type 0 where
  pub answers : ℕ → List Answered
  pub settles : SettlesTo s d answers
  pub related : (u : ℕ) → Rel u (a u) (answers u)

-- Thread t can move on with record r' and an effect (`Can s`), and still can when others that have their place have stepped. Then what
-- s settles to after the move is d', if that is so where nobody but t has a place.
module _ (t : ℕ) (r' : Thread) (e : Effect) (d d' : Store) (Can : Store → Type 0) (Rel : ℕ → List Answered → List Answered → Type 0)
    (moves : (s : Store) → Inv s → Can s → Moves s t (s.thread t) r' e)
    (below : (s : Store) → Can s → t < s.threads)
    (still : (s : Store) → Inv s → Can s → (u : ℕ) → (t ≡ u → ⊥) → placed s (s.thread u) ≡ true → Can (stepped s u))
    (last : (s : Store) (a : ℕ → List Answered) → Inv s → Can s → ((v : ℕ) → placed s (s.thread v) ≡ false) →
    d ≡ cleared s → ((u : ℕ) → a u ≡ []) → Moved (apply s t r' e) d' Rel a)
    (own : (s : Store) (a b : ℕ → List Answered) → Inv s → Can s → placed s (s.thread t) ≡ true → SettlesTo (stepped s t) d b →
    ((u : ℕ) → a u ≡ answering s t u (b u)) → Moved (apply s t r' e) d' Rel a)
    (others : (v u : ℕ) → (t ≡ v → ⊥) → (b : Bool) (x : Answered) (l l' : List Answered) → Rel u l l' →
    Rel u (emit (b && eqb v u) x l) (emit (b && eqb v u) x l')) where
  -- u, which has its place, steps after t's move as before it
  step-over : (s : Store) (a b : ℕ → List Answered) → Inv s → Can s → (u : ℕ) → (t ≡ u → ⊥) → placed s (s.thread u) ≡ true →
      Moved (apply (stepped s u) t r' e) d' Rel b → ((v : ℕ) → a v ≡ answering s u v (b v)) → Moved (apply s t r' e) d' Rel a
  step-over s a b I C u apart has after is =
      let M = moves s I C in
      record {
        answers = λ v. answering (apply s t r' e) u v (after.answers v);
        settles =
            more u (still_placed s I t r' e M (below s C) u apart has)
            (subst (λ (x : Store). SettlesTo x d' after.answers) (sym (stepped_after s I t r' e M (below s C) u apart has))
            after.settles) (λ v. refl);
        related =
            λ v. rw (is v, answering_after s I t r' e M (below s C) u apart has v (after.answers v))
            (others u v apart (eqb (call_store s (step u)).number FINISHED) _ (b v) (after.answers v) (after.related v));
      }

  pub moved-settles : {s : Store} {a : ℕ → List Answered} → Inv s → Can s → SettlesTo s d a → Moved (apply s t r' e) d' Rel a
  moved-settles {s} {a} I C (rest nobody is none) = last s a I C nobody is none
  moved-settles {s} {a} I C (more {b = b} u has S is) =
      either_way (eqb t u)
      (λ x.
      let y : u ≡ t = sym (eqb-true t u x) in
      own s a b I C (rw y at has) (rw y at S) (rw y at is))
      (λ x.
      step-over s a b I C u (eqb-false t u x) has
      (moved-settles (inv-call s I (step u)) (still s I C u (eqb-false t u x) has) S) is)

-- ---- a thread's step, seen while others step

-- t, with record r, can step: its number and value, its next record and its effect; whether it has its place, and takes its last lock
pub record Ready (t : ℕ) (r : Thread) (number value : ℕ) (r' : Thread) (e : Effect) (place last : Bool) (s : Store) : Type 0 where
  pub is : s.thread t ≡ r
  pub below : t < s.threads
  pub busy : is_idle r ≡ false
  pub told : Goes (verdict s t) number value r' e
  pub has : placed s r ≡ place
  pub takes : takes_last s r ≡ last

module _ (t : ℕ) (r : Thread) (number value : ℕ) (r' : Thread) (e : Effect) (place last : Bool) where
  abbrev Can : Store → Type 0
  Can = Ready t r number value r' e place last

  abbrev pub ready-going : (s : Store) → Can s → Going s t
  ready-going s C =
      record {
        below = C.below;
        busy = rw C.is C.busy;
        number = number;
        value = value;
        becomes = r';
        effect = e;
        told' = C.told;
      }

  pub ready-moves : (s : Store) → Inv s → Can s → Moves s t (s.thread t) r' e
  ready-moves s I C = going-moves s t I (ready-going s C)

  pub ready-stepped : (s : Store) (C : Can s) → stepped s t ≡ apply s t r' e
  ready-stepped s C = stepped_is s t (ready-going s C)

  -- what its step answers
  abbrev pub answer-of : ℕ → List Answered → List Answered
  answer-of u l = emit (eqb number FINISHED && eqb t u) (record { op = r.op; value = value }) l

  pub ready-answering : (s : Store) (C : Can s) (u : ℕ) (l : List Answered) → answering s t u l ≡ answer-of u l
  ready-answering s C u l = rw (going-reply s t (ready-going s C), C.is)

  pub ready-still : (s : Store) → Inv s → Can s → (u : ℕ) → (t ≡ u → ⊥) → placed s (s.thread u) ≡ true → Can (stepped s u)
  ready-still s I C u apart has =
      let k = placed-going s I u has in
      let g = ready-going s C in
      let M = going-moves s u I k in
      let others : u ≡ t → ⊥ = λ x. apart (sym x) in
      let same : upd s.thread u k.becomes t ≡ s.thread t = upd_other s.thread u t k.becomes others in
      let takes =
      same_take_sym (s.thread t) (s.thread u) (takes-apart s I t r' e (ready-moves s I C) C.below u apart has) in
      subst Can (sym (stepped_is s u k))
      (record {
        is = same ∙ C.is;
        below = C.below;
        busy = C.busy;
        told = (still s I u k.becomes k.effect M k.below t others takes g).told';
        has = rw C.is at (placed-kept s I u k.becomes k.effect M t others) ∙ C.has;
        takes = rw C.is at (last_kept s I u k.becomes k.effect M t others g) ∙ C.takes;
      })

-- ---- three moves that keep what the store comes to

-- the answers are the same
abbrev pub Alike : ℕ → List Answered → List Answered → Type 0
Alike u l l' = l ≡ l'

alike-others : (t v u : ℕ) → (t ≡ v → ⊥) → (b : Bool) (x : Answered) (l l' : List Answered) → Alike u l l' →
    Alike u (emit (b && eqb v u) x l) (emit (b && eqb v u) x l')
alike-others t v u apart b x l l' is = rw is

-- who has no place before and after leaves nobody with one, if there was nobody, and changes no table
cleared-quiet : (s : Store) (t : ℕ) (r' : Thread) (e : Effect) → Quiet e → cleared s ≡ cleared (apply s t r' e)
cleared-quiet s t r' e q = rw (q.map, q.header, q.content, q.wear)

rest-kept : (s : Store) → Inv s → (t : ℕ) (r' : Thread) (e : Effect) → Moves s t (s.thread t) r' e → Quiet e →
    placed (apply s t r' e) r' ≡ false → (d : Store) (a : ℕ → List Answered) → ((v : ℕ) → placed s (s.thread v) ≡ false) →
    d ≡ cleared s → ((u : ℕ) → a u ≡ []) → Moved (apply s t r' e) d Alike a
rest-kept s I t r' e M q lacks d a nobody is none =
    record {
      answers = a;
      settles =
          rest
          (upd_each (λ v r. placed (apply s t r' e) r ≡ false) s.thread t r' lacks
          (λ v apart. placed-kept s I t r' e M v apart ∙ nobody v))
          (is ∙ cleared-quiet s t r' e q) none;
      related = λ u. refl;
    }

-- a step before the last lock
module _ (t : ℕ) (r : Thread) (n x : ℕ) (r' : Thread) (e : Effect) where
  abbrev Early : Store → Type 0
  Early = Ready t r n x r' e false false

  early-quiet : (s : Store) → Inv s → Early s → Quiet e × (placed (apply s t r' e) r' ≡ false)
  early-quiet s I C = go (going-came s I t (ready-going t r n x r' e false false s C))
    where
      go : Came s t n r' e → Quiet e × (placed (apply s t r' e) r' ≡ false)
      go (went _ w) = (w.quiet (rw C.is C.has), w.place ∙ rw (C.is, C.has, C.takes))
      go (over _ _ has) = clash has (rw C.is C.has)

  pub early-settles : {s d : Store} {a : ℕ → List Answered} → Inv s → Early s → SettlesTo s d a → Moved (apply s t r' e) d Alike a
  early-settles {d = d} =
      moved-settles t r' e d d Early Alike (ready-moves t r n x r' e false false) (λ s C. C.below)
      (ready-still t r n x r' e false false)
      (λ s a I C nobody is none.
      rest-kept s I t r' e (ready-moves t r n x r' e false false s I C) (early-quiet s I C).0 (early-quiet s I C).1
      d a nobody is none)
      (λ s a b I C has S is. clash has (rw C.is C.has))
      (alike-others t)

-- a begin
module _ (t op n c : ℕ) (known : within WRITE LEVEL op ≡ true) where
  pub record Begins (s : Store) : Type 0 where
    pub below : t < s.threads
    pub rests : is_idle (s.thread t) ≡ true
    pub logical : (eqb op LEVEL || ltb n s.numbers) ≡ true

  begins-moves : (s : Store) → Inv s → Begins s → Moves s t (s.thread t) (begun op n c) nothing
  begins-moves s I C = begins s I t C.rests op n c known C.logical

  pub idle_unplaced : (s : Store) → Inv s → Begins s → placed s (s.thread t) ≡ false
  idle_unplaced s I C = rw (idle_is (s.thread t) (I.stands t) C.rests)

  begins-still : (s : Store) → Inv s → Begins s → (u : ℕ) → (t ≡ u → ⊥) → placed s (s.thread u) ≡ true → Begins (stepped s u)
  begins-still s I C u apart has =
      let k = placed-going s I u has in
      subst Begins (sym (stepped_is s u k))
      (record {
        below = C.below;
        rests = rw (ne_eqb u t (λ x. apart (sym x))) C.rests;
        logical = C.logical;
      })

  pub begin-settles : {s d : Store} {a : ℕ → List Answered} → Inv s → Begins s → SettlesTo s d a →
      Moved (apply s t (begun op n c) nothing) d Alike a
  begin-settles {d = d} =
      moved-settles t (begun op n c) nothing d d Begins Alike begins-moves (λ s C. C.below) begins-still
      (λ s a I C nobody is none.
      rest-kept s I t (begun op n c) nothing (begins-moves s I C)
      (record { map = refl; header = refl; content = refl; wear = refl })
      (first_unplaced (apply s t (begun op n c) nothing) (begun op n c) (begins-moves s I C).stands refl) d a nobody is none)
      (λ s a b I C has S is. clash has (idle_unplaced s I C))
      (alike-others t)

-- a step after the last lock: the answers are that of this step, and then those that are left
emits_commute : (t v u : ℕ) → (t ≡ v → ⊥) → (b c : Bool) (x y : Answered) (l : List Answered) →
    emit (b && eqb v u) y (emit (c && eqb t u) x l) ≡ emit (c && eqb t u) x (emit (b && eqb v u) y l)
emits_commute t v u apart b c x y l =
    either_way (eqb t u)
    (λ e. rw (ne_eqb v u (λ z. apart (eqb-true t u e ∙ sym z)), and-false b))
    (λ e. rw (e, and-false c))

module _ (t : ℕ) (r : Thread) (n x : ℕ) (r' : Thread) (e : Effect) (l : Bool) where
  -- the answers m are that of the step and then m'
  abbrev pub Answering : ℕ → List Answered → List Answered → Type 0
  Answering u m m' = m ≡ answer-of t r n x r' e true l u m'

  pub late_settles : {s d : Store} {a : ℕ → List Answered} → Inv s → Ready t r n x r' e true l s → SettlesTo s d a →
      Moved (apply s t r' e) d Answering a
  late_settles {d = d} =
      moved-settles t r' e d d (Ready t r n x r' e true l) Answering
      (ready-moves t r n x r' e true l) (λ s C. C.below) (ready-still t r n x r' e true l)
      (λ s a I C nobody is none. clash (rw C.is C.has) (nobody t))
      (λ s a b I C has S is.
      record {
        answers = b;
        settles = subst (λ (y : Store). SettlesTo y d b) (ready-stepped t r n x r' e true l s C) S;
        related = λ u. is u ∙ ready-answering t r n x r' e true l s C u (b u);
      })
      (λ v u apart b y m m' is.
      ap (λ (z : List Answered). emit (b && eqb v u) y z) is
      ∙ emits_commute t v u apart b (eqb n FINISHED) (record { op = r.op; value = x }) y m')
