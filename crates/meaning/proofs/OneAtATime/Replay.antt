-- The lines before an operation's last lock, run again by a thread alone: from the cleared store, begin and the steps up to the last lock
-- lead to where the thread stood when it was about to take it. What those lines read can't have changed since: levelling chose under H,
-- and no register but those that it set is set. So where nobody has a place, the step by which an operation takes its last lock leads to what the
-- operation, run whole and alone, leads to.
-- Assumes nothing.
use Rattle.std.specs.Prelude.{Option, Some, None}
use mathlib.Core.Path.{◌≡◌, refl, sym, ap, ◌∙◌}
use mathlib.Core.Bool.{true, false, cond, ◌&&◌, ◌||◌}
use mathlib.Core.List.{List, [], ◌∷◌}
use Prim.Native.Nat.{ℕ, ◌+◌, ◌-◌, ◌<◌}
use native.Mathlib.Omega.{arith}
use lib.Dec.{eqb, ltb}
use borrow.Author.Tests.{eqb-true, lt-ltb}
use Rattle.meaning.specs.declared.Kind.{Kind}
use Rattle.meaning.specs.declared.Thread.{Thread}
use Rattle.meaning.specs.declared.Pass.TheVariants.{Leave}
use Rattle.meaning.specs.declared.Effect.{Effect}
use Rattle.meaning.specs.declared.Verdict.TheVariants.{Go}
use Rattle.meaning.specs.Limits.{within}
use Rattle.meaning.specs.Numbers.{WENT}
use Rattle.meaning.specs.Store.{Store}
use Rattle.meaning.specs.Holding.{none, by, naming}
use Rattle.meaning.specs.Programs.{WRITE, READ, UNMAP, LEVEL, act_at, last_line, last_take, unmoved_take}
use Rattle.meaning.specs.Step.{perform, become}
use Rattle.meaning.specs.Call.{Reply, Entry, begin, step, call_store, is_idle, begun, stored_n, stored_c}
use Rattle.meaning.specs.Schedule.{takes_last, run, finished_by, steps}
use Rattle.meaning.proofs.Base.Words.{same, and_left, and_right, or_way, within_true, by_held, naming_not_free, named-naming}
use Rattle.meaning.proofs.Base.Schedules.{reply_of}
use Rattle.meaning.proofs.Invariant.{Chosen, Facts, holds_h, holds_lock, owns_headers, owns_block, Inv}
use Rattle.meaning.proofs.Lines.{at, From, ◌▸◌, from_at}
use Rattle.meaning.proofs.Lines.EveryLine.{open-line}
use Rattle.meaning.proofs.OneAtATime.Settles.{cleared}
use Rattle.meaning.proofs.OneAtATime.Alone.{alone, with-threads, solo, alone-solo, threads-alone}

-- ---- schedules that go, and finish nothing

pub record Plays (x : Store) (w : List Entry) (y : Store) : Type 0 where
  pub leaves : run call_store x w ≡ y
  pub silent : (u : ℕ) → finished_by call_store (λ s. s) x u w ≡ []

plays-none : (x : Store) → Plays x [] x
plays-none x = record { leaves = refl; silent = λ u. refl }

plays-next : (x x' y : Store) (e : Entry) (w : List Entry) → call_store x e ≡ reply_of WENT 0 x' → Plays x' w y → Plays x (e ∷ w) y
plays-next x x' y (begin t op n c) w is P =
    let to : (call_store x (begin t op n c)).after ≡ x' = ap (λ (z : Reply Store). z.after) is in
    record {
      leaves = ap (λ (z : Store). run call_store z w) to ∙ P.leaves;
      silent = λ u. ap (λ (z : Store). finished_by call_store (λ s. s) z u w) to ∙ P.silent u;
    }
plays-next x x' y (step t) w is P =
    let to : (call_store x (step t)).after ≡ x' = ap (λ (z : Reply Store). z.after) is in
    let went : (call_store x (step t)).number ≡ WENT = ap (λ (z : Reply Store). z.number) is in
    record {
      leaves = ap (λ (z : Store). run call_store z w) to ∙ P.leaves;
      silent = λ u. rw went (ap (λ (z : Store). finished_by call_store (λ s. s) z u w) to ∙ P.silent u);
    }

-- ---- a step of a thread that has no number's lock and no block

-- an effect on H and the headers' owner alone
abbrev on_held : Option ℕ → Option ℕ → Effect
on_held a b =
    record { lock = a; owner = b; map = None; locks = Leave; header = None; content = None; wear = None; own = Leave }

module _ (s : Store) (t : ℕ) (below : t < s.threads) where
  solo-begin : (op n c : ℕ) → within WRITE LEVEL op ≡ true → (eqb op LEVEL || ltb n s.numbers) ≡ true →
      call_store (cleared s) (begin t op n c) ≡ reply_of WENT 0 (solo s t (begun op n c) none none)
  solo-begin op n c known logical = rw (lt-ltb t s.threads below, known, logical)

  solo-step : (r r' : Thread) (l o : ℕ) (a b : Option ℕ) → is_idle r ≡ false →
      perform (act_at r.op r.line) (solo s t r l o) t r ≡ Go r' (on_held a b) →
      call_store (solo s t r l o) (step t) ≡ reply_of WENT 0 (solo s t r' (become a l) (become b o))
  solo-step r r' l o a b busy is =
      rw (lt-ltb t s.threads below, same t, busy, is)
      (ap (λ (f : ℕ → Thread). reply_of WENT 0 (with-threads s f (become a l) (become b o))) (threads-alone t (λ _. r) (λ _. r') r' refl))

-- ---- up to the last lock

-- t stands at line l of its operation, alone, after a begin of that operation and l - 1 steps
pub record Replayed (s : Store) (t : ℕ) : Type 0 where
  pub before : ℕ
  pub line : (s.thread t).line ≡ before + 1
  pub plays : Plays (cleared s)
      (begin t (s.thread t).op (stored_n (s.thread t).op (s.thread t).n) (stored_c (s.thread t).op (s.thread t).c)
      ∷ steps before t []) (alone t s)

module _ (s : Store) (I : Inv s) (t : ℕ) (below : t < s.threads) where
  -- as Replayed, for a record that is written out
  abbrev FromBegin : Thread → Type 0
  FromBegin r = Plays (cleared s) (begin t r.op (stored_n r.op r.n) (stored_c r.op r.c) ∷ steps (r.line - 1) t [])
      (solo s t r (cond (holds_h r) (by t) none) (cond (owns_headers r) (by t) none))

  replayed : (r : Thread) → s.thread t ≡ r → ((κ : Kind) (k : ℕ) → holds_lock κ r k ≡ false) → ((κ : Kind) (m : ℕ) → owns_block κ r m ≡ false) →
      0 < r.line → FromBegin r → Replayed s t
  replayed r is locks own first P =
      record {
        before = r.line - 1;
        line = rw is (omega arith);
        plays = rw (alone-solo s I t r is locks own, is) P;
      }

  begun_then : (op n c : ℕ) → within WRITE LEVEL op ≡ true → (eqb op LEVEL || ltb n s.numbers) ≡ true →
      {w : List Entry} {y : Store} → Plays (solo s t (begun op n c) none none) w y → Plays (cleared s) (begin t op n c ∷ w) y
  begun_then op n c known logical {w} {y} =
      plays-next (cleared s) (solo s t (begun op n c) none none) y (begin t op n c) w (solo-begin s t below op n c known logical)

  step_then : (r r' : Thread) (l o : ℕ) (a b : Option ℕ) → is_idle r ≡ false →
      perform (act_at r.op r.line) (solo s t r l o) t r ≡ Go r' (on_held a b) →
      {w : List Entry} {y : Store} → Plays (solo s t r' (become a l) (become b o)) w y → Plays (solo s t r l o) (step t ∷ w) y
  step_then r r' l o a b busy is {w} {y} =
      plays-next (solo s t r l o) (solo s t r' (become a l) (become b o)) y (step t) w (solo-step s t below r r' l o a b busy is)

  replay_write : (n c : ℕ) → n < s.numbers → FromBegin (at WRITE 2 n c 0 0 0)
  replay_write n c b =
      begun_then WRITE n c refl (lt-ltb n s.numbers b)
      (step_then (at WRITE 1 n c 0 0 0) (at WRITE 2 n c 0 0 0) none none (Some (by t)) None refl refl (plays-none _))

  replay_read : (n : ℕ) → n < s.numbers → FromBegin (at READ 1 n 0 0 0 0)
  replay_read n b = begun_then READ n 0 refl (lt-ltb n s.numbers b) (plays-none _)

  replay_unmap : (n : ℕ) → n < s.numbers → FromBegin (at UNMAP 2 n 0 0 0 0)
  replay_unmap n b =
      begun_then UNMAP n 0 refl (lt-ltb n s.numbers b)
      (step_then (at UNMAP 1 n 0 0 0 0) (at UNMAP 2 n 0 0 0 0) none none (Some (by t)) None refl refl (plays-none _))

  replay_unmoved : FromBegin (at LEVEL 1 0 0 0 0 0)
  replay_unmoved = begun_then LEVEL 0 0 refl refl (plays-none _)

  replay_level : (n p q h : ℕ) → Chosen s (at LEVEL 6 n 0 p q h) → s.header p ≡ h → h ≡ naming n →
      FromBegin (at LEVEL 6 n 0 p q h)
  replay_level n p q h chosen heads names =
      begun_then LEVEL 0 0 refl refl
      (step_then (at LEVEL 1 0 0 0 0 0) (at LEVEL 2 0 0 0 0 0) none none (Some (by t)) None refl refl
      (step_then (at LEVEL 2 0 0 0 0 0) (at LEVEL 3 0 0 0 0 0) (by t) none None (Some (by t)) refl refl
      (step_then (at LEVEL 3 0 0 0 0 0) (at LEVEL 4 0 0 p q 0) (by t) (by t) None None refl
      (rw (by_held t, chosen.to, chosen.from))
      (step_then (at LEVEL 4 0 0 p q 0) (at LEVEL 5 0 0 p q h) (by t) (by t) None None refl (rw (by_held t, heads))
      (step_then (at LEVEL 5 0 0 p q h) (at LEVEL 6 n 0 p q h) (by t) (by t) None None refl
      (rw (naming_not_free n h names, names, named-naming n)) (plays-none _))))))

  module _ (takes : takes_last s (s.thread t) ≡ true) (busy : is_idle (s.thread t) ≡ false) where
    abbrev r : Thread
    r = s.thread t

    abbrev AtOp : ℕ → Type 0
    AtOp op = r.op ≡ op → r.line ≡ last_take op → Replayed s t

    f : Facts s r
    f = I.facts t

    at_ops : From AtOp WRITE LEVEL
    at_ops =
        (λ o l.
        let p = rw (o, l) at f.unset_p in
        let q = rw (o, l) at f.unset_q in
        let h = rw (o, l) at f.unset_h in
        replayed (at WRITE 2 r.n r.c 0 0 0) (λ i. at (o i) (l i) r.n r.c (p i) (q i) (h i))
        (λ κ k. refl) (λ κ m. refl) (omega arith) (replay_write r.n r.c f.n-below))
        ▸ (λ o l.
        let c = rw (o, l) at f.unset_c in
        let p = rw (o, l) at f.unset_p in
        let q = rw (o, l) at f.unset_q in
        let h = rw (o, l) at f.unset_h in
        replayed (at READ 1 r.n 0 0 0 0) (λ i. at (o i) (l i) r.n (c i) (p i) (q i) (h i))
        (λ κ k. refl) (λ κ m. refl) (omega arith) (replay_read r.n f.n-below))
        ▸ (λ o l.
        let c = rw (o, l) at f.unset_c in
        let p = rw (o, l) at f.unset_p in
        let q = rw (o, l) at f.unset_q in
        let h = rw (o, l) at f.unset_h in
        replayed (at UNMAP 2 r.n 0 0 0 0) (λ i. at (o i) (l i) r.n (c i) (p i) (q i) (h i))
        (λ κ k. refl) (λ κ m. refl) (omega arith) (replay_unmap r.n f.n-below))
        ▸ (λ o l.
        let c = rw (o, l) at f.unset_c in
        let chosen = rw (o, l) at f.chosen in
        let headed = rw (o, l) at f.headed-p in
        let names = rw (o, l) at f.names-n in
        replayed (at LEVEL 6 r.n 0 r.p r.q r.h) (λ i. at (o i) (l i) r.n (c i) r.p r.q r.h)
        (λ κ k. refl) (λ κ m. refl) (omega arith)
        (replay_level r.n r.p r.q r.h chosen (headed ∙ sym names) names))
        ▸ tt

    at_unmoved : r.op ≡ LEVEL → r.line ≡ unmoved_take → Replayed s t
    at_unmoved o l =
        let n = rw (o, l) at f.unset_n in
        let c = rw (o, l) at f.unset_c in
        let p = rw (o, l) at f.unset_p in
        let q = rw (o, l) at f.unset_q in
        let h = rw (o, l) at f.unset_h in
        replayed (at LEVEL 1 0 0 0 0 0) (λ i. at (o i) (l i) (n i) (c i) (p i) (q i) (h i))
        (λ κ k. refl) (λ κ m. refl) (omega arith) replay_unmoved

    pub last_replayed : Replayed s t
    last_replayed =
        let on = open-line r (I.stands t) busy in
        let op = within_true WRITE LEVEL r.op (and_left _ (within 1 (last_line r.op) r.line) on) in
        or_way (eqb r.line (last_take r.op)) _ takes
        (λ x. from_at AtOp LEVEL WRITE at_ops r.op (omega arith) (omega arith) refl (eqb-true r.line (last_take r.op) x))
        (λ x.
        let y = and_left (eqb r.op LEVEL && eqb r.line unmoved_take) _ x in
        at_unmoved (eqb-true r.op LEVEL (and_left (eqb r.op LEVEL) _ y))
        (eqb-true r.line unmoved_take (and_right (eqb r.op LEVEL) _ y)))
