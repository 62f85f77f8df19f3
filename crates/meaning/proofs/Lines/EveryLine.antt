-- Every line that a thread may stand at, and every begin, shows what it must: the lines of Write, Read, Unmap and Level put together.
-- Assumes nothing.
use mathlib.Core.Path.{◌≡◌, refl, sym, subst}
use mathlib.Core.Bool.{true, false, ◌||◌}
use mathlib.Core.Logic.{inl, inr}
use Prim.Native.Nat.{ℕ, ◌<◌}
use native.Mathlib.Omega.{arith}
use lib.Dec.{eqb, ltb}
use borrow.Author.Tests.{eqb-true, ltb-true, ltb-false}
use Rattle.meaning.specs.declared.Thread.{Thread}
use Rattle.meaning.specs.Limits.{most_threads, within}
use Rattle.meaning.specs.Store.{Store, idle}
use Rattle.meaning.specs.Programs.{WRITE, LEVEL, last_line}
use Rattle.meaning.specs.Step.{nothing, verdict}
use Rattle.meaning.specs.Call.{is_idle, begun, stored_n}
use Rattle.meaning.proofs.Base.Words.{either_way, clash, and_left, and_right, within_true}
use Rattle.meaning.proofs.Invariant.{Holds, is_on_line, Stands, Inv}
use Rattle.meaning.proofs.Invariant.Keeping.{Moves}
use Rattle.meaning.proofs.Invariant.Sharing.{numbers-blocks, few}
use Rattle.meaning.proofs.Lines.{Fine, Line, From, ◌▸◌, from_at, keeping}
use Rattle.meaning.proofs.Lines.Write.{write-lines}
use Rattle.meaning.proofs.Lines.Read.{read_lines}
use Rattle.meaning.proofs.Lines.Unmap.{unmap-lines}
use Rattle.meaning.proofs.Lines.Level.{level-lines}

-- ---- idle or open

idle_not_open : (r : Thread) → is_on_line r ≡ true → is_idle r ≡ true → ⊥
idle_not_open r o rests =
    let op = within_true WRITE LEVEL r.op (and_left _ (within 1 (last_line r.op) r.line) o) in
    let none : r.op ≡ 0 = eqb-true r.op 0 rests in
    omega arith

pub idle_is : (r : Thread) → Stands r → is_idle r ≡ true → r ≡ idle
idle_is r (inl e) rests = e
idle_is r (inr o) rests = absurd (idle_not_open r o rests)

-- an open thread stands at a line
pub open-line : (r : Thread) → Stands r → is_idle r ≡ false → is_on_line r ≡ true
open-line r (inl e) busy = clash refl (rw e at busy)
open-line r (inr o) busy = o

module _ (s : Store) (I : Inv s) (t : ℕ) where
  pub open-below : is_idle (s.thread t) ≡ false → t < s.threads
  open-below busy =
      either_way (ltb t s.threads) (λ b. ltb-true t s.threads b)
      (λ b. clash refl (rw (I.past t (ltb-false t s.threads b)) at busy))

  pub fine : is_idle (s.thread t) ≡ false → Fine s t (s.thread t) (verdict s t)
  fine busy =
      let r = s.thread t in
      let below : t < most_threads = omega (arith, open-below busy, few s I) in
      let o = open-line r (I.stands t) busy in
      let op = within_true WRITE LEVEL r.op (and_left _ (within 1 (last_line r.op) r.line) o) in
      let line = within_true 1 (last_line r.op) r.line (and_right (within WRITE LEVEL r.op) _ o) in
      let lines =
      from_at (λ op. From (Line s t op) 1 (last_line op)) LEVEL WRITE
      (write-lines s t ▸ read_lines s t ▸ unmap-lines s t ▸ level-lines s t ▸ tt) r.op (omega arith) (omega arith) in
      from_at (Line s t r.op) (last_line r.op) 1 lines r.line (omega arith) (omega arith)
      r.n r.c r.p r.q r.h (record { inv = I; below = below; is = refl; holds = I.holds t; facts = I.facts t })

  -- ---- an idle thread begins any of the four operations

  abbrev Begins : ℕ → Type 0
  Begins op = (n c : ℕ) → stored_n op n < s.numbers → Moves s t idle (begun op n c) nothing

  begins_each : Holds s t idle → From Begins WRITE LEVEL
  begins_each H =
      let sizes = numbers-blocks s I in
      (λ n c b. search (keeping, arith, H.locks, H.own))
      ▸ (λ n c b. search (keeping, arith, H.locks, H.own))
      ▸ (λ n c b. search (keeping, arith, H.locks, H.own))
      ▸ (λ n c b. search (keeping, arith, H.locks, H.own))
      ▸ tt

  -- the number that begin stores is in range
  stored-below : (op n : ℕ) → (eqb op LEVEL || ltb n s.numbers) ≡ true → stored_n op n < s.numbers
  stored-below op n x =
      either_way (eqb op LEVEL) (λ y. rw y (numbers-blocks s I).1) (λ y. rw y (ltb-true n s.numbers (rw y at x)))

  pub begins : is_idle (s.thread t) ≡ true → (op n c : ℕ) → within WRITE LEVEL op ≡ true →
      (eqb op LEVEL || ltb n s.numbers) ≡ true → Moves s t (s.thread t) (begun op n c) nothing
  begins rests op n c known below =
      let is = idle_is (s.thread t) (I.stands t) rests in
      let range = within_true WRITE LEVEL op known in
      subst (λ (r : Thread). Moves s t r (begun op n c) nothing) (sym is)
      (from_at Begins LEVEL WRITE (begins_each (rw is at (I.holds t))) op (omega arith) (omega arith) n c
      (stored-below op n below))
