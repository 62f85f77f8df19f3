-- DEMAND 3, first half, over areas of bytes: two threads of an area grown from fresh that can both step, and whose next lines don't take the
-- same lock unless both take it for reading, may step in either order. Each gives the same number and value, and the bytes at the end are the same.
--  * grown_either_order: that.
--  * grown_readers_pass: so may two threads that are about to take a number's lock for reading.
--  * grown_same_lock_blocks: the exception is needed. Where it holds, whoever comes second is BLOCKED.
-- Where either order is met in the middle of two operations is computed in Reached.
-- Assumes nothing.
use mathlib.Core.Path.{◌≡◌, refl, sym, ◌∙◌, subst}
use mathlib.Core.Bool.{true, false, not, ◌&&◌, ◌||◌}
use mathlib.Core.List.{List}
use Prim.Native.Nat.{ℕ, zero, suc, ◌≤◌}
use native.Mathlib.Omega.{arith}
use lib.Dec.{eqb, ltb}
use borrow.Author.Tests.{not-true, ltb-true, le-leb, eqb-true}
use Rattle.meaning.specs.declared.Kind.{Kind}
use Rattle.meaning.specs.declared.Kind.TheVariants.{Reader, Writer}
use Rattle.meaning.specs.declared.Act.TheVariants.{TakeH, TakeN}
use Rattle.meaning.specs.declared.Thread.{Thread}
use Rattle.meaning.specs.Numbers.{FINISHED, BLOCKED}
use Rattle.meaning.specs.Limits.{most_word, within}
use Rattle.meaning.specs.Store.{Store}
use Rattle.meaning.specs.Programs.{act_at}
use Rattle.meaning.specs.Call.{step, call_store}
use Rattle.meaning.specs.Schedule.{next_act}
use Rattle.meaning.proofs.Base.Words.{either_way, and_left, and_right, or_way, within_true, clash}
use Rattle.meaning.proofs.Base.Sets.{both_read}
use Rattle.meaning.proofs.Invariant.{takes_h, takes_n, kind}
use Rattle.meaning.proofs.Invariant.Keeping.{standing}
use Rattle.meaning.proofs.Progress.{CanStep as CanStepStore}
use Rattle.meaning.proofs.EitherOrder.{same_take, either_order, same_h_blocks, same_n_blocks}
use Rattle.store.specs.Area.{decode}
use Rattle.store.specs.Calls.{step_area, Grown}
use Rattle.store.proofs.Range.{Good, decode_injective, good-ranged}
use Rattle.demands.specs.RefusalTables.{CanStep}
use Rattle.demands.specs.SameLock.{SameLock, both_h, both_n, EitherOrder}
use Rattle.demands.proofs.Bridge.{SameReply, after_call, grown-good, grown-inv}
use Rattle.demands.proofs.Demand1.{refusals, number-decoded}

-- ---- the rows of the invariant's table are these acts

-- a range of one line
one_line : (k line : ℕ) → (within k k line || false) ≡ true → line ≡ k
one_line k line x = or_way (within k k line) false x (λ y. let z = within_true k k line y in omega arith) (λ y. clash y refl)

takes_h_act : (op line : ℕ) → takes_h (standing op line) ≡ true → act_at op line ≡ TakeH
takes_h_act zero line x = clash x refl
takes_h_act (suc zero) line x = rw (one_line 1 line x)
takes_h_act (suc (suc zero)) line x = clash x refl
takes_h_act (suc (suc (suc zero))) line x = rw (one_line 1 line x)
takes_h_act (suc (suc (suc (suc zero)))) line x = rw (one_line 1 line x)
takes_h_act (suc (suc (suc (suc (suc op))))) line x = clash x refl

takes_n_act : (op line : ℕ) → takes_n (standing op line) ≡ true → act_at op line ≡ TakeN (kind (standing op line))
takes_n_act zero line x = clash x refl
takes_n_act (suc zero) line x = rw (one_line 2 line x)
takes_n_act (suc (suc zero)) line x = rw (one_line 1 line x)
takes_n_act (suc (suc (suc zero))) line x = rw (one_line 2 line x)
takes_n_act (suc (suc (suc (suc zero)))) line x = rw (one_line 6 line x)
takes_n_act (suc (suc (suc (suc (suc op))))) line x = clash x refl

other_locks : (r q : Thread) → (SameLock r q → ⊥) → same_take r q ≡ false
other_locks r q apart =
    either_way (same_take r q)
    (λ x. absurd (apart (or_way (takes_h r && takes_h q) (takes_n q && takes_n r && eqb r.n q.n && not (both_read (kind r) (kind q))) x
    (λ y. both_h (takes_h_act r.op r.line (and_left (takes_h r) _ y))
    (takes_h_act q.op q.line (and_right (takes_h r) (takes_h q) y)))
    (λ y.
    let one = and_left (takes_n q && takes_n r && eqb r.n q.n) _ y in
    let both = and_left (takes_n q && takes_n r) _ one in
    let other = not-true (both_read (kind r) (kind q)) (and_right (takes_n q && takes_n r && eqb r.n q.n) _ y) in
    both_n (kind r) (kind q) (takes_n_act r.op r.line (and_right (takes_n q) _ both))
    (takes_n_act q.op q.line (and_left (takes_n q) _ both)) (eqb-true r.n q.n (and_right (takes_n q && takes_n r) _ one))
    (λ z. clash (λ i. both_read (z.0 i) (z.1 i)) other)))))
    (λ x. x)

-- ---- either order

-- a thread that can step is below T, so its number is a word
can-word : (a : List ℕ) → Good a → (t : ℕ) → CanStep a t → t ≤ most_word
can-word a g t c =
    let z = (good-ranged a g).sizes in
    either_way (ltb t (decode a).threads) (λ b. let l = ltb-true t (decode a).threads b in omega arith)
    (λ b. let e = ((refusals a).step t).thread.1 (g.formed, b) in absurd (omega arith))

can-decoded : (a : List ℕ) → Good a → (t : ℕ) → CanStep a t → CanStepStore (decode a) t
can-decoded a g t c =
    let e = number-decoded a g.formed (step t) in
    le-leb (call_store (decode a) (step t)).number FINISHED (omega arith)

-- u after t: the bytes match the stores
after_both : (a : List ℕ) → Good a → (t u : ℕ) → t ≤ most_word → u ≤ most_word →
    SameReply (step_area (step_area a t).after u) (call_store (call_store (decode a) (step t)).after (step u))
after_both a g t u wt wu =
    let m = after_call a g (step t) wt in
    subst (λ (s : Store). SameReply (step_area (step_area a t).after u) (call_store s (step u))) m.decoded
    (after_call (step_area a t).after m.good (step u) wu)

pub grown_either_order : (a : List ℕ) → Grown a → (t u : ℕ) → (t ≡ u → ⊥) → CanStep a t → CanStep a u →
    (SameLock ((decode a).thread t) ((decode a).thread u) → ⊥) → EitherOrder a t u
grown_either_order a grown t u apart ct cu others =
    let g = grown-good a grown in
    let wt = can-word a g t ct in
    let wu = can-word a g u cu in
    let s =
    either_order (decode a) (grown-inv a grown) t u apart (can-decoded a g t ct) (can-decoded a g u cu)
    (other_locks ((decode a).thread t) ((decode a).thread u) others) in
    let mt = after_call a g (step t) wt in
    let mu = after_call a g (step u) wu in
    let tu = after_both a g t u wt wu in
    let ut = after_both a g u t wu wt in
    record {
      number = ut.number ∙ s.number ∙ sym mt.number;
      value = ut.value ∙ s.value ∙ sym mt.value;
      other_number = tu.number ∙ s.other_number ∙ sym mu.number;
      other_value = tu.value ∙ s.other_value ∙ sym mu.value;
      after =
          decode_injective (step_area (step_area a t).after u).after (step_area (step_area a u).after t).after tu.good
          ut.good (tu.decoded ∙ s.after ∙ sym ut.decoded);
    }

-- ---- two readers

-- two threads about to take a number's lock for reading are none of the exception
readers_take : (r q : Thread) → next_act r ≡ TakeN Reader → next_act q ≡ TakeN Reader → SameLock r q → ⊥
readers_take r q e e' (both_h h _) = let z : ◌≡◌ {A = ℕ} 0 1 = cc in omega arith
readers_take r q e e' (both_n κ κ' h h' _ x) =
    let reads : κ ≡ Reader = cc in
    let reads' : κ' ≡ Reader = cc in
    x (reads, reads')

pub grown_readers_pass : (a : List ℕ) → Grown a → (t u : ℕ) → (t ≡ u → ⊥) → CanStep a t → CanStep a u →
    next_act ((decode a).thread t) ≡ TakeN Reader → next_act ((decode a).thread u) ≡ TakeN Reader → EitherOrder a t u
grown_readers_pass a grown t u apart ct cu e e' =
    grown_either_order a grown t u apart ct cu (readers_take ((decode a).thread t) ((decode a).thread u) e e')

-- ---- the exception is needed

not_both : (κ κ' : Kind) → ((κ ≡ Reader) × (κ' ≡ Reader) → ⊥) → both_read κ κ' ≡ false
not_both Reader Reader x = absurd (x (refl, refl))
not_both Reader Writer x = refl
not_both Writer κ' x = refl

-- over stores
same_lock_blocks : (s : Store) (t u : ℕ) → (t ≡ u → ⊥) → CanStepStore s t → CanStepStore s u → SameLock (s.thread t) (s.thread u) →
    (call_store (call_store s (step t)).after (step u)).number ≡ BLOCKED
same_lock_blocks s t u apart ct cu (both_h e e') = same_h_blocks s t u apart ct cu e e'
same_lock_blocks s t u apart ct cu (both_n κ κ' e e' n x) = same_n_blocks s t u apart ct cu κ κ' e e' n (not_both κ κ' x)

pub grown_same_lock_blocks : (a : List ℕ) → Grown a → (t u : ℕ) → (t ≡ u → ⊥) → CanStep a t → CanStep a u →
    SameLock ((decode a).thread t) ((decode a).thread u) → (step_area (step_area a t).after u).number ≡ BLOCKED
grown_same_lock_blocks a grown t u apart ct cu one =
    let g = grown-good a grown in
    (after_both a g t u (can-word a g t ct) (can-word a g u cu)).number
    ∙ same_lock_blocks (decode a) t u apart (can-decoded a g t ct) (can-decoded a g u cu) one
