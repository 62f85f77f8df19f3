-- What a user of the layer may rely on, in terms of the manager and of schedules alone. Nothing here depends on how a line works.
--
-- LINEARIZABILITY, as Herlihy and Wing (1990) define it. A history H is linearizable if responses can be appended to it such that, of the
-- history H' that this gives, (L1) complete(H'), which is H' without the invocations that have no response, is equivalent to some legal
-- sequential history S, and (L2) the order <H of operations in H is kept in S.
-- Here H is a schedule w on a fresh store with what its calls answer: a begin that went is an invocation, a step that finished is a
-- response. The invocations are those of reads, writes and unmaps; levellings, which the manager does not know, are left out. Then:
--  * the responses that are appended are what is `Owed`: one at most for each thread, to an operation that has taken its last lock;
--  * the invocations that complete(H') leaves out are `pending`: one at most for each thread;
--  * S is `order`: the operations in the order of their last locks, one after the other, each with the manager's answer (`managed`).
--    It is legal since the manager, which starts empty, gives the answers;
--  * equivalent means that each thread sees the same in both: the same invocations (`asks`) and the same responses (`answers`), in
--    the same order;
--  * <H is that one operation has its response before the other has its invocation. The first is then before the other in S
--    (`real_time`). An operation is named by its thread and by how many reads, writes and unmaps of that thread came before it; it is
--    what stands at its place (`place-holds` of Requests). A place past the end of S is that of an operation that is not in S. Of all
--    operations, levellings too, `in_real_time` says the same.
-- The theorem is `linearizable` of Manager.
--
-- WHAT A READ GIVES. A read of number k that stands in S after operations l finishes with what the manager reads at k after l
-- (`read_finished`; `read_answered` says it of the manager alone). That is the word of the last write of k in l, and empty, 0, if an
-- unmap of k came after it or if no write of k is in l (`reads_give`; `read_gives_last_write`, `read_gives_empty` and
-- `read_gives_empty_first` say it case by case).
--
-- TWO NUMBERS NEVER SHARE A BLOCK: `one_block_each`, at every moment, whatever is under way.
--
-- Assumes nothing.
use mathlib.Core.Path.{◌≡◌, refl, sym, ap, ◌∙◌, subst}
use mathlib.Core.Bool.{true, false, not, cond, ◌&&◌}
use mathlib.Core.List.{List, [], ◌∷◌, ◌++◌}
use mathlib.Core.Logic.{◌⊎◌, inl, inr}
use Prim.Native.Nat.{ℕ, ◌<◌, ◌≤◌}
use native.Mathlib.Omega.{arith}
use lib.Dec.{eqb}
use lib.ListN.{length, get_or, length-append, length-map, get_or-append}
use lib.Seq.{get_or_at}
use borrow.Author.Tests.{eqb-true, not-true}
use Rattle.meaning.specs.Limits.{in_limits}
use Rattle.meaning.specs.Store.{Store, fresh}
use Rattle.meaning.specs.Holding.{free, named}
use Rattle.meaning.specs.Programs.{WRITE, READ, UNMAP, LEVEL}
use Rattle.meaning.specs.Call.{Entry, call_store}
use Rattle.meaning.specs.Manager.{Manager, empty, initial, ebm_read}
use Rattle.meaning.specs.Schedule.{Operation, Answered, run, order, begun_by, finished_by, obey, obey_all, managed, of_manager}
use Rattle.meaning.specs.Demands.{by_thread, of_thread, answered_ops, pending, placed_op, request_of, requests, place, Without, writes, changes, Gives, last_write, last_unmap, untouched, InRealTime}
use Rattle.meaning.proofs.Base.Words.{same, either_way, clash, and_left, and_right, naming_once, naming-named}
use Rattle.meaning.proofs.Invariant.{Inv}
use Rattle.meaning.proofs.Progress.{inv-fresh, inv-run}
use Rattle.meaning.proofs.Manager.View.{owing}
use Rattle.meaning.proofs.Base.Schedules.{order-append}
use Rattle.meaning.proofs.Manager.Laws.{obey-reads, obey_all-append}
use Rattle.meaning.proofs.Manager.Answers.{manager-owing}
use Rattle.meaning.proofs.Base.Requests.{those-append, requests-of_thread, managed-length, place_first, place-second}
use Rattle.meaning.proofs.OneAtATime.EachOnce.{each_once}

-- ---- what the manager reads

pub reads_unchanged : (k : ℕ) (l : List Operation) (m : Manager) → Without (changes k) l → ebm_read k (obey_all m l) ≡ ebm_read k m
reads_unchanged k [] m w = refl
reads_unchanged k (o ∷ l) m w =
    reads_unchanged k l (obey o m) w.1 ∙ obey-reads o m k ∙
    either_way (eqb o.number k)
    (λ x. either_way (eqb o.op LEVEL) (λ y. rw (x, y)) (λ y. either_way (eqb o.op READ)
    (λ z. rw (x, y, eqb-true o.op READ z)) (λ z. clash refl (rw (x, y, z) at w.0))))
    (λ x. rw x)

pub reads-empty : (k : ℕ) (l : List Operation) (m : Manager) → ebm_read k m ≡ empty → Without (writes k) l →
    ebm_read k (obey_all m l) ≡ empty
reads-empty k [] m e w = e
reads-empty k (o ∷ l) m e w =
    reads-empty k l (obey o m)
    (obey-reads o m k ∙ rw e (either_way (eqb o.number k)
    (λ x. either_way (eqb o.op LEVEL) (λ y. rw (x, y)) (λ y. either_way (eqb o.op WRITE)
    (λ z. clash refl (rw (x, z) at w.0)) (λ z. either_way (eqb o.op READ) (λ v. rw (x, y, z, v)) (λ v. rw (x, y, z, v)))))
    (λ x. rw x))) w.1

-- the word of the last write
pub read_gives_last_write : (k : ℕ) (m : Manager) (l : List Operation) (o : Operation) (l' : List Operation) →
    o.op ≡ WRITE → o.number ≡ k → Without (changes k) l' → ebm_read k (obey_all m (l ++ (o ∷ l'))) ≡ o.word
read_gives_last_write k m l o l' op number rest =
    rw (obey_all-append m l (o ∷ l')) (reads_unchanged k l' (obey o (obey_all m l)) rest ∙ obey-reads o (obey_all m l) k ∙
    rw (number, same k, op))

-- empty once unmapped, until the next write
pub read_gives_empty : (k : ℕ) (m : Manager) (l : List Operation) (o : Operation) (l' : List Operation) →
    o.op ≡ UNMAP → o.number ≡ k → Without (writes k) l' → ebm_read k (obey_all m (l ++ (o ∷ l'))) ≡ empty
read_gives_empty k m l o l' op number rest =
    rw (obey_all-append m l (o ∷ l')) (reads-empty k l' (obey o (obey_all m l)) (obey-reads o (obey_all m l) k ∙
    rw (number, same k, op)) rest)

-- and before the first write
pub read_gives_empty_first : (k : ℕ) (l : List Operation) → Without (writes k) l → ebm_read k (obey_all initial l) ≡ empty
read_gives_empty_first k l rest = reads-empty k l initial refl rest

-- there is always one of the three: the last operation that changes k, if any, is a write or not
record LastChange (k : ℕ) (l : List Operation) : Type 0 where
  before : List Operation
  last : Operation
  since : List Operation
  split : l ≡ before ++ (last ∷ since)
  is : changes k last ≡ true
  rest : Without (changes k) since

last_change : (k : ℕ) (l : List Operation) → Without (changes k) l ⊎ LastChange k l
last_change k [] = inl tt
last_change k (o ∷ l) = go (last_change k l)
  where
    go : Without (changes k) l ⊎ LastChange k l → Without (changes k) (o ∷ l) ⊎ LastChange k (o ∷ l)
    go (inl w) =
        either_way (changes k o)
        (λ x. inr (record { before = []; last = o; since = l; split = refl; is = x; rest = w })) (λ x. inl (x, w))
    go (inr c) =
        inr (record {
          before = o ∷ c.before;
          last = c.last;
          since = c.since;
          split = ap (λ r. o ∷ r) c.split;
          is = c.is;
          rest = c.rest;
        })

-- what an operation that changes k leaves of it
change_leaves : (k : ℕ) (o : Operation) (m : Manager) → changes k o ≡ true →
    ebm_read k (obey o m) ≡ cond (eqb o.op WRITE) o.word empty
change_leaves k o m x =
    let y = not-true (eqb o.op LEVEL) (and_left (not (eqb o.op LEVEL)) _ x) in
    let z = and_right (not (eqb o.op LEVEL)) _ x in
    let r = not-true (eqb o.op READ) (and_left (not (eqb o.op READ)) _ z) in
    let n = and_right (not (eqb o.op READ)) (eqb o.number k) z in
    obey-reads o m k ∙ either_way (eqb o.op WRITE) (λ w. rw (n, y, w)) (λ w. rw (n, y, w, r))

pub reads_give : (k : ℕ) (l : List Operation) → Gives k l (ebm_read k (obey_all initial l))
reads_give k l = go (last_change k l)
  where
    go : Without (changes k) l ⊎ LastChange k l → Gives k l (ebm_read k (obey_all initial l))
    go (inl w) = subst (Gives k l) (sym (reads_unchanged k l initial w)) (untouched w)
    go (inr c) =
        let o = c.last in
        let m = obey_all initial c.before in
        let e : ebm_read k (obey_all initial l) ≡ cond (eqb o.op WRITE) o.word empty =
        ap (λ x. ebm_read k (obey_all initial x)) c.split ∙ ap (ebm_read k) (obey_all-append initial c.before (o ∷ c.since))
        ∙ reads_unchanged k c.since (obey o m) c.rest ∙ change_leaves k o m c.is in
        let n : eqb o.number k ≡ true =
        and_right (not (eqb o.op READ)) (eqb o.number k) (and_right (not (eqb o.op LEVEL)) _ c.is) in
        subst (Gives k l) (sym e)
        (either_way (eqb o.op WRITE) (λ x. rw x (last_write c.before o c.since c.split (rw (x, n)) c.rest))
        (λ x. rw x (last_unmap c.before o c.since c.split c.is (rw x) c.rest)))

-- what the manager answers to a read is what it reads there
managed-append : (m : Manager) (u : ℕ) (l l' : List Operation) → managed m u (l ++ l') ≡ managed m u l ++ managed (obey_all m l) u l'
managed-append m u [] l' = refl
managed-append m u (o ∷ l) l' =
    either_way (eqb o.thread u && not (eqb o.op LEVEL)) (λ x. rw (x, managed-append (obey o m) u l l'))
    (λ x. rw x (managed-append (obey o m) u l l'))

pub read_answered : (m : Manager) (u : ℕ) (l : List Operation) (o : Operation) (l' : List Operation) → o.op ≡ READ → o.thread ≡ u →
    managed m u (l ++ (o ∷ l')) ≡
    managed m u l ++ (record { op = READ; value = ebm_read o.number (obey_all m l) } ∷ managed (obey_all m l) u l')
read_answered m u l o l' op thread = managed-append m u l (o ∷ l') ∙ rw (thread, same u, op)

-- ---- linearizability

module _ (t n p d : ℕ) (limits : in_limits t n p d ≡ true) where
  -- what a thread has begun is what it has in the order, and then what has no place yet
  pub requests-begun : (w : List Entry) (u : ℕ) → requests u (begun_by call_store (λ s. s) (fresh t n p d) u w) ≡
      requests u (order call_store (λ s. s) (fresh t n p d) w) ++ requests u (pending u (run call_store (fresh t n p d) w))
  requests-begun w u =
      let l = order call_store (λ s. s) (fresh t n p d) w in
      ap (requests u) (each_once t n p d limits w u).begun_once ∙ those-append (request_of u) (of_thread u l) (pending u (run call_store (fresh t n p d) w))
      ∙ ap (λ r. r ++ requests u (pending u (run call_store (fresh t n p d) w))) (requests-of_thread u l)

  -- what a thread has finished has its place, and what has its place is begun
  pub finished-placed : (w : List Entry) (u : ℕ) → length (of_manager (finished_by call_store (λ s. s) (fresh t n p d) u w)) ≤
      length (requests u (order call_store (λ s. s) (fresh t n p d) w))
  finished-placed w u =
      let s = fresh t n p d in
      let fin = of_manager (finished_by call_store (λ s. s) s u w) in
      let x = ap length (manager-owing t n p d limits w u) ∙ length-append fin (owing (run call_store s w) u) in
      let y = managed-length initial u (order call_store (λ s. s) s w) in
      omega arith

  pub placed-begun : (w : List Entry) (u : ℕ) → length (requests u (order call_store (λ s. s) (fresh t n p d) w)) ≤
      length (requests u (begun_by call_store (λ s. s) (fresh t n p d) u w))
  placed-begun w u =
      let s = fresh t n p d in
      let x = ap length (requests-begun w u) ∙ length-append (requests u (order call_store (λ s. s) s w)) (requests u (pending u (run call_store s w))) in
      omega arith

  -- the order of a schedule in two parts is in two parts
  pub real_time_parts : (v v' : List Entry) → order call_store (λ s. s) (fresh t n p d) (v ++ v') ≡
      order call_store (λ s. s) (fresh t n p d) v ++ order call_store (λ s. s) (run call_store (fresh t n p d) v) v'
  real_time_parts v v' = order-append call_store (λ s. s) (fresh t n p d) v v'

  pub real_time : (v v' : List Entry) (u i u' i' : ℕ) →
      i < length (of_manager (finished_by call_store (λ s. s) (fresh t n p d) u v)) →
      length (requests u' (begun_by call_store (λ s. s) (fresh t n p d) u' v)) ≤ i' →
      place (request_of u) (order call_store (λ s. s) (fresh t n p d) (v ++ v')) i <
      place (request_of u') (order call_store (λ s. s) (fresh t n p d) (v ++ v')) i'
  real_time v v' u i u' i' finished unbegun =
      let s = fresh t n p d in
      let l = order call_store (λ s. s) s v in
      let l' = order call_store (λ s. s) (run call_store s v) v' in
      let a = finished-placed v u in
      let b = placed-begun v u' in
      let x = place_first (request_of u) l l' i (omega arith) in
      let y = place-second (request_of u') l l' i' (omega arith) in
      rw (real_time_parts v v') (omega arith)

  -- and of all operations, levellings too
  pub in_real_time : (w : List Entry) → InRealTime call_store (λ s. s) (fresh t n p d) w
  in_real_time w v v' split u i u' i' finished unbegun =
      let s = fresh t n p d in
      let l = order call_store (λ s. s) s v in
      let l' = order call_store (λ s. s) (run call_store s v) v' in
      let fin = finished_by call_store (λ s. s) s u v in
      let placed =
      sym (length-map (of_thread u l) (λ o. o.op)) ∙ ap length (each_once t n p d limits v u).finished_once
      ∙ length-append (answered_ops fin) (placed_op u (run call_store s v)) in
      let answered = length-map fin (λ x. x.op) in
      let begun =
      ap length (each_once t n p d limits v u').begun_once ∙ length-append (of_thread u' l) (pending u' (run call_store s v)) in
      let x = place_first (by_thread u) l l' i (omega arith) in
      let y = place-second (by_thread u') l l' i' (omega arith) in
      rw (← split) (rw (real_time_parts v v') (omega arith))

-- ---- what a read that has finished gave

-- A read of thread u that stands in the order after operations l is u's request number `length (requests u l)`. Once that many and one
-- more have finished, the answer of that number is what the manager reads after l.
pub read_finished : (t n p d : ℕ) → in_limits t n p d ≡ true → (w : List Entry) (u : ℕ) (l : List Operation) (o : Operation)
    (l' : List Operation) → order call_store (λ s. s) (fresh t n p d) w ≡ l ++ (o ∷ l') → o.op ≡ READ → o.thread ≡ u →
    length (requests u l) < length (of_manager (finished_by call_store (λ s. s) (fresh t n p d) u w)) → (none : Answered) →
    get_or (of_manager (finished_by call_store (λ s. s) (fresh t n p d) u w)) (length (requests u l)) none ≡
    record { op = READ; value = ebm_read o.number (obey_all initial l) }
read_finished t n p d limits w u l o l' is op thread finished none =
    let s = fresh t n p d in
    let fin = of_manager (finished_by call_store (λ s. s) s u w) in
    let i = length (requests u l) in
    sym (get_or-append fin (owing (run call_store s w) u) none i finished) ∙
    ap (λ x. get_or x i none) (sym (manager-owing t n p d limits w u) ∙ ap (managed initial u) is ∙ read_answered initial u l o l' op thread) ∙
    get_or_at (managed initial u l) _ (managed (obey_all initial l) u l') none i (managed-length initial u l)

-- ---- blocks

pub one_block_each : (s : Store) → Inv s → (k k' : ℕ) → free (s.map k) ≡ false → free (s.map k') ≡ false → (k ≡ k' → ⊥) →
    named (s.map k) ≡ named (s.map k') → ⊥
one_block_each s I k k' mapped mapped' apart same_block =
    let first = I.agrees.headed k (named (s.map k)) (naming-named (s.map k) mapped) in
    let second = I.agrees.headed k' (named (s.map k')) (naming-named (s.map k') mapped') in
    apart (naming_once k k' (sym first ∙ ap s.header same_block ∙ second))

pub one_block_each_grown : (t n p d : ℕ) → in_limits t n p d ≡ true → (w : List Entry) (k k' : ℕ) →
    free ((run call_store (fresh t n p d) w).map k) ≡ false → free ((run call_store (fresh t n p d) w).map k') ≡ false → (k ≡ k' → ⊥) →
    named ((run call_store (fresh t n p d) w).map k) ≡ named ((run call_store (fresh t n p d) w).map k') → ⊥
one_block_each_grown t n p d limits w =
    one_block_each (run call_store (fresh t n p d) w) (inv-run (fresh t n p d) (inv-fresh t n p d limits) w)
