-- DEMAND 2, over areas of bytes: of an area that a format left which gave WENT, and of every schedule of words, finished or not.
--  * area_manager_answers: the atomic manager, obeying the operations in the order of their last locks, answers each thread what its
--    reads, writes and unmaps have finished with, in order, and then at most the answer of its open operation.
--  * area-linearizable: the schedule is linearizable as Herlihy and Wing (1990) define it: what each thread asks and is answered is what
--    that order says, and what has finished before another operation is begun stands before it (`real_time`).
--    How their definition is met field by field is said at the head of the crate meaning's proofs/Manager/Linearizable.
--  * area_real_time: that last part by itself. Request i of thread u has finished within v, request i' of thread u' has not begun there.
--  * area_in_real_time: the same of all operations, levellings too.
--  * area_read_gives: a read that has finished gave the word of the last write of its number before it in that order, and 0 if an
--    unmap came after that write or if there is none.
--  * area_manager_holds: what a number's block holds is what the manager holds of it, wherever no write and no unmap has its lock;
--    so where all threads are idle, of every number (area_manager_holds_rest).
--  * area_manager_maps, area_manager_maps_rest: there a number is mapped exactly where it is in the manager's mapped set. A read tells no
--    difference between a written 0 and an unmapped number; the map does.
--  * grown_one_block_each: two numbers never share a block.
--  * grown_first_write_empty: a thread that has done W8, of a grown area, has empty in its block until it does W14, whoever steps between.
-- The definitions are those of the crate meaning, specs/Demands and specs/Manager. Assumes nothing.
use mathlib.Core.Path.{◌≡◌, refl, sym, ap, ◌∙◌, subst}
use mathlib.Core.Bool.{true, false}
use mathlib.Core.List.{List, [], ◌∷◌, ◌++◌}
use Prim.Native.Nat.{ℕ, ◌<◌, ◌≤◌}
use native.Mathlib.Omega.{arith}
use lib.Dec.{eqb}
use lib.ListN.{length, get_or}
use Rattle.meaning.specs.declared.Kind.TheVariants.{Writer}
use Rattle.meaning.specs.Store.{Store}
use Rattle.meaning.specs.Holding.{free, held, named}
use Rattle.meaning.specs.Programs.{WRITE, READ}
use Rattle.meaning.specs.Call.{Entry, step, call_store, is_idle}
use Rattle.meaning.specs.Manager.{empty, initial, ebm_read}
use Rattle.meaning.specs.Schedule.{Operation, Answered, run, order, begun_by, finished_by, obey_all, managed, of_manager}
use Rattle.meaning.specs.Demands.{is_number_mapped, kept, leaves_alone, pending, Owed, request_of, requests, place, Gives, ManagerAnswers, Linearizes, EmptyTillW14, InRealTime}
use Rattle.meaning.proofs.Progress.{up_busy}
use Rattle.meaning.proofs.Progress.FirstWrite.{first_write_empty}
use Rattle.meaning.proofs.Manager.{manager-answers, linearizable}
use Rattle.meaning.proofs.Manager.View.{status, asked}
use Rattle.meaning.proofs.Manager.Answers.{manager-status, manager_status_rest}
use Rattle.meaning.proofs.Manager.Linearizable.{in_real_time, reads_give, read_finished, one_block_each}
use Rattle.store.specs.Area.{decode}
use Rattle.store.specs.Calls.{call_area, Formatted, Grown}
use Rattle.store.proofs.Range.{good-ranged, formatted-good, formatted-fresh}
use Rattle.demands.specs.RefusalTables.{rests}
use Rattle.demands.specs.History.{AllWords, History, history}
use Rattle.demands.proofs.Bridge.{order-decoded, begun_by-decoded, finished_by-decoded, after_call, grown-good, grown-inv}
use Rattle.demands.proofs.History.{history-decoded, areas_follow, words_first}

module _ (a : List ℕ) (f : Formatted a) (w : List Entry) (x : AllWords w) where
  pub area_manager_answers : (u : ℕ) → ManagerAnswers call_area decode a w u
  area_manager_answers u =
      let z =
      areas_follow a f w x
      (λ h. (l : List Answered) × Owed h.left u l × (managed initial u h.order ≡ of_manager (h.finished u ++ l)))
      (λ t n p d limits. let m = manager-answers t n p d limits w u in (m.rest_owed, m.owed, m.answers)) in
      record { rest_owed = z.0; owed = z.1; answers = z.2 }

  pub area-linearizable : Linearizes call_area decode a w
  area-linearizable =
      let g = formatted-good a f in
      let L = formatted-fresh a f (λ s. Linearizes call_store (λ s. s) s w) (λ t n p d limits. linearizable t n p d limits w) in
      record {
        asks =
            λ u. areas_follow a f w x
            (λ h. requests u (h.begun u) ≡ requests u h.order ++ requests u (pending u h.left))
            (λ t n p d limits. (linearizable t n p d limits w).asks u);
        answers = area_manager_answers;
        real_time =
            λ v v' split u i u' i' finished unbegun.
            let y = words_first v v' (subst AllWords (sym split) x) in
            rw (order-decoded a g w x)
            (L.real_time v v' split u i u' i' (rw (finished_by-decoded a g u v y) at finished)
            (rw (begun_by-decoded a g u' v y) at unbegun));
      }

  pub area_real_time :
      (v v' : List Entry) → v ++ v' ≡ w → (u i u' i' : ℕ) → i < length (of_manager (finished_by call_area decode a u v)) →
      length (requests u' (begun_by call_area decode a u' v)) ≤ i' →
      place (request_of u) (order call_area decode a w) i < place (request_of u') (order call_area decode a w) i'
  area_real_time = area-linearizable.real_time

  -- of all operations, levellings too
  pub area_in_real_time : InRealTime call_area decode a w
  area_in_real_time v v' split u i u' i' finished unbegun =
      let g = formatted-good a f in
      let L = formatted-fresh a f (λ s. InRealTime call_store (λ s. s) s w) (λ t n p d limits. in_real_time t n p d limits w) in
      let y = words_first v v' (subst AllWords (sym split) x) in
      rw (order-decoded a g w x)
      (L v v' split u i u' i' (rw (finished_by-decoded a g u v y) at finished) (rw (begun_by-decoded a g u' v y) at unbegun))

  -- A read of thread u that stands in the order after operations l is u's request number `length (requests u l)`, counted from 0.
  pub area_read_gives : (u : ℕ) (l : List Operation) (o : Operation) (l' : List Operation) →
      order call_area decode a w ≡ l ++ (o ∷ l') → o.op ≡ READ → o.thread ≡ u →
      length (requests u l) < length (of_manager (finished_by call_area decode a u w)) → (none : Answered) →
      (c : ℕ) × Gives o.number l c
      × (get_or (of_manager (finished_by call_area decode a u w)) (length (requests u l)) none ≡ record { op = READ; value = c })
  area_read_gives u l o l' is op thread finished none = (
    ebm_read o.number (obey_all initial l),
    reads_give o.number l,
    areas_follow a f w x
        (λ h. h.order ≡ l ++ (o ∷ l') → length (requests u l) < length (of_manager (h.finished u)) →
        get_or (of_manager (h.finished u)) (length (requests u l)) none
        ≡ record { op = READ; value = ebm_read o.number (obey_all initial l) })
        (λ t n p d limits is finished. read_finished t n p d limits w u l o l' is op thread finished none) is finished,
  )

  -- of number k: whether it is mapped, and what its block holds
  area-keeps : (k : ℕ) →
      ((v : ℕ) → held Writer v ((decode (run call_area a w)).locks k) ≡ true → leaves_alone ((decode (run call_area a w)).thread v) ≡ true) →
      status (decode (run call_area a w)) k ≡ asked k (obey_all initial (order call_area decode a w))
  area-keeps k =
      areas_follow a f w x
      (λ h. ((v : ℕ) → held Writer v (h.left.locks k) ≡ true → leaves_alone (h.left.thread v) ≡ true) →
      status h.left k ≡ asked k (obey_all initial h.order))
      (λ t n p d limits. manager-status t n p d limits w k)

  area_keeps_rest : ((v : ℕ) → rests (run call_area a w) v ≡ true) → (k : ℕ) →
      status (decode (run call_area a w)) k ≡ asked k (obey_all initial (order call_area decode a w))
  area_keeps_rest =
      areas_follow a f w x
      (λ h. ((v : ℕ) → is_idle (h.left.thread v) ≡ true) → (k : ℕ) → status h.left k ≡ asked k (obey_all initial h.order))
      (λ t n p d limits. manager_status_rest t n p d limits w)

  pub area_manager_holds : (k : ℕ) →
      ((v : ℕ) → held Writer v ((decode (run call_area a w)).locks k) ≡ true → leaves_alone ((decode (run call_area a w)).thread v) ≡ true) →
      kept (decode (run call_area a w)) k ≡ ebm_read k (obey_all initial (order call_area decode a w))
  area_manager_holds k alone = ap (λ x. x.content) (area-keeps k alone)

  -- a number that 0 was written to is mapped, and an unmapped one isn't: 01, "Sizes and the store area" and "The machine"
  pub area_manager_maps : (k : ℕ) →
      ((v : ℕ) → held Writer v ((decode (run call_area a w)).locks k) ≡ true → leaves_alone ((decode (run call_area a w)).thread v) ≡ true) →
      is_number_mapped (decode (run call_area a w)) k ≡ (obey_all initial (order call_area decode a w)).mapped k
  area_manager_maps k alone = ap (λ x. x.mapped) (area-keeps k alone)

  -- and at rest of every number
  pub area_manager_holds_rest : ((v : ℕ) → rests (run call_area a w) v ≡ true) → (k : ℕ) →
      kept (decode (run call_area a w)) k ≡ ebm_read k (obey_all initial (order call_area decode a w))
  area_manager_holds_rest rest k = ap (λ x. x.content) (area_keeps_rest rest k)

  pub area_manager_maps_rest : ((v : ℕ) → rests (run call_area a w) v ≡ true) → (k : ℕ) →
      is_number_mapped (decode (run call_area a w)) k ≡ (obey_all initial (order call_area decode a w)).mapped k
  area_manager_maps_rest rest k = ap (λ x. x.mapped) (area_keeps_rest rest k)

pub grown_one_block_each : (a : List ℕ) → Grown a → (k k' : ℕ) → free ((decode a).map k) ≡ false → free ((decode a).map k') ≡ false →
    (k ≡ k' → ⊥) → named ((decode a).map k) ≡ named ((decode a).map k') → ⊥
grown_one_block_each a g = one_block_each (decode a) (grown-inv a g)

-- W8 of a grown area always goes and empties the block; w is any schedule after it
pub grown_first_write_empty : (a : List ℕ) → Grown a → (t : ℕ) → ((decode a).thread t).op ≡ WRITE → ((decode a).thread t).line ≡ 8 →
    (w : List Entry) → AllWords w → EmptyTillW14 call_area decode (call_area a (step t)).after w t
grown_first_write_empty a g t op line w x =
    let good = grown-good a g in
    let below = (up_busy (decode a) (grown-inv a g) (λ r. eqb r.op WRITE) refl t (rw op)).0 in
    let sizes = (good-ranged a good).sizes in
    let m = after_call a good (step t) (omega arith) in
    subst (λ (h : History). h.finished t ≡ [] → (h.left.thread t).line ≤ 14 → h.left.content (h.left.thread t).p ≡ empty)
    (sym (history-decoded (call_area a (step t)).after m.good w x
    ∙ ap (λ (s : Store). history call_store (λ s. s) s w) m.decoded))
    (first_write_empty (decode a) (grown-inv a g) t op line w)
