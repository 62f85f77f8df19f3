-- What demands 2 and 3 say of a schedule w that starts from s, over any kind of store, as in Schedule: stores, and areas of bytes.
use Rattle.std.specs.Prelude.{◌≡◌, Bool, true, false, not, cond, ◌&&◌, ◌||◌, List, [], ◌∷◌, ◌++◌, map, ◌↔◌, ℕ, zero, suc, ◌+◌, ◌<◌, ◌≤◌, eqb, length}
use Rattle.meaning.specs.declared.Thread.{Thread}
use Rattle.meaning.specs.Numbers.{WENT, FINISHED, IDLE}
use Rattle.meaning.specs.Store.{Store}
use Rattle.meaning.specs.Holding.{free, named}
use Rattle.meaning.specs.Programs.{WRITE, READ, LEVEL, last_line}
use Rattle.meaning.specs.Call.{Reply, Entry, step, is_idle}
use Rattle.meaning.specs.Manager.{empty, initial}
use Rattle.meaning.specs.Schedule.{Operation, operation, Answered, emit, takes_last, placed, run, order, begun_by, finished_by, longest, serial, managed, of_manager}

-- ---- what a store keeps

-- number k is mapped
abbrev pub is_number_mapped : Store → ℕ → Bool
is_number_mapped s k = not (free (s.map k))

-- what number k's block holds: 0, the empty content, where it is unmapped
abbrev pub kept : Store → ℕ → ℕ
kept s k = cond (free (s.map k)) empty (s.content (named (s.map k)))

-- a reader or a leveller, which leave what a number's block holds
abbrev pub leaves_alone : Thread → Bool
leaves_alone r = eqb r.op LEVEL || eqb r.op READ

-- ---- a thread's operations

-- those of a list that pass the test
abbrev pub those : (Operation → Bool) → List Operation → List Operation
those test [] = []
those test (o ∷ l) = emit (test o) o (those test l)

abbrev pub by_thread : ℕ → Operation → Bool
by_thread u o = eqb o.thread u

abbrev pub of_thread : ℕ → List Operation → List Operation
of_thread u = those (by_thread u)

-- which of the four each is
abbrev pub ops : List Operation → List ℕ
ops = map (λ o. o.op)

abbrev pub answered_ops : List Answered → List ℕ
answered_ops = map (λ x. x.op)

-- the operation that thread u has begun and that has no place in the order yet: one at most
abbrev pub pending : ℕ → Store → List Operation
pending u s =
    emit (not (is_idle (s.thread u)) && not (placed s (s.thread u)))
    (operation u (s.thread u).op (s.thread u).n (s.thread u).c) []

-- of the operation that thread u has not finished and that has its place: which of the four it is
abbrev pub placed_op : ℕ → Store → List ℕ
placed_op u s = emit (placed s (s.thread u)) (s.thread u).op []

-- l is what is owed to thread u: one answer, of its open operation, if that has its place
pub data Owed (s : Store) (u : ℕ) (l : List Answered) : Type 0 where
  none_owed : placed s (s.thread u) ≡ false → l ≡ [] → Owed s u l
  one_owed : placed s (s.thread u) ≡ true → (v : ℕ) → l ≡ record { op = (s.thread u).op; value = v } ∷ [] → Owed s u l

-- ---- reads, writes and unmaps: what the manager is asked for

-- of thread u's
abbrev pub request_of : ℕ → Operation → Bool
request_of u o = by_thread u o && not (eqb o.op LEVEL)

abbrev pub requests : ℕ → List Operation → List Operation
requests u = those (request_of u)

-- ---- places in the order

-- the place of number i of those that pass a test, counted from 0, if the next operation does or doesn't; `later j` is the place of number j
-- after it
abbrev pub place_from : Bool → ℕ → (ℕ → ℕ) → ℕ
place_from true zero later = 0
place_from true (suc i) later = suc (later i)
place_from false i later = suc (later i)

-- the place of number i of those that pass the test in a list, or the list's length where there are not so many
abbrev pub place : (Operation → Bool) → List Operation → ℕ → ℕ
place test [] i = 0
place test (o ∷ l) i = place_from (test o) i (place test l)

-- The call of e on s leaves s' and answers this number. By it thread t's operation gains its place exactly where the call is a step of t that
-- takes its last lock, and loses it exactly where the call is a step of t that finishes it.
pub record PlaceChanges (s s' : Store) (e : Entry) (number t : ℕ) : Type 0 where
  pub gained : ((placed s (s.thread t) ≡ false) × (placed s' (s'.thread t) ≡ true)) ↔
      ((e ≡ step t) × (number ≡ WENT) × (takes_last s (s.thread t) ≡ true))
  pub lost : ((placed s (s.thread t) ≡ true) × (placed s' (s'.thread t) ≡ false)) ↔ ((e ≡ step t) × (number ≡ FINISHED))

-- ---- what a read gives

-- no operation of the list passes the test
abbrev pub Without : (Operation → Bool) → List Operation → Type 0
Without test [] = Unit {0}
Without test (o ∷ l) = (test o ≡ false) × Without test l

abbrev pub writes : ℕ → Operation → Bool
writes k o = eqb o.op WRITE && eqb o.number k

-- a write or an unmap of k: neither a levelling nor a read
abbrev pub changes : ℕ → Operation → Bool
changes k o = not (eqb o.op LEVEL) && (not (eqb o.op READ) && eqb o.number k)

-- c is what a read of number k gives after operations l: the word of the last write of k, and empty if an unmap of k came after it or
-- if k was neither written nor unmapped
pub data Gives (k : ℕ) (l : List Operation) : ℕ → Type 0 where
  last_write : (before : List Operation) (o : Operation) (since : List Operation) → l ≡ before ++ (o ∷ since) → writes k o ≡ true →
      Without (changes k) since → Gives k l o.word
  last_unmap : (before : List Operation) (o : Operation) (since : List Operation) → l ≡ before ++ (o ∷ since) → changes k o ≡ true →
      writes k o ≡ false → Without (changes k) since → Gives k l empty
  untouched : Without (changes k) l → Gives k l empty

-- ---- operations run whole

-- x so many times, and then the rest
abbrev pub times : {A : Type 0} → ℕ → A → List A → List A
times zero x l = l
times (suc k) x l = x ∷ times k x l

-- The list is what operations reply that are run whole, one after the other: each begin goes, then steps go, fewer than the operation has
-- lines, then one finishes it, and the steps that are left of `longest` find the thread idle. Nothing waits, faults or is left open.
pub data RunsWhole : List Operation → List (ℕ × ℕ) → Type 0 where
  none_left : RunsWhole [] []
  begun_went_finished : {o : Operation} {l : List Operation} {rest : List (ℕ × ℕ)} (going value left : ℕ) →
      going < last_line o.op → going + 1 + left ≡ longest → RunsWhole l rest →
      RunsWhole (o ∷ l) ((WENT, 0) ∷ times going (WENT, 0) ((FINISHED, value) ∷ times left (IDLE, 0) rest))

-- ---- what is said

module _ {S : Type 0} (call : S → Entry → Reply S) (seen : S → Store) (s : S) (w : List Entry) where
  -- each once: thread u's operations in the order, and then the one that has no place yet, are those that it has begun; of those in the
  -- order all are finished, but for an open one that has its place
  pub record EachOnce (u : ℕ) : Type 0 where
    pub begun_once : begun_by call seen s u w ≡ of_thread u (order call seen s w) ++ pending u (seen (run call s w))
    pub finished_once : ops (of_thread u (order call seen s w)) ≡
        answered_ops (finished_by call seen s u w) ++ placed_op u (seen (run call s w))

  -- demand 2: the manager's answers to thread u, in the order of last locks, are what u has finished with and what is owed to it
  pub record ManagerAnswers (u : ℕ) : Type 0 where
    pub rest_owed : List Answered
    pub owed : Owed (seen (run call s w)) u rest_owed
    pub answers : managed initial u (order call seen s w) ≡ of_manager (finished_by call seen s u w ++ rest_owed)

  -- the order of last locks is a linearization of the schedule
  pub record Linearizes : Type 0 where
    -- L1: each thread's invocations, but for one that pends, are its operations in the order
    pub asks : (u : ℕ) → requests u (begun_by call seen s u w) ≡
        requests u (order call seen s w) ++ requests u (pending u (seen (run call s w)))
    -- L1: the manager's answers to them are its responses, and one more at most, that is owed
    pub answers : (u : ℕ) → ManagerAnswers u
    -- L2: what has finished in the first part v of the schedule stands before what has not begun there
    pub real_time : (v v' : List Entry) → v ++ v' ≡ w → (u i u' i' : ℕ) → i < length (of_manager (finished_by call seen s u v)) →
        length (requests u' (begun_by call seen s u' v)) ≤ i' →
        place (request_of u) (order call seen s w) i < place (request_of u') (order call seen s w) i'

  -- L2 of all operations, levellings too
  abbrev pub InRealTime : Type 0
  InRealTime = (v v' : List Entry) → v ++ v' ≡ w → (u i u' i' : ℕ) → i < length (finished_by call seen s u v) →
      length (begun_by call seen s u' v) ≤ i' →
      place (by_thread u) (order call seen s w) i < place (by_thread u') (order call seen s w) i'

  -- the operations of the order of last locks, run whole one after the other
  abbrev pub one_by_one : List Entry
  one_by_one = serial (order call seen s w)

  -- demand 3, second half: they leave the same, and each thread's operations answer the same
  pub record OneAtATime : Type 0 where
    pub leaves : run call s w ≡ run call s one_by_one
    pub answers : (u : ℕ) → finished_by call seen s u w ≡ finished_by call seen s u one_by_one

  -- finished or not: what thread u has finished with are the first of its answers there, and what is owed to it is the rest
  pub record AnswersSoFar (u : ℕ) : Type 0 where
    pub rest_owed : List Answered
    pub owed : Owed (seen (run call s w)) u rest_owed
    pub answers : finished_by call seen s u one_by_one ≡ finished_by call seen s u w ++ rest_owed

  -- W8 empties the content. Where s is what W8 of thread t left: as long as t finishes nothing and hasn't done W14, its block
  -- is empty.
  abbrev pub EmptyTillW14 : ℕ → Type 0
  EmptyTillW14 t =
      finished_by call seen s t w ≡ [] → ((seen (run call s w)).thread t).line ≤ 14 →
      (seen (run call s w)).content ((seen (run call s w)).thread t).p ≡ empty
