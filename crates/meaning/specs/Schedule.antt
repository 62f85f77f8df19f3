-- Schedules, what they leave and answer, and the order of last locks: 01, "The machine" and the end of "The lines".
-- All of it is over any kind of store S with a call that replies and a way to see the store in it: stores themselves, and areas of bytes.
use Rattle.std.specs.Prelude.{◌≡◌, Bool, true, false, not, cond, ◌&&◌, ◌||◌, List, [], ◌∷◌, ◌⊎◌, ℕ, zero, suc, ◌≤◌, eqb, ltb}
use Rattle.meaning.specs.declared.Kind.{Kind}
use Rattle.meaning.specs.declared.Act.{Act}
use Rattle.meaning.specs.declared.Act.TheVariants.{TakeH, TakeN}
use Rattle.meaning.specs.declared.Thread.{Thread}
use Rattle.meaning.specs.Numbers.{WENT, FINISHED}
use Rattle.meaning.specs.Limits.{most_word}
use Rattle.meaning.specs.Store.{Store}
use Rattle.meaning.specs.Programs.{WRITE, READ, LEVEL, last_line, act_at, last_take, unmoved_take}
use Rattle.meaning.specs.Choosing.{moves}
use Rattle.meaning.specs.Call.{Reply, Entry, begin, step, stored_n, stored_c}
use Rattle.meaning.specs.Manager.{Manager, ebm_write, ebm_read, ebm_unmap}

-- an operation that a thread has begun, with the number and the word that begin stored
pub record Operation : Type 0 where
  pub thread : ℕ
  pub op : ℕ
  pub number : ℕ
  pub word : ℕ

abbrev pub operation : ℕ → ℕ → ℕ → ℕ → Operation
operation t op n c = record { thread = t; op = op; number = stored_n op n; word = stored_c op c }

-- an operation that has finished, and its answer
pub record Answered : Type 0 where
  pub op : ℕ
  pub value : ℕ

-- x in front of a list where the test holds
abbrev pub emit : {A : Type 0} → Bool → A → List A → List A
emit true x l = x ∷ l
emit false x l = l

-- all numbers of the entry are words
abbrev pub Words : Entry → Type 0
Words (begin t op n c) = (t ≤ most_word) × (op ≤ most_word) × (n ≤ most_word) × (c ≤ most_word)
Words (step t) = t ≤ most_word

-- ---- the last lock

-- the act of a thread's next line
abbrev pub next_act : Thread → Act
next_act r = act_at r.op r.line

-- a thread with this record is about to take a lock: H, at W1, U1 and L1, or a number's, at W2, R1, U2 and L6
abbrev pub AtTake : Thread → Type 0
AtTake r = (next_act r ≡ TakeH) ⊎ ((κ : Kind) × (next_act r ≡ TakeN κ))

-- t's next step, if it goes, takes its last lock: it is at W2, R1, U2 or L6, or at L1 and would move nothing
abbrev pub takes_last : Store → Thread → Bool
takes_last s r =
    eqb r.line (last_take r.op)
    || eqb r.op LEVEL && eqb r.line unmoved_take && not (moves s.header s.wear s.blocks s.distance)

-- it has taken the last lock of any operation like it
abbrev pub past_last : Thread → Bool
past_last r = ltb (last_take r.op) r.line

-- a levelling that has H and hasn't come to L6: H was its last lock if nothing is moved
abbrev pub may_move : Thread → Bool
may_move r = eqb r.op LEVEL && ltb unmoved_take r.line && ltb r.line (last_take r.op)

-- the operation has its place: it is open, and has taken its last lock
abbrev pub placed : Store → Thread → Bool
placed s r = past_last r || may_move r && not (moves s.header s.wear s.blocks s.distance)

-- ---- schedules

module _ {S : Type 0} (call : S → Entry → Reply S) where
  abbrev pub run : S → List Entry → S
  run s [] = s
  run s (e ∷ w) = run (call s e).after w

  -- the numbers and values that come back, in order
  abbrev pub replies : S → List Entry → List (ℕ × ℕ)
  replies s [] = []
  replies s (e ∷ w) = ((call s e).number, (call s e).value) ∷ replies (call s e).after w

  -- 01, "grown from fresh": formatted, with WENT, and then called, as often as one likes
  pub data Grown (Fresh : S → Type 0) : S → Type 0 where
    formatted : {s : S} → Fresh s → Grown Fresh s
    called : {s : S} → Grown Fresh s → (e : Entry) → Words e → Grown Fresh (call s e).after

-- `seen s` is the store as it stands in s
module _ {S : Type 0} (call : S → Entry → Reply S) (seen : S → Store) where
  -- what one call puts in front of the order of last locks, of what a thread has begun, and of what it has finished
  abbrev pub placing : S → Entry → List Operation → List Operation
  placing s (begin u op n c) l = l
  placing s (step u) l =
      emit (eqb (call s (step u)).number WENT && takes_last (seen s) ((seen s).thread u))
      (operation u ((seen s).thread u).op ((seen s).thread u).n ((seen s).thread u).c) l

  abbrev pub starting : S → ℕ → Entry → List Operation → List Operation
  starting s t (begin u op n c) l = emit (eqb (call s (begin u op n c)).number WENT && eqb u t) (operation u op n c) l
  starting s t (step u) l = l

  abbrev pub finishing : S → ℕ → Entry → List Answered → List Answered
  finishing s t (begin u op n c) l = l
  finishing s t (step u) l =
      emit (eqb (call s (step u)).number FINISHED && eqb u t)
      (record { op = ((seen s).thread u).op; value = (call s (step u)).value }) l

  -- the operations that have taken their last lock, in the order in which they took it
  abbrev pub order : S → List Entry → List Operation
  order s [] = []
  order s (e ∷ w) = placing s e (order (call s e).after w)

  -- the operations that thread t has begun, in order
  abbrev pub begun_by : S → ℕ → List Entry → List Operation
  begun_by s t [] = []
  begun_by s t (e ∷ w) = starting s t e (begun_by (call s e).after t w)

  -- the operations that thread t has finished, in order
  abbrev pub finished_by : S → ℕ → List Entry → List Answered
  finished_by s t [] = []
  finished_by s t (e ∷ w) = finishing s t e (finished_by (call s e).after t w)

-- ---- one at a time

abbrev pub steps : ℕ → ℕ → List Entry → List Entry
steps zero t w = w
steps (suc k) t w = step t ∷ steps k t w

-- no program has more lines; a step past the end is refused as IDLE
abbrev pub longest : ℕ
longest = last_line LEVEL

-- the operation begun and run whole, and then the rest
abbrev pub whole : Operation → List Entry → List Entry
whole o w = begin o.thread o.op o.number o.word ∷ steps longest o.thread w

abbrev pub serial : List Operation → List Entry
serial [] = []
serial (o ∷ l) = whole o (serial l)

-- ---- the manager obeys operations

-- levelling changes nothing
abbrev pub obey : Operation → Manager → Manager
obey o m =
    cond (eqb o.op LEVEL) m
    (cond (eqb o.op WRITE) (ebm_write o.number o.word m)
    (cond (eqb o.op READ) m (ebm_unmap o.number m)))

abbrev pub obey_all : Manager → List Operation → Manager
obey_all m [] = m
obey_all m (o ∷ l) = obey_all (obey o m) l

-- a write and an unmap are owed 0
abbrev pub owed : Operation → Manager → Answered
owed o m = record { op = o.op; value = cond (eqb o.op READ) (ebm_read o.number m) 0 }

-- the answers to thread t's reads, writes and unmaps
abbrev pub managed : Manager → ℕ → List Operation → List Answered
managed m t [] = []
managed m t (o ∷ l) = emit (eqb o.thread t && not (eqb o.op LEVEL)) (owed o m) (managed (obey o m) t l)

-- the answers that are no levelling's
abbrev pub of_manager : List Answered → List Answered
of_manager [] = []
of_manager (x ∷ l) = emit (not (eqb x.op LEVEL)) x (of_manager l)
