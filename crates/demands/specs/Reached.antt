-- What the demands' theorems are not empty of, as data: areas grown from fresh at which two threads meet, operations that overlap, a block
-- that is written again, and single steps on areas made by hand.
use Rattle.std.specs.Prelude.{Bool, true, false, ◌&&◌, List, [], ◌∷◌, ℕ, zero, suc, ◌+◌, replicate, eqb}
use Rattle.meaning.specs.Numbers.{WENT, FINISHED, BLOCKED}
use Rattle.meaning.specs.Programs.{WRITE, READ, UNMAP, LEVEL}
use Rattle.meaning.specs.Call.{Reply, Entry, begin, step}
use Rattle.meaning.specs.Schedule.{Operation, operation, Answered, run, order, finished_by, steps}
use Rattle.meaning.specs.Demands.{one_by_one}
use Rattle.store.specs.Layout.{threads_at, size}
use Rattle.store.specs.Area.{bytes, decode}
use Rattle.store.specs.Calls.{format_area, call_area, step_area}
use Rattle.demands.specs.RefusalTables.{rests}
use Rattle.demands.specs.NeedSamples.{in_p, made, header_at, with}

-- ---- two threads that meet

-- a thread that is to step: where it stands, and the numbers of its step before and after the other's
pub record Passing : Type 0 where
  pub op : ℕ
  pub line : ℕ
  pub first : ℕ
  pub second : ℕ

-- threads 0 and 1 step, in the one order and in the other; alike: the bytes are the same at the end
pub record Passed : Type 0 where
  pub zeroth : Passing
  pub other : Passing
  pub alike : Bool

-- a format and a schedule, and what must come of threads 0 and 1 then
pub record Meeting : Type 0 where
  pub t : ℕ
  pub n : ℕ
  pub p : ℕ
  pub d : ℕ
  pub before : List Entry
  pub comes : Passed

-- an area of bytes that are all 255, formatted
abbrev pub formed : ℕ → ℕ → ℕ → ℕ → Reply (List ℕ)
formed t n p d = format_area (replicate (size t n p) 255) t n p d

-- the area where the threads meet
abbrev pub reached : Meeting → List ℕ
reached m = run call_area (formed m.t m.n m.p m.d).after m.before

abbrev pub same_bytes : List ℕ → List ℕ → Bool
same_bytes [] [] = true
same_bytes [] (y ∷ l) = false
same_bytes (x ∷ k) [] = false
same_bytes (x ∷ k) (y ∷ l) = eqb x y && same_bytes k l

abbrev pub passing : List ℕ → ℕ → ℕ → Passing
passing a t u =
    record {
      op = ((decode a).thread t).op;
      line = ((decode a).thread t).line;
      first = (step_area a t).number;
      second = (step_area (step_area a u).after t).number;
    }

abbrev pub meet : List ℕ → Passed
meet a =
    record {
      zeroth = passing a 0 1;
      other = passing a 1 0;
      alike = same_bytes (step_area (step_area a 0).after 1).after (step_area (step_area a 1).after 0).after;
    }

-- how meetings are written

abbrev pub at : ℕ → ℕ → ℕ → ℕ → Passing
at op line first second = record { op = op; line = line; first = first; second = second }

-- thread t begins an operation and takes so many steps
abbrev pub does : ℕ → ℕ → ℕ → ℕ → ℕ → List Entry → List Entry
does t op n c count rest = begin t op n c ∷ steps count t rest

unfoldable pub meetings : List Meeting
meetings =
    -- in the middle of a write of number 0, on block 1, and of a levelling that moves number 1 from block 0 to block 2
    record {
      t = 2;
      n = 3;
      p = 4;
      d = 1;
      before = does 1 WRITE 1 5 16 (does 0 WRITE 0 7 13 (does 1 WRITE 2 6 16 (does 1 UNMAP 2 0 11 (does 1 LEVEL 0 0 11 []))));
      comes = record { zeroth = at WRITE 14 WENT WENT; other = at LEVEL 12 WENT WENT; alike = true };
    }
    -- a read that finishes, and a levelling that chooses
    ∷ record {
      t = 2;
      n = 1;
      p = 2;
      d = 1;
      before = does 0 READ 0 0 2 (does 1 LEVEL 0 0 2 []);
      comes = record { zeroth = at READ 6 FINISHED FINISHED; other = at LEVEL 3 WENT WENT; alike = true };
    }
    -- two writes that are about to take H: whoever comes second is BLOCKED
    ∷ record {
      t = 2;
      n = 1;
      p = 2;
      d = 1;
      before = does 0 WRITE 0 7 0 (does 1 WRITE 0 8 0 []);
      comes = record { zeroth = at WRITE 1 WENT BLOCKED; other = at WRITE 1 WENT BLOCKED; alike = false };
    }
    -- two reads that are about to take the lock of number 0: both go
    ∷ record {
      t = 2;
      n = 1;
      p = 2;
      d = 1;
      before = does 0 READ 0 0 0 (does 1 READ 0 0 0 []);
      comes = record { zeroth = at READ 1 WENT WENT; other = at READ 1 WENT WENT; alike = true };
    }
    -- a read that lets go of a block, and one that is about to own it
    ∷ record {
      t = 2;
      n = 1;
      p = 2;
      d = 1;
      before = does 0 WRITE 0 7 16 (does 0 READ 0 0 4 (does 1 READ 0 0 2 []));
      comes = record { zeroth = at READ 5 WENT WENT; other = at READ 3 WENT WENT; alike = true };
    }
    -- a read and a write that are about to take the lock of number 0
    ∷ record {
      t = 2;
      n = 1;
      p = 2;
      d = 1;
      before = does 0 READ 0 0 0 (does 1 WRITE 0 8 1 []);
      comes = record { zeroth = at READ 1 WENT BLOCKED; other = at WRITE 2 WENT BLOCKED; alike = false };
    }
    ∷ []

-- what holds of each meeting
abbrev pub Each : (Meeting → Type 0) → List Meeting → Type 0
Each A [] = Unit {0}
Each A (m ∷ l) = A m × Each A l

-- ---- operations that overlap

-- what a schedule comes to, on a formatted area of two threads: the operations in the order of their last locks, the answers of each
-- thread, which of the two is idle, and whether the bytes are those that the operations leave one at a time
pub record Overlapped : Type 0 where
  pub order : List Operation
  pub zeroth : List Answered
  pub other : List Answered
  pub zeroth_rests : Bool
  pub other_rests : Bool
  pub alike : Bool

abbrev pub overlap : List ℕ → List Entry → Overlapped
overlap a w =
    record {
      order = order call_area decode a w;
      zeroth = finished_by call_area decode a 0 w;
      other = finished_by call_area decode a 1 w;
      zeroth_rests = rests (run call_area a w) 0;
      other_rests = rests (run call_area a w) 1;
      alike = same_bytes (run call_area a w) (run call_area a (one_by_one call_area decode a w));
    }

abbrev pub answered : ℕ → ℕ → Answered
answered op value = record { op = op; value = value }

-- Thread 0 begins a write and takes H; thread 1 begins a read of the same number and takes its lock first, so that the write is BLOCKED at
-- W2. The read finishes with empty, and then the write; a second read gives the word.
abbrev pub overtaking : List Entry
overtaking = begin 0 WRITE 0 7 ∷ step 0 ∷ begin 1 READ 0 0 ∷ step 1 ∷ step 0 ∷ steps 2 1 (steps 15 0 (does 1 READ 0 0 6 []))

-- the first read stands before the write that was begun before it
abbrev pub overtaken : Overlapped
overtaken =
    record {
      order = operation 1 READ 0 0 ∷ operation 0 WRITE 0 7 ∷ operation 1 READ 0 0 ∷ [];
      zeroth = answered WRITE 0 ∷ [];
      other = answered READ 0 ∷ answered READ 7 ∷ [];
      zeroth_rests = true;
      other_rests = true;
      alike = true;
    }

-- 01, the end of "The lines", on U10: thread 0 writes number 0 and unmaps it, up to U10; then thread 1 reads it.
abbrev pub slipping : List Entry
slipping = does 0 WRITE 0 7 16 (does 0 UNMAP 0 0 10 (does 1 READ 0 0 3 []))

-- the read stands after the unmap, which is still open and has its place; run whole, the unmap would have released H
abbrev pub slipped : Overlapped
slipped =
    record {
      order = operation 0 WRITE 0 7 ∷ operation 0 UNMAP 0 0 ∷ operation 1 READ 0 0 ∷ [];
      zeroth = answered WRITE 0 ∷ [];
      other = answered READ 0 ∷ [];
      zeroth_rests = false;
      other_rests = true;
      alike = false;
    }

-- ---- a block that is written again

-- a step of thread 0: the line at which the thread stands, the step's number, and the content of the block in its register p before it and
-- after it
pub record Stepped : Type 0 where
  pub op : ℕ
  pub line : ℕ
  pub number : ℕ
  pub before : ℕ
  pub after : ℕ

abbrev pub contents : ℕ → List ℕ → List Stepped
contents zero a = []
contents (suc k) a =
    record {
      op = ((decode a).thread 0).op;
      line = ((decode a).thread 0).line;
      number = (step_area a 0).number;
      before = (decode a).content ((decode a).thread 0).p;
      after = (decode (step_area a 0).after).content ((decode a).thread 0).p;
    }
    ∷ contents k (step_area a 0).after

-- number 0 is written with 7 and unmapped; it is to be written with 8, and W7 is done
abbrev pub reusing : List Entry
reusing = does 0 WRITE 0 7 16 (does 0 UNMAP 0 0 11 (does 0 WRITE 0 8 7 []))

abbrev pub goes_at : ℕ → ℕ → ℕ → Stepped
goes_at line before after = record { op = WRITE; line = line; number = WENT; before = before; after = after }

-- the freed block still holds its content: 7 until W8, then empty until W14
abbrev pub reused : List Stepped
reused =
    goes_at 8 7 0
    ∷ goes_at 9 0 0
    ∷ goes_at 10 0 0
    ∷ goes_at 11 0 0
    ∷ goes_at 12 0 0
    ∷ goes_at 13 0 0
    ∷ goes_at 14 0 8
    ∷ []

-- ---- one step on an area made by hand

-- the wear of p after a step of thread 0 at a line at which it frees p, from this wear on
abbrev pub freed_from : ℕ → ℕ → ℕ → ℕ
freed_from op line wear =
    (decode (step_area (bytes (with (made 1 65536 op line) ((header_at in_p + 2, wear) ∷ []))) 0).after).wear in_p

-- three blocks: 0 is free, 1 is number 1's, and 2, the last, number 0's; their wear is 4, 5 and x. Thread 0 is at W3 with number 0, whose word of the
-- map is w, and with 1 in register p; it holds and owns nothing
abbrev pub looking_up : ℕ → ℕ → List ℕ
looking_up w x =
    1 ∷ 2 ∷ 3 ∷ 1 ∷ 0 ∷ 0  -- the four sizes, H and the headers' owner
    ∷ WRITE ∷ 3 ∷ 0 ∷ 7 ∷ 1 ∷ 0 ∷ 0  -- thread 0
    ∷ w ∷ 2 ∷ 0 ∷ 0  -- number 1 is on block 1; the locks are free
    ∷ 0 ∷ 0 ∷ 4 ∷ 0
    ∷ 2 ∷ 0 ∷ 5 ∷ 0
    ∷ 1 ∷ 0 ∷ x ∷ 0
    ∷ []

-- the number of its step; then line and p after it, and the wear of the three blocks
abbrev pub looked_up : ℕ → ℕ → List ℕ
looked_up w x =
    let y = step_area (bytes (looking_up w x)) 0 in
    let s = decode y.after in
    y.number ∷ (s.thread 0).line ∷ (s.thread 0).p ∷ s.wear 0 ∷ s.wear 1 ∷ s.wear 2 ∷ []

-- number and value of a step of thread 0 at a line, with this word in the number's lock, 7 in register c and this in register h
abbrev pub finished_with : ℕ → ℕ → ℕ → ℕ → ℕ × ℕ
finished_with lock op line h =
    let x = step_area (bytes (with (made 1 lock op line) ((threads_at + 3, 7) ∷ (threads_at + 6, h) ∷ []))) 0 in
    (x.number, x.value)

-- five blocks with ties: 0 and 1 are free with wear 3, 2 and 3 are mapped with wear 1, 4 is free with wear 2. Thread 0 is at L3 and owns the
-- headers
abbrev pub tied : List ℕ
tied =
    1 ∷ 2 ∷ 5 ∷ 2 ∷ 1 ∷ 1  -- the four sizes, H and the headers' owner
    ∷ LEVEL ∷ 3 ∷ 0 ∷ 0 ∷ 0 ∷ 0 ∷ 0  -- thread 0
    ∷ 3 ∷ 4 ∷ 0 ∷ 0  -- numbers 0 and 1 are on blocks 2 and 3; their locks
    ∷ 0 ∷ 0 ∷ 3 ∷ 0  -- block 0
    ∷ 0 ∷ 0 ∷ 3 ∷ 0
    ∷ 1 ∷ 0 ∷ 1 ∷ 0
    ∷ 2 ∷ 0 ∷ 1 ∷ 0
    ∷ 0 ∷ 0 ∷ 2 ∷ 0
    ∷ []

-- p and q after its step
abbrev pub choice : List ℕ → ℕ × ℕ
choice words =
    let r = (decode (step_area (bytes words) 0).after).thread 0 in
    (r.p, r.q)
