-- 01, "Numbers given back" and "The lines", by their numerals: a call on bytes for each number of the table, number and value packed, and the four
-- operations. No number of the table and no operation is named here, so that two names exchanged are not exchanged here too. Proved by
-- computing the definitions. Assumes nothing.
use Rattle.std.specs.Prelude.{◌≡◌, refl, List, [], ◌∷◌, map, ℕ, replicate, set}
use Rattle.meaning.specs.Numbers.{packed}
use Rattle.meaning.specs.Call.{Reply, Entry, begin, step}
use Rattle.meaning.specs.Schedule.{run, steps}
use Rattle.store.specs.Area.{well_formed}
use Rattle.store.specs.Calls.{format_area, call_area, begin_area, step_area}

-- the 120 bytes of an area with T=2, N=1 and P=2, all of them 255
abbrev pub blank : List ℕ
blank = replicate 120 255

-- formatted with these sizes and D=1, and then these calls
abbrev pub after : List Entry → List ℕ
after = run call_area (format_area blank 2 1 2 1).after

-- ---- the table

-- a call for each number of the table, in its order
abbrev pub given : List (Reply (List ℕ))
given =
    format_area blank 2 1 2 1  -- 0 WENT
    ∷ step_area (after (begin 0 2 0 0 ∷ steps 2 0 [])) 0  -- 1 FINISHED: the last step of a read on fresh
    ∷ step_area (after (begin 0 1 0 0 ∷ begin 1 1 0 0 ∷ step 0 ∷ [])) 1  -- 2 BLOCKED: thread 0 has taken H
    ∷ step_area blank 0  -- 10 SHAPE: T is no size
    ∷ begin_area (after []) 2 2 0 0  -- 11 THREAD: thread 2 of 2
    ∷ begin_area (after (begin 0 2 0 0 ∷ [])) 0 2 0 0  -- 12 BUSY: thread 0 has begun
    ∷ step_area (after []) 0  -- 13 IDLE: thread 0 hasn't begun
    ∷ begin_area (after []) 0 2 1 0  -- 14 LOGICAL: number 1 of 1
    ∷ begin_area (after []) 0 5 0 0  -- 15 OPERATION: 5 is none
    ∷ step_area (set (set (after []) 24 1) 28 12) 0  -- 16 FAULT: made by hand, thread 0 at W12 without H
    ∷ format_area blank 0 1 2 1  -- 17 LIMITS: T=0
    ∷ []

pub numbers_given : map (λ r. r.number) given ≡ 0 ∷ 1 ∷ 2 ∷ 10 ∷ 11 ∷ 12 ∷ 13 ∷ 14 ∷ 15 ∷ 16 ∷ 17 ∷ []
unfolding well_formed
numbers_given = refl

-- ---- "number times 4,294,967,296 plus value"

abbrev pub together : Reply (List ℕ) → ℕ
together r = packed r.number r.value

-- BLOCKED; and FINISHED with 7, a read of what was written
pub packed_given :
    together (step_area (after (begin 0 1 0 0 ∷ begin 1 1 0 0 ∷ step 0 ∷ [])) 1)
    ∷ together (step_area (after (begin 0 1 0 7 ∷ steps 16 0 (begin 0 2 0 0 ∷ steps 5 0 []))) 0)
    ∷ []
    ≡ 8589934592 ∷ 4294967303 ∷ []
unfolding well_formed
packed_given = refl

-- ---- the operations

-- the numbers of two steps of an operation on fresh, begun by its number, after so many others
abbrev pub last_two : ℕ → ℕ → List ℕ
last_two op before =
    (step_area (after (begin 0 op 0 7 ∷ steps before 0 [])) 0).number
    ∷ (step_area (after (begin 0 op 0 7 ∷ steps before 0 (step 0 ∷ []))) 0).number
    ∷ []

-- write is 1 and has 16 steps, read 2 and 3, unmap 3 and 5, level 4 and 7; a last step gives 1 and the one before it 0
pub operations_given :
    last_two 1 14 ∷ last_two 2 1 ∷ last_two 3 3 ∷ last_two 4 5 ∷ [] ≡ (0 ∷ 1 ∷ []) ∷ (0 ∷ 1 ∷ []) ∷ (0 ∷ 1 ∷ []) ∷ (0 ∷ 1 ∷ []) ∷ []
unfolding well_formed
operations_given = refl
