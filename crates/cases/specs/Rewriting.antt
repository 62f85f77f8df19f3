-- 02, §1: a write that finds its number mapped counts one erase of its block, at W3. Cases of the form of 01's, one list and one theorem, proved by
-- computing the definitions. Assumes nothing.
use Rattle.std.specs.Prelude.{◌≡◌, refl, List, [], ◌∷◌, map, ℕ}
use Rattle.meaning.specs.Numbers.{WENT}
use Rattle.meaning.specs.Programs.{WRITE, READ, UNMAP, LEVEL}
use Rattle.store.specs.Area.{well_formed}
use Rattle.cases.specs.Cases.{Exchange, Case, exactly, expected, happens, accepted, to_its_end}

-- a case of one number and two blocks, with block 0's content and wear at the end
abbrev pub leaves : ℕ → ℕ → List Exchange → Case
leaves content wear exchanges =
    record {
      t = 1;
      n = 1;
      p = 2;
      d = 1;
      number = WENT;
      exchanges = exchanges;
      end =
          exactly
          (1 ∷ 1 ∷ 2 ∷ 1 ∷ 0 ∷ 0  -- the four sizes, H and the headers' owner
          ∷ 0 ∷ 0 ∷ 0 ∷ 0 ∷ 0 ∷ 0 ∷ 0  -- thread 0 is idle
          ∷ 1 ∷ 0  -- number 0 is on block 0; its lock is free
          ∷ 1 ∷ content ∷ wear ∷ 0  -- block 0
          ∷ 0 ∷ 0 ∷ 0 ∷ 0  -- block 1 was never used
          ∷ []);
    }

-- numbers 0 and 1 come to blocks 0 and 1
abbrev pub both : List Exchange → List Exchange
both rest = to_its_end WRITE 0 7 16 0 (to_its_end WRITE 1 9 16 0 rest)

-- a number that is mapped is written again
abbrev pub again : ℕ → List Exchange → List Exchange
again n rest = to_its_end WRITE n 8 8 0 rest

-- number 0 is unmapped: its block is free, and worn once more
abbrev pub giving_up : List Exchange → List Exchange
giving_up rest = to_its_end UNMAP 0 0 11 0 rest

-- a levelling that moves number 1, and one that moves nothing
abbrev pub moves : List Exchange → List Exchange
moves rest = to_its_end LEVEL 0 0 18 1 rest

abbrev pub stays : List Exchange → List Exchange
stays rest = to_its_end LEVEL 0 0 7 0 rest

unfoldable pub rewritten : List Case
rewritten =
    leaves 7 0 (to_its_end WRITE 0 7 16 0 [])  -- a first write wears nothing
    ∷ leaves 8 1 (to_its_end WRITE 0 7 16 0 (again 0 []))  -- a second one: 8 steps, wear 1
    -- from here on D=2. Block 0 is free with wear 1, too little
    ∷ accepted 1 2 3 2 (both (giving_up (stays [])))
    -- with wear 2, since number 0 was rewritten: number 1 moves there
    ∷ accepted 1 2 3 2 (both (again 0 (giving_up (moves (to_its_end READ 1 0 6 9 [])))))
    -- too little again, since number 1 was rewritten as well
    ∷ accepted 1 2 3 2 (both (again 0 (again 1 (giving_up (stays [])))))
    ∷ []

pub rewritten_hold : map happens rewritten ≡ map expected rewritten
unfolding rewritten well_formed
rewritten_hold = refl
