-- 02, §2: the wear sheet of a list of areas, as one definition over all blocks of all well-formed ones. How a tally comes to it, an area at a
-- time, is in Adding.
use Rattle.std.specs.Prelude.{cond, List, [], ◌∷◌, ◌++◌, ℕ, zero, suc, ◌+◌, ◌/◌, ◌%◌, min, max, length, eqb}
use Rattle.meaning.specs.Holding.{free}
use Rattle.meaning.specs.Store.{Store}
use Rattle.store.specs.Area.{decode, well_formed}

-- ---- the blocks that are seen

-- of a block the sheet looks at its header, for whether it is free, and at its wear
pub record Block : Type 0 where
  pub header : ℕ
  pub wear : ℕ

-- the first so many blocks of a store, the last of them first; no figure depends on the order
abbrev pub first_blocks : Store → ℕ → List Block
first_blocks s zero = []
first_blocks s (suc m) = record { header = s.header m; wear = s.wear m } ∷ first_blocks s m

abbrev pub store_blocks : Store → List Block
store_blocks s = first_blocks s s.blocks

-- all blocks of a well-formed area, and none of a malformed one
abbrev pub blocks_of : List ℕ → List Block
blocks_of a = cond (well_formed a) (store_blocks (decode a)) []

abbrev pub all_blocks : List (List ℕ) → List Block
all_blocks [] = []
all_blocks (a ∷ more) = blocks_of a ++ all_blocks more

-- ---- the figures

abbrev pub free_blocks : List Block → ℕ
free_blocks [] = 0
free_blocks (b ∷ bs) = cond (free b.header) 1 0 + free_blocks bs

abbrev pub sum_of_wear : List Block → ℕ
sum_of_wear [] = 0
sum_of_wear (b ∷ bs) = b.wear + sum_of_wear bs

-- of no blocks 0, which counts for nothing
abbrev pub least_wear : List Block → ℕ
least_wear [] = 0
least_wear (b ∷ []) = b.wear
least_wear (b ∷ c ∷ bs) = min b.wear (least_wear (c ∷ bs))

abbrev pub most_wear : List Block → ℕ
most_wear [] = 0
most_wear (b ∷ []) = b.wear
most_wear (b ∷ c ∷ bs) = max b.wear (most_wear (c ∷ bs))

abbrev pub malformed : List (List ℕ) → ℕ
malformed [] = 0
malformed (a ∷ more) = cond (well_formed a) 0 1 + malformed more

-- ---- the sheet

-- of the wear of the blocks that were seen: nothing where there was none; else the least and the most, and the mean as quotient and remainder
pub data Wear : Type 0 where
  none : Wear
  some : (least most mean rest : ℕ) → Wear

pub record Sheet : Type 0 where
  pub areas : ℕ
  pub skipped : ℕ
  pub blocks : ℕ
  pub free : ℕ
  pub sum : ℕ
  pub wear : Wear

abbrev pub wear_of : ℕ → ℕ → ℕ → ℕ → Wear
wear_of blocks least most sum = cond (eqb blocks 0) none (some least most (sum / blocks) (sum % blocks))

abbrev pub sheet_of : List (List ℕ) → Sheet
sheet_of areas =
    let bs = all_blocks areas in
    record {
      areas = length areas;
      skipped = malformed areas;
      blocks = length bs;
      free = free_blocks bs;
      sum = sum_of_wear bs;
      wear = wear_of (length bs) (least_wear bs) (most_wear bs) (sum_of_wear bs);
    }
