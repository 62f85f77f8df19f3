-- 01, "Choosing". A search goes over the first so many blocks and takes the tables that it looks at, not the store.
use Rattle.std.specs.Prelude.{Bool, true, false, not, cond, ℕ, zero, suc, ◌+◌, eqb, ltb, Option, Some, None}
use Rattle.meaning.specs.Holding.{free}

-- m is the lowest free block of the first k, or k where there is none; what it is of the first k + 1
abbrev pub lowest_next : Bool → ℕ → ℕ → ℕ
lowest_next free? k m = cond (ltb m k) m (cond free? k (suc k))

-- "the lowest-numbered free block" of the first so many, or their count where there is none
abbrev pub lowest_free : (ℕ → ℕ) → ℕ → ℕ
lowest_free header zero = zero
lowest_free header (suc k) = lowest_next (free (header k)) k (lowest_free header k)

-- k takes the place of the best so far where it is eligible and beats it: "lowest number on ties"
abbrev pub challenge : Bool → (ℕ → ℕ → Bool) → ℕ → Option ℕ → Option ℕ
challenge false beats k best = best
challenge true beats k None = Some k
challenge true beats k (Some m) = cond (beats k m) (Some k) (Some m)

abbrev pub best : (ℕ → Bool) → (ℕ → ℕ → Bool) → ℕ → Option ℕ
best eligible beats zero = None
best eligible beats (suc k) = challenge (eligible k) beats k (best eligible beats k)

-- "to", the most worn of the free blocks
abbrev pub to_block : (ℕ → ℕ) → (ℕ → ℕ) → ℕ → Option ℕ
to_block header wear = best (λ k. free (header k)) (λ k m. ltb (wear m) (wear k))

-- "from", the least worn of the mapped blocks, which are those that aren't free
abbrev pub least_worn : (ℕ → ℕ) → (ℕ → ℕ) → ℕ → Option ℕ
least_worn header wear = best (λ k. not (free (header k))) (λ k m. ltb (wear k) (wear m))

-- "from" in the end: "to" itself, which says that nothing is moved, where nothing is mapped or the wear of "to" doesn't reach that of "from" and D
abbrev pub from_block : (ℕ → ℕ) → ℕ → ℕ → Option ℕ → ℕ
from_block wear distance to None = to
from_block wear distance to (Some f) = cond (ltb (wear to) (wear f + distance)) to f

-- a levelling that chooses now moves a block: from and to differ
abbrev pub moves_to : (ℕ → ℕ) → ℕ → Option ℕ → Option ℕ → Bool
moves_to wear distance None found = false
moves_to wear distance (Some to) found = not (eqb (from_block wear distance to found) to)

abbrev pub moves : (ℕ → ℕ) → (ℕ → ℕ) → ℕ → ℕ → Bool
moves header wear blocks distance =
    moves_to wear distance (to_block header wear blocks) (least_worn header wear blocks)
