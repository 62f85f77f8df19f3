-- 01, "Choosing", said of the block that is chosen and not of the search for it: nothing here uses Choosing. A block is one of the first k;
-- its header is 0 where it is free, and it is "mapped" where that isn't so.
use Rattle.std.specs.Prelude.{◌≡◌, ◌↔◌, ℕ, ◌<◌, ◌≤◌}
use Rattle.std.specs.declared.option.Option.{Option}
use Rattle.std.specs.declared.option.Option.TheVariants as option

abbrev pub Free : (ℕ → ℕ) → ℕ → Type 0
Free header m = header m ≡ 0

abbrev pub Mapped : (ℕ → ℕ) → ℕ → Type 0
Mapped header m = header m ≡ 0 → ⊥

-- one of the first k blocks is such, or none is
abbrev pub Some : (ℕ → Type 0) → ℕ → Type 0
Some such k = (m : ℕ) × (m < k) × such m

abbrev pub None : (ℕ → Type 0) → ℕ → Type 0
None such k = (m : ℕ) → m < k → such m → ⊥

-- "the lowest-numbered free block"
pub record IsLowest (header : ℕ → ℕ) (m : ℕ) : Type 0 where
  pub is_free : Free header m
  pub lower : (j : ℕ) → j < m → Mapped header j

-- "to": a free block than which none has more wear; "lowest number on ties": one with a lower number has less
pub record IsTo (header wear : ℕ → ℕ) (k m : ℕ) : Type 0 where
  pub inside : m < k
  pub is_free : Free header m
  pub most : (j : ℕ) → j < k → Free header j → wear j ≤ wear m
  pub lower : (j : ℕ) → j < m → Free header j → wear j < wear m

-- "from": a mapped block than which none has less wear; "lowest number on ties": one with a lower number has more
pub record IsLeastWorn (header wear : ℕ → ℕ) (k m : ℕ) : Type 0 where
  pub inside : m < k
  pub is_mapped : Mapped header m
  pub least : (j : ℕ) → j < k → Mapped header j → wear m ≤ wear j
  pub lower : (j : ℕ) → j < m → Mapped header j → wear m < wear j

-- the number that a search for the lowest free block yields: a number below k exactly where that is the one, k where none is free
pub record YieldsLowest (header : ℕ → ℕ) (k number : ℕ) : Type 0 where
  pub one : (m : ℕ) → m < k → (number ≡ m) ↔ IsLowest header m
  pub below : (number < k) ↔ Some (Free header) k
  pub nobody : (number ≡ k) ↔ None (Free header) k

-- what a search finds: a block exactly where it is the one that is asked for, nobody exactly where no block may be chosen
pub record Chooses (found : Option ℕ) (is : ℕ → Type 0) (such : ℕ → Type 0) (k : ℕ) : Type 0 where
  pub one : (m : ℕ) → (found ≡ option.Some m) ↔ is m
  pub nobody : (found ≡ option.None) ↔ None such k
