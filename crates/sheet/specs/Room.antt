-- What contracts between our own functions cite: what they may take for granted of a tally, and the blocks as the area's words have them.
use Rattle.std.specs.Prelude.{List, [], ◌∷◌, ℕ, zero, suc, ◌+◌, ◌*◌, ◌≤◌}
use Rattle.meaning.specs.Limits.{most_blocks, most_word}
use Rattle.store.specs.Layout.{block_words}
use Rattle.sheet.specs.declared.Tally.{Tally}
use Rattle.sheet.specs.Sheet.{Block}
use Rattle.sheet.specs.Adding.{most_areas}

-- so many blocks can be added to the tally: it has at most 200 areas of 512 blocks each then
pub record Room (t : Tally) (count : ℕ) : Type 0 where
  pub few : t.blocks + count ≤ most_areas * most_blocks
  pub free : t.free ≤ t.blocks
  pub sum : t.sum ≤ most_word * t.blocks

-- the first so many blocks of those whose records begin at word `from`, the last of them first
abbrev pub rows_of : (ℕ → ℕ) → ℕ → ℕ → List Block
rows_of at from zero = []
rows_of at from (suc k) =
    record { header = at (from + block_words * k); wear = at (from + 2 + block_words * k) } ∷ rows_of at from k
