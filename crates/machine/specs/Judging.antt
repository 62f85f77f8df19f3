-- What the functions that judge a step take for granted, and what the searches go by.
use Rattle.std.specs.Prelude.{◌≡◌, Bool, true, false, Option, None, Some, ltb, ℕ, ◌<◌, ◌≤◌}
use Rattle.meaning.specs.declared.Thread.{Thread}
use Rattle.meaning.specs.Limits.{most_threads, most_numbers, most_blocks, most_word}
use Rattle.meaning.specs.Store.{Store}
use Rattle.meaning.specs.Programs.{LEVEL, last_line}
use Rattle.meaning.specs.declared.Verdict.{Verdict}
use Rattle.meaning.specs.Choosing.{lowest_free, to_block, least_worn}
use Rattle.meaning.specs.Step.{need, next, set_p, choosing, nothing}

-- ---- searches

-- The keys that are given to the first so many blocks rank them: a block in question has one, no other has, and of two in question that with
-- the lower key beats the other.
pub record Ranks (gives : ℕ → Option ℕ → Type 0) (eligible : ℕ → Bool) (beats : ℕ → ℕ → Bool) (blocks : ℕ) : Type 0 where
  pub without : (k : ℕ) → k < blocks → gives k None → eligible k ≡ false
  pub with_key : (k w : ℕ) → k < blocks → gives k (Some w) → eligible k ≡ true
  pub order : (k m w v : ℕ) → k < blocks → m < blocks → gives k (Some w) → gives m (Some v) → beats k m ≡ ltb w v

-- ---- lines

-- W5's verdict and L3's, where the headers are owned
abbrev pub picked_of : Store → Thread → Verdict
picked_of s r =
    need (ltb (lowest_free s.header s.blocks) s.blocks) (next (set_p (lowest_free s.header s.blocks) r) nothing)

abbrev pub chosen_of : Store → Thread → Verdict
chosen_of s r = choosing s.wear s.distance r (to_block s.header s.wear s.blocks) (least_worn s.header s.wear s.blocks)

-- the numbers of a working thread's record, as constants bound them
pub record Steady (t : ℕ) (r : Thread) : Type 0 where
  pub thread : t < most_threads
  pub line : r.line < most_word
  pub n : r.n < most_numbers
  pub p : r.p < most_blocks
  pub q : r.q < most_blocks

-- the record stands at a line of its operation
pub record AtLine (r : Thread) : Type 0 where
  pub op : r.op ≤ LEVEL
  pub low : 0 < r.line
  pub high : r.line ≤ last_line r.op
