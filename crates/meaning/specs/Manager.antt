-- The atomic erase-block manager of source document 000, Fig. 2, as 01, "The machine", mends it: a read's index is the logical
-- number, and unmap takes the number out of the mapped set. It knows nothing of blocks, wear, locks or threads.
use Rattle.std.specs.Prelude.{Bool, true, false, cond, ℕ}
use Rattle.meaning.specs.Table.{upd}

pub record Manager : Type 0 where
  pub contents : ℕ → ℕ
  pub mapped : ℕ → Bool

abbrev pub empty : ℕ
empty = 0

abbrev pub initial : Manager
initial = record { contents = λ _. empty; mapped = λ _. false }

abbrev pub ebm_write : ℕ → ℕ → Manager → Manager
ebm_write lnum c m = record { contents = upd m.contents lnum c; mapped = upd m.mapped lnum true }

abbrev pub ebm_read : ℕ → Manager → ℕ
ebm_read lnum m = cond (m.mapped lnum) (m.contents lnum) empty

abbrev pub ebm_unmap : ℕ → Manager → Manager
ebm_unmap lnum m = record { contents = m.contents; mapped = upd m.mapped lnum false }
