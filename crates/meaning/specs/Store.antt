-- The store as 01, "Sizes and the store area", has it, with tables for the area's words. A number past a table's size has the entry 0.
use Rattle.std.specs.Prelude.{ℕ}
use Rattle.meaning.specs.declared.Thread.{Thread}

pub record Store : Type 0 where
  -- T, N, P and D
  pub threads : ℕ
  pub numbers : ℕ
  pub blocks : ℕ
  pub distance : ℕ
  -- the header lock, H, and the headers' owner
  pub lock : ℕ
  pub owner : ℕ
  pub thread : ℕ → Thread
  -- of a logical number: 0 where it is unmapped, else one more than its block; and its lock
  pub map : ℕ → ℕ
  pub locks : ℕ → ℕ
  -- of a block: 0 where it is free, else one more than its number; its content, wear and owner
  pub header : ℕ → ℕ
  pub content : ℕ → ℕ
  pub wear : ℕ → ℕ
  pub own : ℕ → ℕ

-- an idle record: all seven words are 0
abbrev pub idle : Thread
idle = record { op = 0; line = 0; n = 0; c = 0; p = 0; q = 0; h = 0 }

-- a fresh store has its sizes, and else nothing but 0
abbrev pub fresh : ℕ → ℕ → ℕ → ℕ → Store
fresh t n p d =
    record {
      threads = t;
      numbers = n;
      blocks = p;
      distance = d;
      lock = 0;
      owner = 0;
      thread = λ _. idle;
      map = λ _. 0;
      locks = λ _. 0;
      header = λ _. 0;
      content = λ _. 0;
      wear = λ _. 0;
      own = λ _. 0;
    }
