-- What a method of the code's buffer does: some bytes are written at its place, which goes on behind them, inside the buffer; and it is the same
-- buffer, as long as it was.
use Rattle.std.specs.Prelude.{◌≡◌, ◌≤◌, List, ℕ, length}
use Rattle.script.specs.Printing.{Wrote}
use Rattle.page.specs.declared.Out.{Out}

pub record Puts (before : Out) (bs : List ℕ) (after : Out) : Type 0 where
  pub wrote : Wrote before.bytes.now before.at bs after.at after.bytes.now
  pub inside : after.at ≤ length after.bytes.now
  pub long : length after.bytes.now ≡ length before.bytes.now
  pub same : after.bytes.ghost_name ≡ before.bytes.ghost_name
