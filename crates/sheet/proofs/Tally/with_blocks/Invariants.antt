-- The blocks passed have been added, and there is room for the others.
use Rattle.std.proofs.Common.{◌≡◌, ◌-◌}
use Rattle.store.specs.Area.{word}
use Rattle.sheet.specs.Adding.{with_blocks}
use Rattle.sheet.specs.Room.{Room, rows_of}
use Rattle.sheet.proofs.Tally.with_blocks.Given as goal

abbrev pub invariant-loop-k : goal.invariant-loop-k
invariant-loop-k l = (l.all ≡ with_blocks l.fn.self (rows_of (word l.area) l.from l.k)) × Room l.all (l.count - l.k)
