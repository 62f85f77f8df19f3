-- The sizes are read, and the records counted that follow from them.
use mathlib.Core.Path.{ap, ◌∙◌}
use Rattle.sheet.specs.Adding.{with_blocks}
use Rattle.sheet.proofs.Rooms.{placed, rows_all}
use Rattle.sheet.proofs.Tally.with_store.Goals as goal

pub with_blocks-requires : goal.with_blocks-requires
with_blocks-requires c =
    placed c.args.area.now c.blocks_at.ensures c.of-z.ensures.threads c.of-z.ensures.numbers c.of-z.ensures.blocks c.requires.1 c.requires.0

pub returns : goal.returns
returns c =
    c.with_blocks.ensures
    ∙ ap (with_blocks c.args.self)
    (rows_all c.args.area.now c.blocks_at.ensures c.of-z.ensures.threads c.of-z.ensures.numbers c.of-z.ensures.blocks)
