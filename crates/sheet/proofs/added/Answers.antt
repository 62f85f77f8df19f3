-- Adding an area's blocks leaves the counts of areas and of skipped ones: there are still fewer than 200.
use Rattle.store.specs.Area.{decode}
use Rattle.sheet.specs.Sheet.{store_blocks}
use Rattle.sheet.proofs.Rooms.{plausible-facts, blocks-areas}
use Rattle.sheet.proofs.added.Goals as goal

pub counted-requires : goal.counted-requires
counted-requires c =
    let same = blocks-areas c.args.tally (store_blocks (decode c.args.area.now)) in
    let fair = plausible-facts c.args.tally c.in_ok-check.ensures.0 in
    rw (c.with_store.ensures, same.0, same.1) (c.in_ok-check.ensures.1, fair.skipped)
