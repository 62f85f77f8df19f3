-- The record, what touches no block, the blocks.
use Rattle.meaning.specs.Step.{apply, nothing}
use Rattle.store.specs.Area.{decode}
use Rattle.store.specs.Live.{with_effect}
use Rattle.machine.specs.Settling.{Stored, unblocked, on_blocks}
use Rattle.machine.proofs.Storing.{stored-start, stored-thread, locks-fit, own_fit, stored-with_effect}
use Rattle.machine.proofs.settle.Goals as goal
use Rattle.machine.proofs.settle.Goals.{After-set_thread, After-settle_numbers}

-- the thread's record is stored
seated :
    (c : After-set_thread) →
    Stored c.args.area.now c.set_thread.new.area c.args.z.t c.args.z.n c.args.z.p (apply (decode c.args.area.now) c.args.k c.args.r nothing)
seated c = stored-thread (stored-start c.requires.0) c.args.k c.args.r c.set_thread.ensures.0 c.set_thread.ensures.1 c.requires.1

-- and what touches no block
numbered :
    (c : After-settle_numbers) →
    Stored c.args.area.now c.set_thread.new.area c.args.z.t c.args.z.n c.args.z.p (apply (decode c.args.area.now) c.args.k c.args.r nothing) →
    Stored c.args.area.now c.settle_numbers.new.area c.args.z.t c.args.z.n c.args.z.p
    (with_effect (apply (decode c.args.area.now) c.args.k c.args.r nothing)
    (unblocked c.args.e.lock c.args.e.owner c.args.e.map c.args.e.locks))
numbered c s = let e = c.args.e in stored-with_effect (unblocked e.lock e.owner e.map e.locks) s c.settle_numbers.ensures

pub settle_numbers-requires : goal.settle_numbers-requires
settle_numbers-requires c =
    let s = seated (goal.at.settle_numbers-requires c).After-set_thread in
    (s.live, c.requires.2.map, locks-fit s c.args.z.n c.args.e.locks c.requires.2.locks)

pub settle_blocks-requires : goal.settle_blocks-requires
settle_blocks-requires c =
    let path = goal.at.settle_blocks-requires c in
    let s = numbered path.After-settle_numbers (seated path.After-set_thread) in
    let inside = c.requires.2 in
    (s.live, inside.header, inside.content, inside.wear, own_fit s c.args.z.p c.args.e.own inside.own)

pub returns : goal.returns
returns c =
    let e = c.args.e in
    let path = goal.at.returns c in
    stored-with_effect (on_blocks e.header e.content e.wear e.own) (numbered path.After-settle_numbers (seated path.After-set_thread))
    c.settle_blocks.ensures
