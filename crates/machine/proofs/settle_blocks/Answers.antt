-- A setter after the other: the header, the content, the wear, the owner.
use Rattle.std.proofs.Common.{arith}
use Rattle.store.specs.Area.{decode}
use Rattle.store.specs.Live.{header_column, blocks_column, with_effect}
use Rattle.store.proofs.Tables.{header_only, content_only, wear_only, own_only, header-inside, blocks-inside, within_own, decode-header, decode-content, decode-wear, decode_own}
use Rattle.machine.specs.Settling.{Stored}
use Rattle.machine.proofs.Storing.{stored-start, stored-entry, stored_pass, own_fit}
use Rattle.machine.proofs.settle_blocks.Goals as goal
use Rattle.machine.proofs.settle_blocks.Goals.{After-set_entry-3}

-- header, content and wear are stored
worn :
    (c : After-set_entry-3) →
    Stored c.args.area.now c.set_entry-3.new.area c.args.z.t c.args.z.n c.args.z.p
    (with_effect (with_effect (with_effect (decode c.args.area.now) (header_only c.args.e.header)) (content_only c.args.e.content)) (wear_only c.args.e.wear))
worn c =
    let a = c.args in
    let z = a.z in
    let start = stored-start c.requires.0 in
    let headed =
    stored-entry start (header_column z.t z.n z.p) a.e.header (header_only a.e.header) (rw c.header.ensures at c.set_entry.ensures) c.requires.1
    (header-inside start.live) (decode-header start.live a.e.header c.requires.1) in
    let filled =
    stored-entry headed (blocks_column z.t z.n z.p 1) a.e.content (content_only a.e.content) (rw c.content.ensures at c.set_entry-2.ensures) c.requires.2
    (blocks-inside headed.live 1 (omega arith)) (decode-content headed.live a.e.content c.requires.2) in
    stored-entry filled (blocks_column z.t z.n z.p 2) a.e.wear (wear_only a.e.wear) (rw c.wear.ensures at c.set_entry-3.ensures) c.requires.3
    (blocks-inside filled.live 2 (omega arith)) (decode-wear filled.live a.e.wear c.requires.3)

pub set_pass-requires : goal.set_pass-requires
set_pass-requires c =
    let r = worn (goal.at.set_pass-requires c).After-set_entry-3 in
    rw c.own.ensures (within_own r.live c.args.e.own (own_fit r c.args.z.p c.args.e.own c.requires.4))

pub returns : goal.returns
returns c =
    let a = c.args in
    let r = worn (goal.at.returns c).After-set_entry-3 in
    let fit = own_fit r a.z.p a.e.own c.requires.4 in
    stored_pass r (blocks_column a.z.t a.z.n a.z.p 3) _ a.e.own (own_only a.e.own) (rw c.own.ensures at c.set_pass.ensures) fit
    (blocks-inside r.live 3 (omega arith)) (decode_own r.live a.e.own fit)
