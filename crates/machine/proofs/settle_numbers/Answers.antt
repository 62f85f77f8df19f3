-- A setter after the other: H, the headers' owner, the map, the locks.
use Rattle.store.specs.Area.{decode}
use Rattle.store.specs.Live.{map_column, locks_column, with_effect}
use Rattle.store.proofs.Tables.{lock_only, owner_only, map_only, locks_only, map-inside, locks-inside, within-locks, decode-map, decode-locks}
use Rattle.machine.specs.Settling.{Stored}
use Rattle.machine.proofs.Storing.{stored-start, stored-lock, stored-owner, stored-entry, stored_pass, locks-fit}
use Rattle.machine.proofs.settle_numbers.Goals as goal
use Rattle.machine.proofs.settle_numbers.Goals.{After-set_entry}

-- H, the headers' owner and the map are stored
mapped :
    (c : After-set_entry) →
    Stored c.args.area.now c.set_entry.new.area c.args.z.t c.args.z.n c.args.z.p
    (with_effect (with_effect (with_effect (decode c.args.area.now) (lock_only c.args.e.lock)) (owner_only c.args.e.owner)) (map_only c.args.e.map))
mapped c =
    let a = c.args in
    let owned =
    stored-owner (stored-lock (stored-start c.requires.0) a.e.lock c.set_word.ensures.0 c.set_word.ensures.1) a.e.owner c.set_word-2.ensures.0
    c.set_word-2.ensures.1 in
    stored-entry owned (map_column a.z.t a.z.n) a.e.map (map_only a.e.map) (rw c.map.ensures at c.set_entry.ensures) c.requires.1 (map-inside owned.live)
    (decode-map owned.live a.e.map c.requires.1)

pub set_pass-requires : goal.set_pass-requires
set_pass-requires c =
    let r = mapped (goal.at.set_pass-requires c).After-set_entry in
    rw c.locks.ensures (within-locks r.live c.args.e.locks (locks-fit r c.args.z.n c.args.e.locks c.requires.2))

pub returns : goal.returns
returns c =
    let a = c.args in
    let r = mapped (goal.at.returns c).After-set_entry in
    let fit = locks-fit r a.z.n a.e.locks c.requires.2 in
    stored_pass r (locks_column a.z.t a.z.n) _ a.e.locks (locks_only a.e.locks) (rw c.locks.ensures at c.set_pass.ensures) fit (locks-inside r.live)
    (decode-locks r.live a.e.locks fit)
