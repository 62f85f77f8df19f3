-- The area is well formed, with the sizes that were read, and the thread is below T.
use Rattle.std.proofs.Common.{◌≡◌, true, refl, ◌∙◌, sym}
use Rattle.store.specs.Area.{well_formed}
use Rattle.store.specs.Live.{Live}
use Rattle.calls.proofs.Replies.{live-formed, long-formed, within-thread}
use Rattle.calls.proofs.open.Goals as goal
use Rattle.calls.proofs.open.Goals.{Else-not-well_formed, Else-z-k}

well : (c : Else-not-well_formed) → well_formed c.args.area.now ≡ true
well c = sym c.well_formed-2.ensures ∙ c.if-not-well_formed.false

live : (c : Else-z-k) → well_formed c.args.area.now ≡ true → Live c.args.area.now c.of-z.result.t c.of-z.result.n c.of-z.result.p
live c w = let is = c.of-z.ensures in rw (is.threads, is.numbers, is.blocks) (live-formed _ w)

pub of-z-requires : goal.of-z-requires
of-z-requires c = long-formed _ (well c)

pub thread_at-r-requires : goal.thread_at-r-requires
thread_at-r-requires c =
    let path = goal.at.thread_at-r-requires c in
    within-thread (live path.Else-z-k (well path.Else-not-well_formed)) c.if-z-k.false

pub returns : goal.returns
returns c =
    let path = goal.at.returns c in
    let w = well path.Else-not-well_formed in
    record { well = w; live = live path.Else-z-k w; index = refl; below = c.if-z-k.false; as_read = c.thread_at-r.ensures }
