-- What was judged, done.
use Rattle.std.proofs.Common.{◌∙◌, sym, ap, Ok}
use Rattle.calls.specs.declared.Accepted.TheVariants.{Went, Finished}
use Rattle.calls.specs.Answering.{answered}
use Rattle.calls.proofs.Replies.{judge_asks, judges, stored_encoded}
use Rattle.calls.proofs.try_step.Goals as goal

pub judge-requires : goal.judge-requires
judge-requires c = judge_asks c.in_ok-o.ensures c.if-o-eq0.false

pub settle-requires : goal.settle-requires
settle-requires c =
    let is = c.in_ok-o.ensures in
    (is.live, rw is.index is.below, (judges is c.if-o-eq0.false c.in-Go.ensures).inside)

pub settle-requires-in-Done : goal.settle-requires-in-Done
settle-requires-in-Done c =
    let is = c.in_ok-o.ensures in
    (is.live, rw is.index is.below, (judges is c.if-o-eq0.false c.in-Done.ensures).inside)

-- The check finds this alone. With it, another answer to a blocked step is refused by what differs, and not by a search that gives up.
pub returns-in-Blocked : goal.returns-in-Blocked
returns-in-Blocked c = sym (judges c.in_ok-o.ensures c.if-o-eq0.false c.in-Blocked.ensures).telling

pub returns-in-Go : goal.returns-in-Go
returns-in-Go c =
    let is = c.in_ok-o.ensures in
    ap (answered (Ok Went)) (stored_encoded (rw is.index at c.settle.ensures) λ i. (c.type_inv.area i).fits)
    ∙ sym (judges is c.if-o-eq0.false c.in-Go.ensures).telling

pub returns-in-Done : goal.returns-in-Done
returns-in-Done c =
    let is = c.in_ok-o.ensures in
    ap (answered (Ok (Finished c.in-Done.value)))
    (stored_encoded (rw (is.index, c.idle.ensures) at c.settle-in-Done.ensures) λ i. (c.type_inv.area i).fits)
    ∙ sym (judges is c.if-o-eq0.false c.in-Done.ensures).telling
