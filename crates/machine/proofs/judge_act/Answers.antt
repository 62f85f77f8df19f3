-- The arms of `MapTo` and `WriteContent`, answered so that what is wrong in an arm is refused by what differs. The check finds the others by itself.
use Rattle.machine.proofs.judge_act.Goals as goal

pub returns-in-MapTo : goal.returns-in-MapTo
returns-in-MapTo c = rw c.in-MapTo.is (simp (c.next-in-MapTo.ensures, c.on_map.ensures, c.block.ensures))

pub returns-in-WriteContent : goal.returns-in-WriteContent
returns-in-WriteContent c =
    rw c.in-WriteContent.is
    (simp (
      c.need-in-WriteContent.ensures,
      c.next-in-WriteContent.ensures,
      c.on_content-in-WriteContent.ensures,
      c.block-m-in-WriteContent.ensures,
      c.touches-in-WriteContent.ensures,
    ))
