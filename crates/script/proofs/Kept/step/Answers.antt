-- The store has kept its length.
use Rattle.std.proofs.Common.{◌≤◌, sym, length, arith}
use Rattle.script.proofs.Front.{taken-call}
use Rattle.script.proofs.Kept.step.Goals as goal

pub returns : goal.returns
returns c =
    let k = c.try_step in
    let room : c.self.inside.used ≤ length c.self.inside.buffer = omega (arith, c.self.invariant) in
    taken-call c.self.inside.buffer c.self.inside.used room k.result k.new.area _ (rw (sym c.self.view_is) k.ensures) k.auto.area
