-- The record that begin writes.
use Rattle.std.proofs.Common.{◌≡◌, true, ◌||◌, ltb, nat_eq, rules}
use Rattle.meaning.specs.Programs.{LEVEL}
use Rattle.calls.specs.Answering.{operation_number}
use Rattle.calls.proofs.try_begin.Goals as goal
use Rattle.calls.proofs.try_begin.Goals.{After-begun, else-ne-via-then-ne+else-o-n, else-ne-via-else-ne}
use Rattle.calls.proofs.Replies.{begin-went}

numbered : (c : After-begun) → nat_eq (operation_number c.in_ok-operation.operation) LEVEL || ltb c.args.n c.in_ok-o.o.z.n ≡ true
numbered c =
    elim c.else-ne.branch [
      | else-ne-via-then-ne+else-o-n w ↦ search rules
      | else-ne-via-else-ne w ↦ search rules
    ]

pub returns : goal.returns
returns c =
    let path = goal.at.returns c in
    begin-went c.in_ok-o.ensures c.in_ok-operation.operation c.args.n c.args.c c.in_ok-operation.ensures c.if-o-ne0.false
    (numbered path.After-begun) (rw (c.nothing.ensures, c.begun.ensures) at c.settle.ensures) (λ i. (c.type_inv.area i).fits)
