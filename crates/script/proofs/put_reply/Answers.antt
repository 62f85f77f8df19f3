-- One part after another, each with room for it.
use Rattle.std.proofs.Common.{arith, length, length-append, append_assoc, ◌++◌, [], ◌∷◌, ◌+◌, ◌≤◌}
use Rattle.script.specs.Syntax.{BLANK, NEWLINE}
use Rattle.script.specs.Printing.{most_figures, decimal}
use Rattle.script.proofs.Writing.{wrote_then, figures_most}
use Rattle.script.proofs.put_reply.Goals as goal

pub returns : goal.returns
returns c =
    let x = c.args in
    let short = figures_most most_figures x.number in
    let short₂ = figures_most most_figures x.value in
    let fits₁ : x.at + length (decimal x.number) ≤ length x.out.now = omega (arith, short, c.requires) in
    let number-printed = wrote_then x.out.now x.at (decimal x.number) fits₁ (BLANK ∷ []) (rw c.from.ensures at c.put_figures-at1.ensures) c.put_byte-at2.ensures in
    let fits₂ : x.at + length (decimal x.number ++ (BLANK ∷ [])) ≤ length x.out.now = rw length-append (omega (arith, short, c.requires)) in
    let value-printed =
    wrote_then x.out.now x.at (decimal x.number ++ (BLANK ∷ [])) fits₂ (decimal x.value) number-printed (rw c.from-2.ensures at c.put_figures-at3.ensures) in
    let bs = (decimal x.number ++ (BLANK ∷ [])) ++ decimal x.value in
    let fits : x.at + length bs ≤ length x.out.now = simp length-append (omega (arith, short, short₂, c.requires)) in
    simp append_assoc at (wrote_then x.out.now x.at bs fits (NEWLINE ∷ []) value-printed c.put_byte.ensures)
