-- One digit, or the last digits of the text are copied.
use Rattle.std.proofs.Common.{◌≡◌, ◌-◌, ◌∙◌, sym, arith, length, take, drop}
use Rattle.script.specs.Printing.{figures}
use Rattle.script.proofs.Writing.{figures-last, figures_digit, wrote_copy}
use Rattle.script.proofs.Front.{take_rest}
use Rattle.script.proofs.put_figures.Goals as goal

pub returns-then-most-gt0 : goal.returns-then-most-gt0
returns-then-most-gt0 c =
    let x = c.args in
    rw (figures_digit x.most x.value (omega arith) (omega arith)) c.put_byte.ensures

pub returns : goal.returns
returns c =
    let x = c.args in
    let d = c.as_bytes-digits.result.now in
    let s = c.saturating_sub.result in
    let last = take (length d - s) (drop s d) in
    let e : last ≡ figures x.most x.value =
    take_rest s d ∙ rw (c.saturating_sub.ensures, c.as_bytes-digits.ensures.value, c.format.ensures.text) (sym (figures-last x.most x.value (omega arith))) in
    wrote_copy x.out.now x.at (figures x.most x.value) last c.copy_from_slice.new.self e c.copy_from_slice.ensures.after
