-- By the position of the first newline.
use Rattle.std.proofs.Common.{◌≡◌, rules, tests, eqb, ltb, cond, sym, ◌+◌, length, Some, None}
use Rattle.std.proofs.lemmas.Iterator.{YieldsList-from_slice}
use Rattle.std.proofs.lemmas.Iterator.Search.{position_from_yields_List}
use Rattle.script.specs.Syntax.{NEWLINE}
use Rattle.script.proofs.Cutting.{first, line-found, torn-found}
use Rattle.script.proofs.Front.{take_rest}
use Rattle.script.proofs.next_line.Goals as goal
use Rattle.script.proofs.next_line.Goals.{After-position}

-- what the search found, for both answers
found : (c : After-position) →
    c.position.result ≡ cond (ltb (first c.args.input.now) (length c.args.input.now)) (Some (first c.args.input.now)) None
found c =
    position_from_yields_List (λ b. eqb b NEWLINE) _ _ c.position.result c.position.ensures.ran
    (YieldsList-from_slice c.args.input.now cc) (λ x b q k. search (rules, tests))

pub returns-in_err-at-clause-cut : goal.returns-in_err-at-clause-cut
returns-in_err-at-clause-cut c =
    let at = goal.at.returns-in_err-at-clause-cut c in
    rw c.from_residual.ensures
    (λ some. sym (torn-found c.args.input.now c.position.result (found at.After-position) c.in_err-at.was some))

pub returns-clause-cut : goal.returns-clause-cut
returns-clause-cut c =
    let s = c.args.input.now in
    let path = goal.at.returns-clause-cut c in
    rw (take_rest (c.in_ok-at.at + 1) s)
    (sym (line-found s c.position.result (found path.After-position) c.in_ok-at.at c.in_ok-at.was))
