-- A number of so many digits at most.
use Rattle.std.proofs.Common.{arith}
use Rattle.script.proofs.Writing.{figures_most}
use Rattle.page.proofs.Out.figure.Goals as goal

pub returns-in-Some-clause-upper_bound : goal.returns-in-Some-clause-upper_bound
returns-in-Some-clause-upper_bound c = omega (arith, c.put_figures-self.ensures.ends, figures_most)
