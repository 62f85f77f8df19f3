-- What the code's answers mean, for the contracts inside the crate.
use Rattle.std.specs.Prelude.{List, ℕ, ◌≤◌, length, Option, Some, None, Result}
use Rattle.calls.specs.declared.Accepted.{Accepted}
use Rattle.calls.specs.declared.Refusal.{Refusal}
use Rattle.calls.specs.Answering.{answered}
use Rattle.script.specs.Output.{most_input, most_output, Heard, stopped, replied}

-- what comes of a line, given the answer if it is a call, and the area that it left
abbrev pub turned : Option (Result Accepted Refusal) → List ℕ → Heard
turned None area = stopped
turned (Some answer) area = replied (answered answer area)

-- a run's slices: the input is not too long, and there is room for any output
pub record Roomy (input out : List ℕ) : Type 0 where
  pub short : length input ≤ most_input
  pub ample : most_output ≤ length out
