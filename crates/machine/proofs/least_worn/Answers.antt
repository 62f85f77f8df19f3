-- The keys rank the mapped blocks by their wear, the least worn first.
use Rattle.std.proofs.Common.{rules}
use Rattle.machine.proofs.least_worn.Goals as goal

pub returns : goal.returns
returns c =
    c.first_least.ensures _ _
    (record { without = λ k low g. search rules; with_key = λ k w low g. search rules; order = λ k m w v low low' g g'. search rules })
