-- What the definition says of an area that is too short, whose sizes are out of limits, or whose length is another; and of any other.
use mathlib.Core.Path.{◌∙◌, sym}
use Rattle.std.proofs.Common.{arith}
use Rattle.store.proofs.Sound.{Head, well_formed_misfit, well_formed_outside, well_formed-long, well_formed-bounds}
use Rattle.store.proofs.well_formed.Goals as goal
use Rattle.store.proofs.well_formed.Goals.{After-in_limits}

-- the four sizes as they were read, where the limits are tested
head : (c : After-in_limits) → Head c.args.area.now c.word_at-t.result c.word_at-n.result c.word_at-p.result c.word_at-d.result
head c =
    record { threads = c.word_at-t.ensures; numbers = c.word_at-n.ensures; blocks = c.word_at-p.ensures; distance = c.word_at-d.ensures }

pub returns-then-area : goal.returns-then-area
returns-then-area c = well_formed_misfit _ λ f. omega arith

pub returns-then-not-in_limits : goal.returns-then-not-in_limits
returns-then-not-in_limits c =
    well_formed_outside (head (goal.at.returns-then-not-in_limits c).After-in_limits) (sym c.in_limits.ensures ∙ c.if-not-in_limits.true)

pub returns-then-area-size_of : goal.returns-then-area-size_of
returns-then-area-size_of c = well_formed-long (head (goal.at.returns-then-area-size_of c).After-in_limits) λ f. omega arith

pub returns : goal.returns
returns c =
    c.words_sound.ensures
    ∙ well_formed-bounds (head (goal.at.returns c).After-in_limits) (sym c.in_limits.ensures ∙ c.if-not-in_limits.false) (omega arith)
