-- Each test is that of a part of `in_bounds`, at the place where the part stands.
use Rattle.store.proofs.Decode.{in_bounds-words}
use Rattle.store.proofs.words_sound.Goals as goal

pub returns : goal.returns
returns c =
    simp (
      c.word_at.ensures,
      c.word_at-2.ensures,
      c.threads_sound.ensures,
      c.all_at_most.ensures,
      c.all_proper.ensures,
      c.all_at_most-2.ensures,
      c.all_proper-2.ensures,
      c.map.ensures,
      c.locks.ensures,
      c.header.ensures,
      c.own.ensures,
    )
    (in_bounds-words c.requires)
