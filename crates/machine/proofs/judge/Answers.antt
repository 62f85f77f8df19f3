-- The working store, filled with zeros and then from the area, is the decoded one, and `judge_act` looks at it.
use Rattle.std.proofs.Common.{◌∙◌, ap, arith, ◌*◌}
use Rattle.meaning.specs.Limits.{most_threads, most_numbers, most_blocks}
use Rattle.meaning.specs.Step.{perform}
use Rattle.store.specs.Layout.{thread_words}
use Rattle.store.specs.declared.Store.{Store as WorkingStore}
use Rattle.store.proofs.Filling.{fills, Loaded, view-loaded}
use Rattle.machine.proofs.judge.Goals as goal

pub read_column-requires : goal.read_column-requires
read_column-requires c =
    rw c.header.ensures (fills c.requires.0 _ most_blocks (ap (λ s. s.header) c.fresh-s.ensures) c.requires.0.few.2 (omega arith) (λ k h. omega arith))

pub read_column-requires-2 : goal.read_column-requires-2
read_column-requires-2 c =
    rw c.content.ensures (fills c.requires.0 _ most_blocks (ap (λ s. s.content) c.fresh-s.ensures) c.requires.0.few.2 (omega arith) (λ k h. omega arith))

pub read_column-requires-3 : goal.read_column-requires-3
read_column-requires-3 c =
    rw c.wear.ensures (fills c.requires.0 _ most_blocks (ap (λ s. s.wear) c.fresh-s.ensures) c.requires.0.few.2 (omega arith) (λ k h. omega arith))

pub read_column-requires-4 : goal.read_column-requires-4
read_column-requires-4 c =
    rw c.own.ensures (fills c.requires.0 _ most_blocks (ap (λ s. s.own) c.fresh-s.ensures) c.requires.0.few.2 (omega arith) (λ k h. omega arith))

pub read_column-requires-5 : goal.read_column-requires-5
read_column-requires-5 c =
    rw c.threads.ensures (fills c.requires.0 _ (thread_words * most_threads) (ap (λ s. s.threads) c.fresh-s.ensures) (omega arith) (omega arith) (λ k h. omega arith))

pub read_column-requires-6 : goal.read_column-requires-6
read_column-requires-6 c =
    rw c.map.ensures (fills c.requires.0 _ most_numbers (ap (λ s. s.map) c.fresh-s.ensures) c.requires.0.few.1 (omega arith) (λ k h. omega arith))

pub read_column-requires-7 : goal.read_column-requires-7
read_column-requires-7 c =
    rw c.locks.ensures (fills c.requires.0 _ most_numbers (ap (λ s. s.locks) c.fresh-s.ensures) c.requires.0.few.1 (omega arith) (λ k h. omega arith))

pub returns : goal.returns
returns c =
    let a = c.args in
    let area = a.area.now in
    let working : WorkingStore =
    record {
      t = c.word_at.result;
      n = c.word_at-2.result;
      p = c.word_at-3.result;
      d = c.word_at-4.result;
      lock = c.word_at-5.result;
      owner = c.word_at-6.result;
      threads = c.read_column-5.new.into;
      map = c.read_column-6.new.into;
      locks = c.read_column-7.new.into;
      header = c.read_column.new.into;
      content = c.read_column-2.new.into;
      wear = c.read_column-3.new.into;
      own = c.read_column-4.new.into;
    } in
    let loaded : Loaded area a.z.t a.z.n a.z.p working =
    record {
      size_t = c.word_at.ensures;
      size_n = c.word_at-2.ensures;
      size_p = c.word_at-3.ensures;
      size_d = c.word_at-4.ensures;
      lock = c.word_at-5.ensures;
      owner = c.word_at-6.ensures;
      threads = rw c.threads.ensures at c.read_column-5.ensures;
      map = rw c.map.ensures at c.read_column-6.ensures;
      locks = rw c.locks.ensures at c.read_column-7.ensures;
      header = rw c.header.ensures at c.read_column.ensures;
      content = rw c.content.ensures at c.read_column-2.ensures;
      wear = rw c.wear.ensures at c.read_column-3.ensures;
      own = rw c.own.ensures at c.read_column-4.ensures;
    } in
    c.judge_act.ensures ∙ (λ i. perform (c.act_at.ensures i) (view-loaded c.requires.0 loaded i) a.t a.r)
