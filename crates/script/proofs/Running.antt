-- Laws of the run: what a line that is answered adds to what is printed, how long it is, and the invariant of the loop over the lines.
-- Assumes nothing.
use mathlib.Core.Bool.{Bool, true, false, cond}
use mathlib.Core.Path.{◌≡◌, ◌∙◌, refl, sym, ap}
use mathlib.Core.List.{List, [], ◌∷◌, ◌++◌}
use Prim.Native.Nat.{ℕ, ◌+◌, ◌*◌, ◌≤◌, ◌<◌}
use native.Mathlib.Omega.{arith}
use borrow.Author.Tests.{le-leb, lt-leb}
use lib.Dec.{eqb}
use lib.ListN.{length}
use Rattle.meaning.specs.Call.{Reply}
use Rattle.std.specs.Prelude.{Option, None}
use Rattle.script.specs.declared.Command.{Command}
use Rattle.script.specs.Syntax.{BLANK, missing, field, lettered, command, line, lines}
use Rattle.script.specs.Printing.{printed, most_printed, Wrote}
use Rattle.script.specs.Output.{FORM, LONG, most_input, most_output, stopped, replied, heard, answers, output, fitting}
use Rattle.script.specs.Turns.{Roomy}
use Rattle.script.proofs.Writing.{wrote_nothing, wrote_then, printed_most}

-- ---- a line that is answered has at least three bytes and a newline

cond_same : {A : Type 0} (b : Bool) (x : A) → cond b x x ≡ x
cond_same true x = refl
cond_same false x = refl

lettered_none : (c : ℕ) (cs : List ℕ) → field cs ≡ missing → lettered c cs ≡ None
lettered_none c cs e =
    simp (e, cond_same {A = Option Command})

command-long : (l : List ℕ) → (command l ≡ None → ⊥) → 3 ≤ length l
command-long [] h = absurd (h refl)
command-long (c ∷ []) h = absurd (h (lettered_none c [] refl))
command-long (c ∷ d ∷ []) h = absurd (h (lettered_none c (d ∷ []) (cond_same (eqb d BLANK) missing)))
command-long (c ∷ d ∷ e ∷ l) h = omega arith

pub replied-long : (a l : List ℕ) (r : Reply (List ℕ)) → replied r ≡ heard a (command l) → 3 ≤ length l
replied-long a l r e =
    command-long l (λ none. let z : replied r ≡ stopped = e ∙ ap (heard a) none in let z' : ◌≡◌ {A = ℕ} 0 1 = cc in omega arith)

-- ---- what a line adds

module _ (a l : List ℕ) (s rest : List ℕ) (cut : line l (lines rest) ≡ lines s) where
  pub answers-replied :
      (r : Reply (List ℕ)) → replied r ≡ heard a (command l)
      → answers a (lines s) ≡ printed r.number r.value ++ answers r.after (lines rest)
  answers-replied r e = rw (← cut, ← e)

  pub answers-stopped : stopped ≡ heard a (command l) → answers a (lines s) ≡ printed FORM 0
  answers-stopped e = rw (← cut, ← e)

-- ---- the whole

pub output-long : (input : List ℕ) → most_input < length input → output input ≡ printed LONG 0
unfolding output
output-long input h = rw (lt-leb _ _ h)

pub output-lines : (input : List ℕ) → length input ≤ most_input → output input ≡ answers [] (lines input)
unfolding output
output-lines input h = rw (le-leb _ _ h)

pub fitting-short : (out bs : List ℕ) → length out < most_output → fitting out bs ≡ []
fitting-short out bs h = rw (lt-leb _ _ h)

pub fitting-ample : (out bs : List ℕ) → most_output ≤ length out → fitting out bs ≡ bs
fitting-ample out bs h = rw (le-leb _ _ h)

-- ---- the loop

-- with so much of the input left and of the output written, whatever writes the rest has written all
pub record RunningAt (input out₀ area out left : List ℕ) (end : ℕ) : Type 0 where
  pub same_out : length out ≡ length out₀
  pub little : end + 6 * length left ≤ 6 * length input
  pub rest : (r : ℕ) (b : List ℕ) → Wrote out end (answers area (lines left)) r b → Wrote out₀ 0 (answers [] (lines input)) r b

pub running_start : (input out : List ℕ) → RunningAt input out [] out input 0
running_start input out = record { same_out = refl; little = omega arith; rest = λ r b w. w }

-- nothing is left
pub running_end :
    {input out₀ area out : List ℕ} {end : ℕ} (left : List ℕ) → RunningAt input out₀ area out left end
    → length left ≡ 0 → Wrote out₀ 0 (answers [] (lines input)) end out
running_end {out = out} {end = end} [] g none = g.rest end out (wrote_nothing out end)
running_end (c ∷ cs) g none = absurd (omega arith)

module _ {input out₀ area out left : List ℕ} {end : ℕ} (g : RunningAt input out₀ area out left end) (ready : Roomy input out₀) where
  -- there is room for one line more
  pub running_room : end + most_printed ≤ length out
  running_room = omega arith

  -- a line was answered, and the answer was printed
  module _ (l after : List ℕ) (cut : lines left ≡ line l (lines after)) (whole : length l + 1 + length after ≡ length left)
      (r : Reply (List ℕ)) (turn : replied r ≡ heard area (command l))
      (end' : ℕ) (out' : List ℕ) (same : length out' ≡ length out)
      (wrote : Wrote out end (printed r.number r.value) end' out') where
    pub running_on : RunningAt input out₀ r.after out' after end'
    running_on =
        let short = printed_most r.number r.value in
        let three = replied-long area l r turn in
        let n = length (printed r.number r.value) in
        let fits_out : end + n ≤ length out = omega (arith, running_room) in
        record {
          same_out = same ∙ g.same_out;
          little = omega (arith, three, short, wrote.ends);
          rest = λ last b w. g.rest last b
              (rw (answers-replied area l left after (sym cut) r turn)
              (wrote_then out end (printed r.number r.value) fits_out (answers r.after (lines after)) wrote w));
        }
