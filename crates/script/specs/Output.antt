-- 01, "The script program": what is printed for a whole input. The store is the area of the last accepted `f`; before it there is none,
-- which is the empty area: that `b` and `s` then answer SHAPE is what begin and step say of it.
use Rattle.std.specs.Prelude.{cond, List, [], ◌++◌, ℕ, ◌+◌, ◌*◌, length, replicate, eqb, leb, Option, None, Some}
use Rattle.meaning.specs.Numbers.{WENT}
use Rattle.meaning.specs.Call.{Reply}
use Rattle.store.specs.Layout.{size}
use Rattle.store.specs.Calls.{format_area, begin_area, step_area}
use Rattle.script.specs.declared.Command.{Command}
use Rattle.script.specs.declared.Command.TheVariants.{Format, Begin, Step}
use Rattle.script.specs.Syntax.{command, Lines, end, torn, line, lines}
use Rattle.script.specs.Printing.{printed, most_printed}

-- ---- the numbers that only the program gives

-- for a line that isn't one of the three, and for a last line without newline
abbrev pub FORM : ℕ
FORM = 19

-- "longer input"
abbrev pub LONG : ℕ
LONG = 20

-- "at most 65,536 bytes"
abbrev pub most_input : ℕ
most_input = 65536

-- ---- a line

-- where `f` is refused, the store is the one of before
abbrev pub unless_went : List ℕ → Reply (List ℕ) → Reply (List ℕ)
unless_went a r = record { number = r.number; value = r.value; after = cond (eqb r.number WENT) r.after a }

-- "formats a new store": an area of its own, of the exact length
abbrev pub format_new : List ℕ → ℕ → ℕ → ℕ → ℕ → Reply (List ℕ)
format_new a t n p d = unless_went a (format_area (replicate (size t n p) 0) t n p d)

-- what comes of a command on an area: the end of the run, or a reply
pub data Heard : Type 0 where
  stopped : Heard
  replied : Reply (List ℕ) → Heard

abbrev pub heard : List ℕ → Option Command → Heard
heard a None = stopped
heard a (Some (Format t n p d)) = replied (format_new a t n p d)
heard a (Some (Begin t op n c)) = replied (begin_area a t op n c)
heard a (Some (Step t)) = replied (step_area a t)

-- ---- all lines

-- what is printed for a line, and then for the lines after it, given the area that the line left
abbrev pub said : Heard → (List ℕ → List ℕ) → List ℕ
said stopped more = printed FORM 0
said (replied r) more = printed r.number r.value ++ more r.after

abbrev pub answers : List ℕ → Lines → List ℕ
answers a end = []
answers a torn = printed FORM 0
answers a (line l ls) = said (heard a (command l)) (λ a'. answers a' ls)

-- for an input that is too long, `20 0` and nothing else; for an empty one, which has no lines, nothing
unfoldable pub output : List ℕ → List ℕ
output input = cond (leb (length input) most_input) (answers [] (lines input)) (printed LONG 0)

-- ---- room for it

-- no output is longer: a line that is answered has at least four bytes and prints at most most_printed, less than six for each of them;
-- one line more is printed at most
abbrev pub most_output : ℕ
most_output = 6 * most_input + most_printed

-- what is written where a buffer is lent: nothing if it has no such room
abbrev pub fitting : List ℕ → List ℕ → List ℕ
fitting buffer bs = cond (leb most_output (length buffer)) bs []
