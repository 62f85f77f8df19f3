-- 01, "The script program": how an input is cut into lines, and how a line is read into a command. A line is a list of bytes without
-- its newline. Each function reads from the front of a list and hands on what it has not read.
use Rattle.std.specs.Prelude.{Bool, true, false, cond, List, [], ◌∷◌, ℕ, ◌+◌, ◌-◌, ◌*◌, eqb, leb, Option, None, Some}
use Rattle.meaning.specs.Limits.{most_word, within}
use Rattle.script.specs.declared.Command.{Command}
use Rattle.script.specs.declared.Command.TheVariants.{Format, Begin, Step}

-- ---- the bytes that count

abbrev pub NEWLINE : ℕ
NEWLINE = 10

abbrev pub BLANK : ℕ
BLANK = 32

abbrev pub ZERO : ℕ
ZERO = 48

abbrev pub NINE : ℕ
NINE = 57

abbrev pub LETTER_B : ℕ
LETTER_B = 98

abbrev pub LETTER_F : ℕ
LETTER_F = 102

abbrev pub LETTER_S : ℕ
LETTER_S = 115

-- ---- a field

-- a number with what follows it, or none
pub data Read : Type 0 where
  missing : Read
  got : ℕ → List ℕ → Read

abbrev pub is_digit : ℕ → Bool
is_digit c = within ZERO NINE c

-- the digits at the front, after those whose value is v
abbrev pub digits : ℕ → List ℕ → Read
digits v [] = got v []
digits v (c ∷ cs) = cond (is_digit c) (digits (10 * v + (c - ZERO)) cs) (got v (c ∷ cs))

-- "at most 4,294,967,295"
abbrev pub bounded : Read → Read
bounded missing = missing
bounded (got v rest) = cond (leb v most_word) (got v rest) missing

-- a number that starts with 0 is 0 and ends there
abbrev pub number : List ℕ → Read
number [] = missing
number (c ∷ cs) = cond (eqb c ZERO) (got 0 cs) (cond (is_digit c) (bounded (digits (c - ZERO) cs)) missing)

-- a field: one blank, and the decimal number after it
abbrev pub field : List ℕ → Read
field [] = missing
field (c ∷ cs) = cond (eqb c BLANK) (number cs) missing

-- ---- a line

-- what is made of the number and of what follows it; where there is none, the other
abbrev pub on_field : {A : Type 0} → Read → A → (ℕ → List ℕ → A) → A
on_field missing other make = other
on_field (got v rest) other make = make v rest

-- the one where nothing follows, and else the other
abbrev pub ending : {A : Type 0} → List ℕ → A → A → A
ending [] other one = one
ending (c ∷ cs) other one = other

-- four numbers
abbrev pub Four : Type 0
Four = ℕ × ℕ × ℕ × ℕ

-- four fields and nothing after them
abbrev pub four : List ℕ → Option Four
four cs₀ =
    on_field (field cs₀) None (λ w cs₁.
    on_field (field cs₁) None (λ x cs₂.
    on_field (field cs₂) None (λ y cs₃.
    on_field (field cs₃) None (λ z cs₄.
    ending cs₄ None (Some (w, x, y, z))))))

abbrev pub as_format : Option Four → Option Command
as_format None = None
as_format (Some (t, n, p, d)) = Some (Format t n p d)

abbrev pub as_begin : Option Four → Option Command
as_begin None = None
as_begin (Some (t, op, n, c)) = Some (Begin t op n c)

-- one field and nothing after it
abbrev pub as_step : Read → Option Command
as_step field = on_field field None (λ t cs. ending cs None (Some (Step t)))

-- `f` with four numbers, `b` with four, `s` with one: a line's first byte and the others
abbrev pub lettered : ℕ → List ℕ → Option Command
lettered c cs =
    cond (eqb c LETTER_F) (as_format (four cs))
    (cond (eqb c LETTER_B) (as_begin (four cs))
    (cond (eqb c LETTER_S) (as_step (field cs)) None))

abbrev pub command : List ℕ → Option Command
command [] = None
command (c ∷ cs) = lettered c cs

-- ---- the lines of an input

-- nothing is left; bytes with no newline after them; or a line, and the lines after it
pub data Lines : Type 0 where
  end : Lines
  torn : Lines
  line : List ℕ → Lines → Lines

-- a newline ends each line: the lines of an input of which c is the first byte, and whether that is a newline
abbrev pub onto : Bool → ℕ → Lines → Lines
onto true c ls = line [] ls
onto false c end = torn
onto false c torn = torn
onto false c (line l ls) = line (c ∷ l) ls

abbrev pub lines : List ℕ → Lines
lines [] = end
lines (c ∷ cs) = onto (eqb c NEWLINE) c (lines cs)
