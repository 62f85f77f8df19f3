-- 01, "The script program": the line that is printed for each line of the input
use Rattle.std.specs.Prelude.{cond, ◌≡◌, List, [], ◌∷◌, ◌++◌, ℕ, zero, suc, ◌+◌, ◌/◌, ◌%◌, length, take, drop, ltb}
use Prim.Native.Char.{code}
use Prim.Native.String.{String}
use Prim.Native.String as string
use Rattle.script.specs.Syntax.{NEWLINE, BLANK, ZERO}

-- the bytes of a text in ASCII
abbrev pub bytes_of : String → List ℕ
bytes_of string.[] = []
bytes_of (string.◌∷◌ c text) = code c ∷ bytes_of text

-- the digits of v, of which there are at most so many
unfoldable pub figures : ℕ → ℕ → List ℕ
figures zero v = []
figures (suc k) v = cond (ltb v 10) [] (figures k (v / 10)) ++ ((ZERO + v % 10) ∷ [])

-- a word in decimal: it is at most 4,294,967,295, so it has at most ten digits
abbrev pub most_figures : ℕ
most_figures = 10

abbrev pub decimal : ℕ → List ℕ
decimal v = figures most_figures v

abbrev pub printed : ℕ → ℕ → List ℕ
printed number value = decimal number ++ (BLANK ∷ (decimal value ++ (NEWLINE ∷ [])))

-- a printed line has at most so many bytes
abbrev pub most_printed : ℕ
most_printed = most_figures + 1 + most_figures + 1

-- some bytes were written into a buffer at a place, with all else as it was: where they end, and the buffer after it
pub record Wrote (before : List ℕ) (at : ℕ) (bs : List ℕ) (end : ℕ) (after : List ℕ) : Type 0 where
  pub ends : end ≡ at + length bs
  pub holds : after ≡ take at before ++ (bs ++ drop (at + length bs) before)
