-- The definitions computed: 01's example line by line, and inputs of other kinds. Assumes nothing.
use Rattle.std.specs.Prelude.{◌≡◌, refl, List, [], ◌∷◌, ◌++◌, map, ℕ}
use Prim.Native.String.{String}
use Rattle.meaning.specs.Numbers.{SHAPE}
use Rattle.meaning.specs.Call.{Entry}
use Rattle.store.specs.Area.{well_formed}
use Rattle.store.specs.Calls.{call_area}
use Rattle.script.specs.Syntax.{NEWLINE, BLANK, ZERO, NINE, LETTER_B, LETTER_F, LETTER_S}
use Rattle.script.specs.Printing.{bytes_of, figures}
use Rattle.script.specs.Output.{output}

abbrev joined : List String → List ℕ
joined [] = []
joined (text ∷ texts) = bytes_of text ++ joined texts

pub named : bytes_of "\n 09bfs" ≡ NEWLINE ∷ BLANK ∷ ZERO ∷ NINE ∷ LETTER_B ∷ LETTER_F ∷ LETTER_S ∷ []
named = refl

-- an input, and what is printed for it
pub record Sample : Type 0 where
  pub input : String
  pub prints : String

-- the example of 01, "The script program": each line, and beside it what it prints; by 02, §3, the second reader isn't blocked
abbrev example : List Sample
example =
    (record { input = "f 2 1 2 1\n"; prints = "0 0\n" }) ∷
    (record { input = "b 0 2 0 9\n"; prints = "0 0\n" }) ∷
    (record { input = "b 1 2 0 0\n"; prints = "0 0\n" }) ∷
    (record { input = "s 0\n"; prints = "0 0\n" }) ∷
    (record { input = "s 1\n"; prints = "0 0\n" }) ∷
    (record { input = "s 0\n"; prints = "0 0\n" }) ∷
    (record { input = "s 0\n"; prints = "1 0\n" }) ∷
    (record { input = "s 1\n"; prints = "0 0\n" }) ∷
    (record { input = "s 0\n"; prints = "13 0\n" }) ∷
    []

pub example_prints : output (joined (map (λ s. s.input) example)) ≡ joined (map (λ s. s.prints) example)
unfolding well_formed figures output
example_prints = refl

-- each an input of its own
abbrev others : List Sample
others =
    -- empty input prints nothing
    (record { input = ""; prints = "" }) ∷
    -- before the first `f`
    (record { input = "s 0\n"; prints = "10 0\n" }) ∷
    -- the largest number
    (record { input = "b 4294967295 0 0 0\n"; prints = "10 0\n" }) ∷
    -- one more than the largest number
    (record { input = "s 4294967296\n"; prints = "19 0\n" }) ∷
    -- a leading zero
    (record { input = "s 00\n"; prints = "19 0\n" }) ∷
    -- two blanks
    (record { input = "s  0\n"; prints = "19 0\n" }) ∷
    -- a blank at the end
    (record { input = "s 0 \n"; prints = "19 0\n" }) ∷
    -- a blank at the front
    (record { input = " s 0\n"; prints = "19 0\n" }) ∷
    -- a field too few
    (record { input = "s\n"; prints = "19 0\n" }) ∷
    -- a field too many
    (record { input = "s 0 0\n"; prints = "19 0\n" }) ∷
    -- another letter
    (record { input = "x 0\n"; prints = "19 0\n" }) ∷
    -- an empty line
    (record { input = "\n"; prints = "19 0\n" }) ∷
    -- an end without newline
    (record { input = "s 0\ns 0"; prints = "10 0\n19 0\n" }) ∷
    -- nothing is printed after a line of another form
    (record { input = "s\ns 0\n"; prints = "19 0\n" }) ∷
    -- `f` is refused, and the store is the one of before
    (record { input = "f 2 1 2 1\nf 17 1 2 1\ns 0\n"; prints = "0 0\n17 0\n13 0\n" }) ∷
    -- the largest sizes
    (record { input = "f 4294967295 4294967295 4294967295 4294967295\n"; prints = "17 0\n" }) ∷
    []

pub others_print : map (λ s. output (bytes_of s.input)) others ≡ map (λ s. bytes_of s.prints) others
unfolding well_formed figures output
others_print = refl

-- as long as no `f` was accepted, `b` and `s` answer SHAPE: there is no store, and there is none after them
pub no_store : (e : Entry) → call_area [] e ≡ record { number = SHAPE; value = 0; after = [] }
unfolding well_formed
no_store e = refl
