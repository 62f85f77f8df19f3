-- 02, §2: the page that the program `wearsheet` prints of a sheet: one labelled figure a line, and a dash for what is said of the wear where no
-- block was seen.
use Rattle.std.specs.Prelude.{List, [], ◌∷◌, ◌++◌, ℕ, ◌+◌, ◌*◌}
use Prim.Native.String.{String}
use Rattle.script.specs.Syntax.{NEWLINE}
use Rattle.script.specs.Printing.{bytes_of, figures}
use Rattle.sheet.specs.Sheet.{Sheet, Wear, none, some}

-- a number of 64 bits has at most twenty digits
abbrev pub most_digits : ℕ
most_digits = 20

abbrev pub number : ℕ → List ℕ
number v = figures most_digits v

abbrev pub dash : List ℕ
dash = bytes_of "-"

abbrev pub labelled : List ℕ → List ℕ → List ℕ
labelled label figure = label ++ (bytes_of ": " ++ (figure ++ (NEWLINE ∷ [])))

abbrev pub line : String → List ℕ → List ℕ
line label figure = labelled (bytes_of label) figure

abbrev pub wear_lines : List ℕ → List ℕ → List ℕ → List ℕ → List ℕ
wear_lines least most mean rest =
    line "least wear" least ++ (line "most wear" most ++ (line "mean wear" mean ++ line "remainder" rest))

abbrev pub worn_page : Wear → List ℕ
worn_page none = wear_lines dash dash dash dash
worn_page (some least most mean rest) = wear_lines (number least) (number most) (number mean) (number rest)

abbrev pub count_lines : Sheet → List ℕ
count_lines s =
    line "areas" (number s.areas)
    ++ (line "skipped" (number s.skipped)
    ++ (line "blocks" (number s.blocks)
    ++ (line "free blocks" (number s.free) ++ line "sum of wear" (number s.sum))))

abbrev pub page_of : Sheet → List ℕ
page_of s = count_lines s ++ worn_page s.wear

-- the longest labels are "free blocks" and "sum of wear"
abbrev pub most_label : ℕ
most_label = 11

-- a line has at most a label, a colon and a blank, a number and a newline
abbrev pub most_line : ℕ
most_line = most_label + 2 + most_digits + 1

-- and a page nine lines
abbrev pub most_page : ℕ
most_page = 9 * most_line
