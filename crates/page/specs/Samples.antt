-- Pages computed: of nothing, of blocks whose mean has a remainder, and of the largest figures. Assumes nothing.
use Rattle.std.specs.Prelude.{◌≡◌, refl, List, [], ◌∷◌, ◌++◌, ℕ}
use Prim.Native.String.{String}
use Rattle.script.specs.Syntax.{NEWLINE}
use Rattle.script.specs.Printing.{bytes_of, figures}
use Rattle.sheet.specs.Sheet.{sheet_of}
use Rattle.sheet.specs.Adding.{shown}
use Rattle.page.specs.Page.{number, page_of}

abbrev lines : List String → List ℕ
lines [] = []
lines (text ∷ texts) = bytes_of text ++ (NEWLINE ∷ lines texts)

-- no area, so no block: dashes
pub nothing_seen :
    page_of (sheet_of [])
    ≡ lines ("areas: 0" ∷ "skipped: 0" ∷ "blocks: 0" ∷ "free blocks: 0" ∷ "sum of wear: 0" ∷
    "least wear: -" ∷ "most wear: -" ∷ "mean wear: -" ∷ "remainder: -" ∷ [])
unfolding figures
nothing_seen = refl

-- 17 in 6 blocks is 2 each, and 5 are left
pub worn :
    page_of (shown (record { areas = 3; skipped = 1; blocks = 6; free = 2; least = 0; most = 7; sum = 17 }))
    ≡ lines ("areas: 3" ∷ "skipped: 1" ∷ "blocks: 6" ∷ "free blocks: 2" ∷ "sum of wear: 17" ∷
    "least wear: 0" ∷ "most wear: 7" ∷ "mean wear: 2" ∷ "remainder: 5" ∷ [])
unfolding figures
worn = refl

-- 200 areas of 512 blocks, each worn as far as a word goes
pub worn_out :
    page_of
    (shown
    (record {
      areas = 200;
      skipped = 0;
      blocks = 102400;
      free = 0;
      least = 4294967295;
      most = 4294967295;
      sum = 439804651008000;
    }))
    ≡ lines ("areas: 200" ∷ "skipped: 0" ∷ "blocks: 102400" ∷ "free blocks: 0" ∷ "sum of wear: 439804651008000" ∷
    "least wear: 4294967295" ∷ "most wear: 4294967295" ∷ "mean wear: 4294967295" ∷ "remainder: 0" ∷ [])
unfolding figures
worn_out = refl

-- the largest number of 64 bits has all its digits
pub largest : number 18446744073709551615 ≡ bytes_of "18446744073709551615"
unfolding figures
largest = refl
