-- Laws of writing a page: one part after another, and how long its lines are. Assumes nothing.
use mathlib.Core.Path.{◌≡◌, refl, ◌∙◌}
use mathlib.Core.List.{List, [], ◌∷◌, ◌++◌}
use Prim.Native.Nat.{ℕ, ◌+◌, ◌*◌, ◌≤◌, ◌<◌}
use native.Mathlib.Numerals.{add-one}
use native.Mathlib.Omega.{arith}
use lib.ListN.{length, take, get_or, length-append}
use lib.Seq.{take-suc, length-take-le}
use Rattle.std.specs.Option.{option_map}
use Rattle.std.proofs.Common.{Option, None, Some}
use Rattle.script.specs.Printing.{Wrote}
use Rattle.script.proofs.Writing.{wrote_then, figures_most}
use Rattle.sheet.specs.Sheet.{Sheet, Wear, none, some}
use Rattle.page.specs.declared.Out.{Out}
use Rattle.page.specs.declared.Worn.{Worn}
use Rattle.page.specs.Page.{most_digits, number, wear_lines, worn_page, count_lines, page_of, most_line, most_page}
use Rattle.page.specs.Figure.{figure_of, seen}
use Rattle.page.specs.Out.{Puts}

-- ---- writing

-- one part after another, where the first ends inside the buffer
pub wrote_on :
    {b b' b'' xs ys : List ℕ} {at m e : ℕ} → Wrote b at xs m b' → m ≤ length b → Wrote b' m ys e b'' → Wrote b at (xs ++ ys) e b''
wrote_on {b} {b'} {b''} {xs} {ys} {at} one inside two = wrote_then b at xs (omega (arith, one.ends)) ys one two

-- a byte more of a text
pub wrote-more :
    {b b' b'' : List ℕ} {at m e i : ℕ} (text : List ℕ) → at + length text ≤ length b → i < length text
    → Wrote b at (take i text) m b' → Wrote b' m (get_or text i 0 ∷ []) e b'' → Wrote b at (take (i + 1) text) e b''
wrote-more {i = i} text fits here one two =
    let short = length-take-le i text (omega arith) in
    rw (add-one, take-suc text i 0) (wrote_on one (omega (arith, one.ends, short)) two)

-- one part after another, of a page
pub puts_then : {a b c : Out} {xs ys : List ℕ} → Puts a xs b → Puts b ys c → Puts a (xs ++ ys) c
puts_then {a} {b} {c} {xs} {ys} one two =
    record {
      wrote = wrote_then a.bytes.now a.at xs (omega (arith, one.wrote.ends, one.inside, one.long)) ys one.wrote two.wrote;
      inside = two.inside;
      long = two.long ∙ one.long;
      same = two.same ∙ one.same;
    }

-- a buffer that is another's by name is what that one became
pub wrote_there : {b b' b'' bs : List ℕ} {at e : ℕ} → Wrote b at bs e b' → b' ≡ b'' → Wrote b at bs e b''
wrote_there w same = rw same at w

-- the lines on the wear, a figure each
pub worn_each :
    (wear : Option Worn) →
    worn_page (seen wear)
    ≡ wear_lines (figure_of (option_map (λ w. w.least) wear)) (figure_of (option_map (λ w. w.most) wear))
    (figure_of (option_map (λ w. w.mean) wear)) (figure_of (option_map (λ w. w.rest) wear))
worn_each None = refl
worn_each (Some w) = refl

-- ---- lengths

abbrev short : (v : ℕ) → length (number v) ≤ most_digits
short v = figures_most most_digits v

pub counts_most : (s : Sheet) → length (count_lines s) ≤ 5 * most_line
counts_most s =
    simp length-append (omega (arith, short s.areas, short s.skipped, short s.blocks, short s.free, short s.sum))

wear_most : (w : Wear) → length (worn_page w) ≤ 4 * most_line
wear_most none = omega arith
wear_most (some least most mean rest) =
    simp length-append (omega (arith, short least, short most, short mean, short rest))

-- no page is longer than `most_page`
pub page_most : (s : Sheet) → length (page_of s) ≤ most_page
page_most s = omega (arith, length-append (count_lines s) (worn_page s.wear), counts_most s, wear_most s.wear)
