-- Laws of the lines of an input: what `lines` comes to by the position of the first newline, and when it is looked for byte after byte. Assumes nothing.
use mathlib.Core.Bool.{Bool, true, false, cond, not}
use mathlib.Core.Path.{◌≡◌, ◌∙◌, refl, sym, ap}
use mathlib.Core.List.{List, [], ◌∷◌, ◌++◌}
use Prim.Native.Nat.{ℕ, suc, ◌+◌, ◌-◌, ◌≤◌, ◌<◌}
use native.Mathlib.Numerals.{add-one}
use native.Mathlib.Omega.{arith}
use borrow.Author.Tests.{ltb-true, ltb-false, eq-eqb, ne_eqb}
use lib.Dec.{eqb, ltb}
use lib.ListN.{length, get_or, take, drop, length-drop}
use lib.Seq.{drop-cons, take-suc, get_or-drop}
use Rattle.std.proofs.Common.{Option, Some, None}
use Rattle.std.specs.List.{position_or_len}
use Rattle.script.specs.Syntax.{NEWLINE, Lines, end, torn, line, onto, lines}

-- how many bytes stand before the first newline
abbrev pub first : List ℕ → ℕ
first s = position_or_len (λ b. eqb b NEWLINE) s

line_first : (s : List ℕ) → first s < length s → line (take (first s) s) (lines (drop (first s + 1) s)) ≡ lines s
line_first [] h = absurd (omega arith)
line_first (c ∷ cs) h = each (eqb c NEWLINE) h (line_first cs)
  where
    each : (b : Bool) → cond (not b) (1 + first cs) 0 < length (c ∷ cs)
        → (first cs < length cs → line (take (first cs) cs) (lines (drop (first cs + 1) cs)) ≡ lines cs)
        → line (take (cond (not b) (1 + first cs) 0) (c ∷ cs)) (lines (drop (cond (not b) (1 + first cs) 0 + 1) (c ∷ cs))) ≡ onto b c (lines cs)
    each true h more = refl
    each false h more =
        let e : 1 + first cs ≡ suc (first cs) = omega arith in
        let d : suc (first cs) + 1 ≡ suc (first cs + 1) = omega arith in
        rw (e, d) (ap (onto false c) (more (omega arith)))

-- bytes with no newline
torn_after : (c : ℕ) (cs : List ℕ) → length cs ≤ first cs → onto false c (lines cs) ≡ torn
torn_after c [] h = refl
torn_after c (d ∷ ds) h = each (eqb d NEWLINE) h (torn_after d ds)
  where
    each : (b : Bool) → length (d ∷ ds) ≤ cond (not b) (1 + first ds) 0 → (length ds ≤ first ds → onto false d (lines ds) ≡ torn)
        → onto false c (onto b d (lines ds)) ≡ torn
    each true h more = absurd (omega arith)
    each false h more = ap (onto false c) (more (omega arith))

torn_first : (s : List ℕ) → 0 < length s → length s ≤ first s → torn ≡ lines s
torn_first [] some h = absurd (omega arith)
torn_first (c ∷ cs) some h = each (eqb c NEWLINE) h
  where
    each : (b : Bool) → length (c ∷ cs) ≤ cond (not b) (1 + first cs) 0 → torn ≡ onto b c (lines cs)
    each true h = absurd (omega arith)
    each false h = sym (torn_after c cs (omega arith))

-- what a search for the first newline found
module _ (s : List ℕ) (r : Option ℕ) (found : r ≡ cond (ltb (first s) (length s)) (Some (first s)) None) where
  pub line-found : (at : ℕ) → r ≡ Some at → line (take at s) (lines (drop (at + 1) s)) ≡ lines s
  line-found at e = each (ltb (first s) (length s)) refl (sym e ∙ found)
    where
      each : (b : Bool) → ltb (first s) (length s) ≡ b → Some at ≡ cond b (Some (first s)) None
          → line (take at s) (lines (drop (at + 1) s)) ≡ lines s
      each true l same = let at_first : at ≡ first s = cc in rw at_first (line_first s (ltb-true _ _ l))
      each false l same = cc

  pub torn-found : r ≡ None → 0 < length s → torn ≡ lines s
  torn-found e some = each (ltb (first s) (length s)) refl (sym e ∙ found)
    where
      each : (b : Bool) → ltb (first s) (length s) ≡ b → None ≡ cond b (Some (first s)) None → torn ≡ lines s
      each true l same = cc
      each false l same = torn_first s some (ltb-false _ _ l)

-- ---- bytes before the lines of what follows them

-- none of the bytes is a newline
abbrev pub prefixed : List ℕ → Lines → Lines
prefixed [] ls = ls
prefixed (c ∷ cs) ls = onto false c (prefixed cs ls)

pub prefixed-line : (l : List ℕ) (ls : Lines) → prefixed l (line [] ls) ≡ line l ls
prefixed-line [] ls = refl
prefixed-line (c ∷ cs) ls = ap (onto false c) (prefixed-line cs ls)

prefixed-end : (c : ℕ) (cs : List ℕ) → prefixed (c ∷ cs) end ≡ torn
prefixed-end c [] = refl
prefixed-end c (d ∷ ds) = ap (onto false c) (prefixed-end d ds)

pub prefixed-torn : (l : List ℕ) → 0 < length l → prefixed l end ≡ torn
prefixed-torn [] h = absurd (omega arith)
prefixed-torn (c ∷ cs) h = prefixed-end c cs

prefixed-more : (l : List ℕ) (c : ℕ) (ls : Lines) → prefixed (l ++ (c ∷ [])) ls ≡ prefixed l (onto false c ls)
prefixed-more [] c ls = refl
prefixed-more (b ∷ bs) c ls = ap (onto false b) (prefixed-more bs c ls)

-- ---- the first newline of a list from a place on, byte after byte, as no function looks for it now

module _ (s : List ℕ) (at e : ℕ) (from : at ≤ e) (inside : e < length s) where
  -- one byte more
  taken_more : take (e + 1 - at) (drop at s) ≡ take (e - at) (drop at s) ++ (get_or s e 0 ∷ [])
  taken_more =
      let n : e + 1 - at ≡ suc (e - at) = omega arith in
      let m : at + (e - at) ≡ e = omega arith in
      let h : e - at < length (drop at s) = rw length-drop (omega arith) in
      rw (n, take-suc (drop at s) (e - at) 0 h, get_or-drop, m)

  pub lines_at_newline :
      get_or s e 0 ≡ NEWLINE → prefixed (take (e - at) (drop at s)) (lines (drop e s))
      ≡ line (take (e - at) (drop at s)) (lines (drop (e + 1) s))
  lines_at_newline h = rw (add-one, drop-cons s e 0 inside, eq-eqb _ _ h) (prefixed-line _ _)

  pub lines-past :
      (get_or s e 0 ≡ NEWLINE → ⊥) → prefixed (take (e - at) (drop at s)) (lines (drop e s))
      ≡ prefixed (take (e + 1 - at) (drop at s)) (lines (drop (e + 1) s))
  lines-past h =
      rw (taken_more, prefixed-more, add-one, drop-cons s e 0 inside, ne_eqb _ _ h)
