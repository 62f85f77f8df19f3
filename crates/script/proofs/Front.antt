-- The front of a list and its rest: a call on the front of a buffer, which leaves what stands behind it as it was. Assumes nothing.
use mathlib.Core.Bool.{Bool, true, false, cond}
use mathlib.Core.Path.{◌≡◌, ◌∙◌, refl, sym, ap}
use mathlib.Core.List.{List, [], ◌∷◌, ◌++◌}
use Prim.Native.Nat.{ℕ, zero, suc, ◌-◌, ◌≤◌}
use native.Mathlib.Omega.{arith}
use borrow.Author.Tests.{eq-eqb, ne_eqb, leb-true}
use lib.Dec.{leb}
use lib.ListN.{length, take, drop, take-append-drop, length-drop}
use Rattle.std.proofs.lemmas.List.{take_all}
use lib.Seq.{length-take-le, take_at}
use Rattle.std.specs.Prelude.{Result}
use Rattle.meaning.specs.Numbers.{WENT}
use Rattle.meaning.specs.Call.{Reply}
use Rattle.store.specs.Layout.{size, largest}
use Rattle.store.specs.Area.{Bytes}
use Rattle.store.specs.Calls.{format_area}
use Rattle.calls.specs.declared.Accepted.{Accepted}
use Rattle.calls.specs.declared.Refusal.{Refusal}
use Rattle.calls.specs.Answering.{number_of, value_of, answered}
use Rattle.script.specs.Output.{unless_went, format_new}
use Rattle.script.proofs.Formats.{format-refused, format-new}

pub bytes_take : (n : ℕ) (l : List ℕ) → Bytes l → Bytes (take n l)
bytes_take zero l h i = omega arith
bytes_take (suc n) [] h i = omega arith
bytes_take (suc n) (x ∷ l) h zero = h 0
bytes_take (suc n) (x ∷ l) h (suc i) = bytes_take n l (λ j. h (suc j)) i

-- a begin or a step there, which keeps the length
pub taken-call :
    (buffer : List ℕ) (used : ℕ) → used ≤ length buffer → (answer : Result Accepted Refusal) (front : List ℕ) (r : Reply (List ℕ))
    → answered answer front ≡ r → length front ≡ length (take used buffer)
    → answered answer (take used (front ++ drop used buffer)) ≡ r
taken-call buffer used inside answer front r e kept = rw (take_at front (drop used buffer) used (kept ∙ length-take-le used buffer inside)) e

-- all that is left is the rest
pub take_rest : (n : ℕ) (xs : List ℕ) → take (length xs - n) (drop n xs) ≡ drop n xs
take_rest n xs =
    let long : length (drop n xs) ≤ length xs - n = rw length-drop (omega arith) in
    take_all (length xs - n) (drop n xs) long

-- ---- the format of a new store on the front of a buffer

pub wanted-fits : (t n p want : ℕ) → want ≡ cond (leb (size t n p) largest) (size t n p) 0 → want ≤ largest
wanted-fits t n p want e = each (leb (size t n p) largest) refl e
  where
    each : (b : Bool) → leb (size t n p) largest ≡ b → want ≡ cond b (size t n p) 0 → want ≤ largest
    each true small h = omega (arith, leb-true (size t n p) largest small)
    each false large h = omega arith

module _ (buffer : List ℕ) (used want t n p d : ℕ)
    (inside : want ≤ length buffer)
    (exact : want ≡ cond (leb (size t n p) largest) (size t n p) 0)
    (answer : Result Accepted Refusal) (front : List ℕ)
    (e : answered answer front ≡ format_area (take want buffer) t n p d) where
  number-same : number_of answer ≡ (format_area (take want buffer) t n p d).number
  number-same = ap (λ (x : Reply (List ℕ)). x.number) e

  value-same : value_of answer ≡ (format_area (take want buffer) t n p d).value
  value-same = ap (λ (x : Reply (List ℕ)). x.value) e

  after-same : front ≡ (format_area (take want buffer) t n p d).after
  after-same = ap (λ (x : Reply (List ℕ)). x.after) e

  -- what the format answers is the new store's, whatever stood in the buffer
  new : unless_went (take used buffer) (format_area (take want buffer) t n p d) ≡ format_new (take used buffer) t n p d
  new = format-new (take want buffer) t n p d (take used buffer) (length-take-le want buffer inside ∙ exact)

  pub taken-went :
      number_of answer ≡ WENT → length front ≡ want
      → answered answer (take want (front ++ drop want buffer)) ≡ format_new (take used buffer) t n p d
  taken-went is long =
      let went : (format_area (take want buffer) t n p d).number ≡ WENT = sym number-same ∙ is in
      rw (take_at front (drop want buffer) want long, number-same, value-same, after-same) ((rw (eq-eqb _ _ went)) ∙ new)

  pub taken_refused :
      (number_of answer ≡ WENT → ⊥) → answered answer (take used (front ++ drop want buffer)) ≡ format_new (take used buffer) t n p d
  taken_refused some =
      let refused : (format_area (take want buffer) t n p d).number ≡ WENT → ⊥ = λ went. some (number-same ∙ went) in
      let front_kept : front ≡ take want buffer = after-same ∙ format-refused (take want buffer) t n p d refused in
      let kept : front ++ drop want buffer ≡ buffer = rw front_kept (take-append-drop want buffer) in
      rw (kept, number-same, value-same) ((rw (ne_eqb _ _ refused)) ∙ new)
