-- Laws of those operations of a list that pass a test, such as a thread's reads, writes and unmaps (`requests`): where each stands, and that
-- the manager answers each request. Nothing here speaks of a store. Assumes nothing.
use mathlib.Core.Path.{◌≡◌, refl, sym, ap, ◌∙◌}
use mathlib.Core.Bool.{Bool, true, false, not}
use mathlib.Core.List.{List, [], ◌∷◌, ◌++◌, map}
use Prim.Native.Nat.{ℕ, zero, suc, ◌<◌, ◌≤◌}
use native.Mathlib.Omega.{arith}
use lib.Dec.{eqb}
use lib.ListN.{length, get_or, length-map}
use Rattle.meaning.specs.Programs.{LEVEL}
use Rattle.meaning.specs.Manager.{Manager}
use Rattle.meaning.specs.Schedule.{Operation, emit, obey, managed}
use Rattle.meaning.specs.Demands.{those, of_thread, request_of, requests, place_from, place}
use Rattle.meaning.proofs.Base.Words.{either_way}

pub those-append : (test : Operation → Bool) (l l' : List Operation) → those test (l ++ l') ≡ those test l ++ those test l'
those-append test [] l' = refl
those-append test (o ∷ l) l' = either_way (test o) (λ x. rw (x, those-append test l l')) (λ x. rw x (those-append test l l'))

pub requests-of_thread : (u : ℕ) (l : List Operation) → requests u (of_thread u l) ≡ requests u l
requests-of_thread u [] = refl
requests-of_thread u (o ∷ l) =
    either_way (eqb o.thread u) (λ x. rw x (rw x (ap (λ r. emit (not (eqb o.op LEVEL)) o r) (requests-of_thread u l))))
    (λ x. rw x (requests-of_thread u l))

-- the manager answers each, in order
pub managed-ops : (m : Manager) (u : ℕ) (l : List Operation) → map (λ x. x.op) (managed m u l) ≡ map (λ o. o.op) (requests u l)
managed-ops m u [] = refl
managed-ops m u (o ∷ l) =
    either_way (request_of u o) (λ x. rw (x, managed-ops (obey o m) u l)) (λ x. rw x (managed-ops (obey o m) u l))

pub managed-length : (m : Manager) (u : ℕ) (l : List Operation) → length (managed m u l) ≡ length (requests u l)
managed-length m u l =
    sym (length-map (managed m u l) (λ x. x.op)) ∙ ap length (managed-ops m u l) ∙ length-map (requests u l) (λ o. o.op)

-- what stands at the place of one that passes the test is that one
from_place : (o : Operation) (r l : List Operation) (later : ℕ → ℕ) (none : Operation) →
    ((j : ℕ) → j < length r → get_or l (later j) none ≡ get_or r j none) → (mine : Bool) (i : ℕ) → i < length (emit mine o r) →
    get_or (o ∷ l) (place_from mine i later) none ≡ get_or (emit mine o r) i none
from_place o r l later none rest true zero b = refl
from_place o r l later none rest true (suc i) b = rest i (omega arith)
from_place o r l later none rest false i b = rest i b

pub place-holds : (test : Operation → Bool) (l : List Operation) (none : Operation) (i : ℕ) → i < length (those test l) →
    get_or l (place test l i) none ≡ get_or (those test l) i none
place-holds test [] none i b = absurd (omega arith)
place-holds test (o ∷ l) none i b =
    from_place o (those test l) l (place test l) none (place-holds test l none) (test o) i b

-- one that the first list has stands in it, and one that it has not stands after it
from_first : (o : Operation) (r : List Operation) (later : ℕ → ℕ) (n : ℕ) → ((j : ℕ) → j < length r → later j < n) →
    (mine : Bool) (i : ℕ) → i < length (emit mine o r) → place_from mine i later < suc n
from_first o r later n rest true zero b = omega arith
from_first o r later n rest true (suc i) b = let x = rest i (omega arith) in omega arith
from_first o r later n rest false i b = let x = rest i b in omega arith

pub place_first : (test : Operation → Bool) (l l' : List Operation) (i : ℕ) → i < length (those test l) → place test (l ++ l') i < length l
place_first test [] l' i b = absurd (omega arith)
place_first test (o ∷ l) l' i b =
    from_first o (those test l) (place test (l ++ l')) (length l) (place_first test l l') (test o) i b

from_second : (o : Operation) (r : List Operation) (later : ℕ → ℕ) (n : ℕ) → ((j : ℕ) → length r ≤ j → n ≤ later j) →
    (mine : Bool) (i : ℕ) → length (emit mine o r) ≤ i → suc n ≤ place_from mine i later
from_second o r later n rest true zero b = absurd (omega arith)
from_second o r later n rest true (suc i) b = let x = rest i (omega arith) in omega arith
from_second o r later n rest false i b = let x = rest i b in omega arith

pub place-second : (test : Operation → Bool) (l l' : List Operation) (i : ℕ) → length (those test l) ≤ i → length l ≤ place test (l ++ l') i
place-second test [] l' i b = omega arith
place-second test (o ∷ l) l' i b =
    from_second o (those test l) (place test (l ++ l')) (length l) (place-second test l l') (test o) i b
