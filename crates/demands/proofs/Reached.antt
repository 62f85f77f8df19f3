-- Computed: what the demands speak of is there.
--  * needs-fault: each line goes on an area made by hand that has what the line needs, and meets FAULT (a take: BLOCKED) where one thing of it is
--    lacking; both where all else is free and where all else is the thread's.
--  * meetings_come, meetings-grown: areas grown from fresh where two threads are open at once. In the middle of a write and of a levelling
--    that moves a block they step in either order, to the same bytes, and so they do at a take of one lock for reading; where both are at a take of
--    one lock and not both for reading, whoever comes second is BLOCKED, and the bytes are others.
--  * overtaking-comes: a read that overtakes a write is before it in the order of last locks and gives empty; the bytes are those of
--    the operations run one at a time in that order.
--  * after_u10_comes: a read finishes with empty when U10 is done and U11 isn't, and stands after the unmap in the order.
--  * reuse_comes, reuse_grown: an area grown from fresh at W8 of a write whose block still holds what was written before it was freed; W8
--    empties it, and it is empty until W14.
--  * largest_wear_stays, rewriting-wears, finished-with, ties_chosen: on areas made by hand, U7 and L13 leave the largest wear as it is, and the one
--    below goes up to it; W3 wears the block that the map names, and no other; what each operation finishes with, with 7 in register c; and L3 chooses
--    the lowest numbers on ties.
-- Assumes nothing.
use mathlib.Core.Path.{◌≡◌, refl}
use mathlib.Core.Bool.{Bool, true, ◌&&◌}
use mathlib.Core.List.{List, [], ◌∷◌, map}
use Prim.Native.Nat.{ℕ, zero, suc, ◌<◌}
use native.Mathlib.Omega.{arith}
use lib.Dec.{eqb, leb}
use lib.ListN.{replicate}
use borrow.Author.Tests.{leb-true, eqb-true}
use Rattle.meaning.specs.Numbers.{WENT}
use Rattle.meaning.specs.Limits.{most_word}
use Rattle.meaning.specs.Programs.{WRITE, READ, UNMAP, LEVEL}
use Rattle.meaning.specs.Call.{Entry, begin, step}
use Rattle.meaning.specs.Schedule.{formatted, run}
use Rattle.meaning.proofs.Base.Words.{and_left, and_right}
use Rattle.store.specs.Layout.{size}
use Rattle.store.specs.Area.{Bytes, well_formed}
use Rattle.store.specs.Calls.{format, call_area, Grown}
use Rattle.demands.specs.NeedSamples.{line_needs, all_given, all_wanted}
use Rattle.demands.specs.Reached.{Meeting, formed, reached, meet, meetings, Each, overlap, overtaking, overtaken, slipping, slipped, contents, reusing, reused, freed_from, looked_up, finished_with, tied, choice}
use Rattle.demands.specs.History.{AllWords}
use Rattle.demands.proofs.Bridge.{run-grown}

pub needs-fault : (all_given 0 0 ≡ all_wanted) × (all_given 1 65536 ≡ all_wanted)
unfolding line_needs well_formed
needs-fault = (refl, refl)

pub meetings_come : map (λ m. meet (reached m)) meetings ≡ map (λ m. m.comes) meetings
unfolding meetings well_formed
meetings_come = refl

pub overtaking-comes : overlap (formed 2 1 2 1).after overtaking ≡ overtaken
unfolding well_formed
overtaking-comes = refl

pub after_u10_comes : overlap (formed 2 1 2 1).after slipping ≡ slipped
unfolding well_formed
after_u10_comes = refl

pub reuse_comes : contents 7 (run call_area (formed 1 1 2 1).after reusing) ≡ reused
unfolding well_formed
reuse_comes = refl

-- ---- the areas are grown from fresh

replicate-bytes : (count v : ℕ) → v < 256 → Bytes (replicate count v)
replicate-bytes zero v h i = omega arith
replicate-bytes (suc count) v h zero = h
replicate-bytes (suc count) v h (suc i) = replicate-bytes count v h i

-- a schedule's numbers are words, as a test
are_words : List Entry → Bool
are_words [] = true
are_words (begin t op n c ∷ w) = are_words w && leb t most_word && leb op most_word && leb n most_word && leb c most_word
are_words (step t ∷ w) = are_words w && leb t most_word

words_are : (w : List Entry) → are_words w ≡ true → AllWords w
unfolding are_words
words_are [] x = tt
words_are (begin t op n c ∷ w) x =
    let b₄ = are_words w && leb t most_word && leb op most_word && leb n most_word in
    let b₃ = are_words w && leb t most_word && leb op most_word in
    let b₂ = are_words w && leb t most_word in
    let x₄ = and_left b₄ (leb c most_word) x in
    let x₃ = and_left b₃ (leb n most_word) x₄ in
    let x₂ = and_left b₂ (leb op most_word) x₃ in (
      (
        leb-true t most_word (and_right (are_words w) _ x₂),
        leb-true op most_word (and_right b₂ _ x₃),
        leb-true n most_word (and_right b₃ _ x₄),
        leb-true c most_word (and_right b₄ _ x),
      ),
      words_are w (and_left (are_words w) _ x₂),
    )
words_are (step t ∷ w) x = (leb-true t most_word (and_right (are_words w) _ x), words_are w (and_left (are_words w) _ x))

-- a format that gives WENT, and a schedule of words
starts_well : ℕ → ℕ → ℕ → ℕ → List Entry → Bool
starts_well t n p d w = eqb (formed t n p d).number WENT && are_words w

run-formed : (t n p d : ℕ) (w : List Entry) → starts_well t n p d w ≡ true → Grown (run call_area (formed t n p d).after w)
unfolding starts_well
run-formed t n p d w x =
    let starts = eqb-true (formed t n p d).number WENT (and_left _ (are_words w) x) in
    let bytes = replicate-bytes (size t n p) 255 (omega arith) in
    run-grown (formed t n p d).after (formatted (format (replicate (size t n p) 255) bytes t n p d starts)) w
    (words_are w (and_right (eqb (formed t n p d).number WENT) _ x))

all_start : List Meeting → Bool
all_start [] = true
all_start (m ∷ l) = all_start l && starts_well m.t m.n m.p m.d m.before

each_grown : (l : List Meeting) → all_start l ≡ true → Each (λ m. Grown (reached m)) l
unfolding all_start
each_grown [] x = tt
each_grown (m ∷ l) x =
    (run-formed m.t m.n m.p m.d m.before (and_right (all_start l) _ x), each_grown l (and_left (all_start l) _ x))

pub meetings-grown : Each (λ m. Grown (reached m)) meetings
unfolding meetings all_start starts_well are_words
meetings-grown = each_grown meetings refl

pub reuse_grown : Grown (run call_area (formed 1 1 2 1).after reusing)
unfolding starts_well are_words
reuse_grown = run-formed 1 1 2 1 reusing refl

-- ---- one step on an area made by hand

-- wear at 4,294,967,295 is left as it is, at U7 and at L13, and one below goes up to it
pub largest_wear_stays :
    freed_from UNMAP 7 4294967294 ∷ freed_from UNMAP 7 4294967295 ∷ freed_from LEVEL 13 4294967294 ∷ freed_from LEVEL 13 4294967295 ∷ []
    ≡ 4294967295 ∷ 4294967295 ∷ 4294967295 ∷ 4294967295 ∷ []
unfolding well_formed
largest_wear_stays = refl

-- W3 wears the block that the map names, whosever it is: none; the free one; number 1's; the last, number 0's; and the last with the wear below the
-- largest, and with the largest
pub rewriting-wears :
    looked_up 0 6 ∷ looked_up 1 6 ∷ looked_up 2 6 ∷ looked_up 3 6 ∷ looked_up 3 4294967294 ∷ looked_up 3 4294967295 ∷ []
    ≡ (0 ∷ 4 ∷ 1 ∷ 4 ∷ 5 ∷ 6 ∷ [])
    ∷ (0 ∷ 12 ∷ 0 ∷ 5 ∷ 5 ∷ 6 ∷ [])
    ∷ (0 ∷ 12 ∷ 1 ∷ 4 ∷ 6 ∷ 6 ∷ [])
    ∷ (0 ∷ 12 ∷ 2 ∷ 4 ∷ 5 ∷ 7 ∷ [])
    ∷ (0 ∷ 12 ∷ 2 ∷ 4 ∷ 5 ∷ 4294967295 ∷ [])
    ∷ (0 ∷ 12 ∷ 2 ∷ 4 ∷ 5 ∷ 4294967295 ∷ [])
    ∷ []
unfolding well_formed
rewriting-wears = refl

-- W16, R6 and U11, and L18 where nothing was moved and where something was
pub finished-with :
    finished_with 65536 WRITE 16 0 ∷ finished_with 1 READ 6 0 ∷ finished_with 0 UNMAP 11 0 ∷ finished_with 0 LEVEL 18 0 ∷ finished_with 0 LEVEL 18 1 ∷ []
    ≡ (1, 0) ∷ (1, 7) ∷ (1, 0) ∷ (1, 0) ∷ (1, 1) ∷ []
unfolding well_formed
finished-with = refl

-- of equally worn blocks the lowest number, as "from" and as "to"
pub ties_chosen : choice tied ≡ (2, 0)
unfolding well_formed
ties_chosen = refl
