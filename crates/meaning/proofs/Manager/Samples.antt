-- Samples of how operations overlap, computed. Each is small enough to follow by hand beside 01, "The lines".
-- Assumes nothing.
use mathlib.Core.Path.{◌≡◌, refl}
use mathlib.Core.Bool.{Bool, true, not, ◌&&◌}
use mathlib.Core.List.{List, [], ◌∷◌}
use Prim.Native.Nat.{ℕ, zero, suc}
use lib.Dec.{eqb}
use Rattle.meaning.specs.Numbers.{WENT, FINISHED}
use Rattle.meaning.specs.Store.{Store, fresh}
use Rattle.meaning.specs.Programs.{WRITE, READ, UNMAP, last_line}
use Rattle.meaning.specs.Call.{Entry, begin, call_store}
use Rattle.meaning.specs.Manager.{initial}
use Rattle.meaning.specs.Schedule.{operation, run, replies, steps, order, finished_by, obey_all}
use Rattle.meaning.specs.Demands.{kept}
use Rattle.meaning.proofs.Manager.View.{future, owing}

-- ---- a read that overtakes an unmap

-- thread 0 writes 7, then unmaps, up to so many lines; then thread 1 reads, three lines long where the number is unmapped
abbrev overtaken : ℕ → List Entry
overtaken lines =
    begin 0 WRITE 0 7 ∷ steps (last_line WRITE) 0 (begin 0 UNMAP 0 0 ∷ steps lines 0 (begin 1 READ 0 0 ∷ steps 3 1 []))

-- U10 done, U11 not: the read finishes with empty, and the unmap's answer is still owed
pub read_after_u10 : finished_by call_store (λ s. s) (fresh 2 1 2 1) 1 (overtaken 10) ≡ record { op = READ; value = 0 } ∷ []
read_after_u10 = refl

pub unmap_still_open : owing (run call_store (fresh 2 1 2 1) (overtaken 10)) 0 ≡ record { op = UNMAP; value = 0 } ∷ []
unmap_still_open = refl

-- and it stands after the unmap in the order
pub unmap_before_read : order call_store (λ s. s) (fresh 2 1 2 1) (overtaken 10) ≡
    operation 0 WRITE 0 7 ∷ operation 0 UNMAP 0 0 ∷ operation 1 READ 0 0 ∷ []
unmap_before_read = refl

-- a line earlier the read has to wait; the number's block is gone, and the number will hold nothing
pub read_before_u10 : finished_by call_store (λ s. s) (fresh 2 1 2 1) 1 (overtaken 9) ≡ []
read_before_u10 = refl

-- from U2 on what number 0 will hold is empty, while its block still holds 7
pub unmap_decided :
    kept (run call_store (fresh 2 1 2 1) (overtaken 2)) 0 ∷ (future (run call_store (fresh 2 1 2 1) (overtaken 2)) 0).content ∷ [] ≡ 7 ∷ 0 ∷ []
unmap_decided = refl

-- ---- a written 0

abbrev zeroed : List Entry
zeroed = begin 0 WRITE 0 5 ∷ steps (last_line WRITE) 0 (begin 0 WRITE 0 0 ∷ steps (last_line WRITE) 0 [])

-- the number is mapped, its block holds 0, and a read goes all its six lines to answer it
pub written_0_mapped : (run call_store (fresh 1 1 2 1) zeroed).map 0 ∷ kept (run call_store (fresh 1 1 2 1) zeroed) 0 ∷ [] ≡ 1 ∷ 0 ∷ []
written_0_mapped = refl

pub written_0_read :
    replies call_store (run call_store (fresh 1 1 2 1) zeroed) (begin 0 READ 0 0 ∷ steps (last_line READ) 0 []) ≡
    (WENT, 0) ∷ (WENT, 0) ∷ (WENT, 0) ∷ (WENT, 0) ∷ (WENT, 0) ∷ (WENT, 0) ∷ (FINISHED, 0) ∷ []
written_0_read = refl

pub written_0_manager : (obey_all initial (order call_store (λ s. s) (fresh 1 1 2 1) zeroed)).mapped 0 ≡ true
written_0_manager = refl

-- ---- two first writes begun together

-- number 0 is to hold 7 and number 1 to hold 9, each on a block of its own
abbrev each_its_own : Store → Bool
each_its_own s = eqb (kept s 0) 7 && eqb (kept s 1) 9 && not (eqb (s.map 0) (s.map 1))

-- every way in which threads 0 and 1 take so many turns, of so many steps each; and then both to their ends
abbrev every_way : ℕ → ℕ → Store → Bool
every_way zero turn s = each_its_own (run call_store s (steps 16 0 (steps 16 1 (steps 16 0 []))))
every_way (suc k) turn s =
    every_way k turn (run call_store s (steps turn 0 [])) && every_way k turn (run call_store s (steps turn 1 []))

abbrev together : Store
together = run call_store (fresh 2 2 3 1) (begin 0 WRITE 0 7 ∷ begin 1 WRITE 1 9 ∷ [])

pub first_writes_together : every_way 4 1 together && every_way 6 4 together ≡ true
first_writes_together = refl
