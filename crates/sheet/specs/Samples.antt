-- The definitions computed: small areas, and tallies at each bound of what TALLY and FULL are for. Assumes nothing.
use Rattle.std.specs.Prelude.{◌≡◌, refl, List, [], ◌∷◌, map, ℕ}
use Rattle.meaning.specs.Numbers.{packed}
use Rattle.meaning.specs.Table.{upd}
use Rattle.meaning.specs.Store.{idle}
use Rattle.store.specs.Area.{encode, well_formed}
use Rattle.sheet.specs.declared.Tally.{Tally}
use Rattle.sheet.specs.Sheet.{none, some, sheet_of}
use Rattle.sheet.specs.Adding.{zeros, add_area, add_all}

-- one thread, number 0 mapped to block 0, and a free block 1, with these wears
abbrev small : ℕ → ℕ → List ℕ
small first second =
    encode
    (record {
      threads = 1;
      numbers = 1;
      blocks = 2;
      distance = 1;
      lock = 0;
      owner = 0;
      thread = λ _. idle;
      map = λ _. 1;
      locks = λ _. 0;
      header = upd (λ _. 0) 0 1;
      content = λ _. 0;
      wear = upd (upd (λ _. 0) 0 first) 1 second;
      own = λ _. 0;
    })

-- three areas, the second of them empty, so malformed
abbrev three : List (List ℕ)
three = small 3 7 ∷ [] ∷ small 4 9 ∷ []

pub three_sheet :
    sheet_of three ≡ record { areas = 3; skipped = 1; blocks = 4; free = 2; sum = 23; wear = some 3 9 5 3 }
unfolding well_formed
three_sheet = refl

pub three_tally :
    add_all zeros three ≡ record { areas = 3; skipped = 1; blocks = 4; free = 2; least = 3; most = 9; sum = 23 }
unfolding well_formed
three_tally = refl

-- blocks that were never worn: the figures are 0, and there are figures
pub unworn : sheet_of (small 0 0 ∷ []) ≡ record { areas = 1; skipped = 0; blocks = 2; free = 1; sum = 0; wear = some 0 0 0 0 }
unfolding well_formed
unworn = refl

-- no area, and malformed ones alone: no figure of the wear
pub none_seen :
    map sheet_of ([] ∷ ([] ∷ (1 ∷ []) ∷ []) ∷ [])
    ≡ record { areas = 0; skipped = 0; blocks = 0; free = 0; sum = 0; wear = none }
    ∷ record { areas = 2; skipped = 2; blocks = 0; free = 0; sum = 0; wear = none }
    ∷ []
unfolding well_formed
none_seen = refl

-- before the first block, least and most mean nothing: a malformed area leaves them, a well-formed one sets both
abbrev unseen : Tally
unseen = record { areas = 1; skipped = 1; blocks = 0; free = 0; least = 4; most = 9; sum = 0 }

pub first_area :
    map (λ a. (add_area unseen a).after) ([] ∷ small 5 6 ∷ [])
    ≡ record { areas = 2; skipped = 2; blocks = 0; free = 0; least = 4; most = 9; sum = 0 }
    ∷ record { areas = 2; skipped = 1; blocks = 2; free = 1; least = 5; most = 6; sum = 11 }
    ∷ []
unfolding well_formed
first_area = refl

-- what comes back for an empty area: number and value, packed
abbrev results : List Tally → List ℕ
results = map (λ t. packed (add_area t []).number (add_area t []).value)

abbrev tally : ℕ → ℕ → ℕ → ℕ → ℕ → Tally
tally areas skipped blocks free sum =
    record { areas = areas; skipped = skipped; blocks = blocks; free = free; least = 9; most = 4; sum = sum }

-- the last tally that is taken, and beside it the first that is not: in skipped, blocks, free blocks and the sum; and in areas, where 200 is FULL.
-- The last has 200 areas and is damaged besides. TALLY is 29 times 2^32 here, and FULL 30 times
pub bounds :
    results
    (tally 3 3 0 0 0 ∷ tally 3 4 0 0 0
    ∷ tally 3 1 1024 0 0 ∷ tally 3 1 1025 0 0
    ∷ tally 1 0 5 5 0 ∷ tally 1 0 5 6 0
    ∷ tally 1 0 2 0 8589934590 ∷ tally 1 0 2 0 8589934591
    ∷ tally 199 0 0 0 0 ∷ tally 200 0 0 0 0 ∷ tally 201 0 0 0 0
    ∷ tally 200 201 0 0 0
    ∷ [])
    ≡ 0 ∷ 124554051584
    ∷ 0 ∷ 124554051584
    ∷ 0 ∷ 124554051584
    ∷ 0 ∷ 124554051584
    ∷ 0 ∷ 128849018880 ∷ 124554051584
    ∷ 124554051584
    ∷ []
unfolding well_formed
bounds = refl
