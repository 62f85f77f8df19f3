-- 02, §2: the tally that a caller lends, and what adding an area to it gives back and leaves.
use Rattle.std.specs.Prelude.{Bool, cond, ◌&&◌, List, [], ◌∷◌, ◌≡◌, ℕ, ◌+◌, ◌*◌, ◌-◌, min, max, eqb, ltb, leb}
use Rattle.meaning.specs.Numbers.{WENT, packed}
use Rattle.meaning.specs.Limits.{most_blocks, most_word}
use Rattle.meaning.specs.Holding.{free}
use Rattle.meaning.specs.Call.{Reply}
use Rattle.store.specs.Area.{Bytes, decode, well_formed}
use Rattle.sheet.specs.declared.Tally.{Tally}
use Rattle.sheet.specs.Sheet.{Block, store_blocks, Sheet, wear_of}

-- ---- numbers

abbrev pub TALLY : ℕ
TALLY = 29

abbrev pub FULL : ℕ
FULL = 30

-- "up to 200 store areas", skipped ones counted
abbrev pub most_areas : ℕ
most_areas = 200

-- ---- the tally

abbrev pub zeros : Tally
zeros = record { areas = 0; skipped = 0; blocks = 0; free = 0; least = 0; most = 0; sum = 0 }

-- none of the five things that TALLY is for
abbrev pub plausible : Tally → Bool
plausible t =
    leb t.areas most_areas
    && leb t.skipped t.areas
    && leb t.blocks (most_blocks * (t.areas - t.skipped))
    && leb t.free t.blocks
    && leb t.sum (most_word * t.blocks)

-- what the page shows of it: before the first block, nothing of least and most
abbrev pub shown : Tally → Sheet
shown t =
    record {
      areas = t.areas;
      skipped = t.skipped;
      blocks = t.blocks;
      free = t.free;
      sum = t.sum;
      wear = wear_of t.blocks t.least t.most t.sum;
    }

-- ---- adding

-- the least wear and the most after a block more: where none was seen before, it sets both
abbrev pub lesser : ℕ → ℕ → ℕ → ℕ
lesser seen least wear = cond (eqb seen 0) wear (min wear least)

abbrev pub greater : ℕ → ℕ → ℕ → ℕ
greater seen most wear = cond (eqb seen 0) wear (max wear most)

abbrev pub with_block : Tally → Block → Tally
with_block t b =
    record {
      areas = t.areas;
      skipped = t.skipped;
      blocks = t.blocks + 1;
      free = t.free + cond (free b.header) 1 0;
      least = lesser t.blocks t.least b.wear;
      most = greater t.blocks t.most b.wear;
      sum = t.sum + b.wear;
    }

abbrev pub with_blocks : Tally → List Block → Tally
with_blocks t [] = t
with_blocks t (b ∷ bs) = with_block (with_blocks t bs) b

-- an area more, and if it was malformed one skipped more: no more than that
abbrev pub counted : ℕ → Tally → Tally
counted skips t =
    record {
      areas = t.areas + 1;
      skipped = t.skipped + skips;
      blocks = t.blocks;
      free = t.free;
      least = t.least;
      most = t.most;
      sum = t.sum;
    }

abbrev pub with_area : Tally → List ℕ → Tally
with_area t a =
    cond (well_formed a) (counted 0 (with_blocks t (store_blocks (decode a)))) (counted 1 t)

-- ---- the call

-- it gives back a number, with the value 0, and leaves a tally
abbrev pub gives : ℕ → Tally → Reply Tally
gives number t = record { number = number; value = 0; after = t }

abbrev pub add_area : Tally → List ℕ → Reply Tally
add_area t a =
    cond (plausible t)
    (cond (ltb t.areas most_areas) (gives WENT (with_area t a)) (gives FULL t))
    (gives TALLY t)

-- the exported function's contract: what comes back is the reply's number and value, packed, and the lent tally after the call is the reply's
abbrev pub AddMeans : Tally → List ℕ → ℕ → Tally → Type 0
AddMeans entry area result exit =
    (result ≡ packed (add_area entry area).number (add_area entry area).value) × (exit ≡ (add_area entry area).after)

-- the tally with other numbers for least and most
abbrev pub with_extremes : Tally → ℕ → ℕ → Tally
with_extremes t least most =
    record {
      areas = t.areas;
      skipped = t.skipped;
      blocks = t.blocks;
      free = t.free;
      least = least;
      most = most;
      sum = t.sum;
    }

-- ---- areas in turn

abbrev pub add_all : Tally → List (List ℕ) → Tally
add_all t [] = t
add_all t (a ∷ more) = add_all (add_area t a).after more

abbrev pub AllBytes : List (List ℕ) → Type 0
AllBytes [] = Unit {0}
AllBytes (a ∷ more) = Bytes a × AllBytes more

-- a tally that calls left of one of zeros, whatever they answered
pub data FromZeros : Tally → Type 0 where
  start : FromZeros zeros
  call : (t : Tally) (a : List ℕ) → FromZeros t → Bytes a → FromZeros (add_area t a).after
