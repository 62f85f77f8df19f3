-- A plausible tally, as facts; one that has room for some blocks, for one less each time that one is added; and the block records of a well-formed
-- area. Assumes nothing.
use mathlib.Core.Path.{◌≡◌, refl, sym, ap}
use mathlib.Core.List.{List, [], ◌∷◌}
use mathlib.Core.Bool.{Bool, true, false, cond}
use Prim.Native.Nat.{ℕ, zero, suc, ◌+◌, ◌-◌, ◌*◌, ◌<◌, ◌≤◌}
use native.Mathlib.Numerals.{add-one}
use native.Mathlib.Omega.{arith}
use lib.ListN.{length}
use Rattle.std.proofs.lemmas.Bool.{and_parts, leb-true, le-leb, lt-ltb}
use Rattle.meaning.specs.Limits.{most_blocks, most_word}
use Rattle.meaning.specs.Holding.{free}
use Rattle.store.specs.Layout.{t_at, n_at, p_at, d_at, blocks_at, block_words, size}
use Rattle.store.specs.Area.{word, decode, well_formed}
use Rattle.store.specs.Live.{Reaches}
use Rattle.store.proofs.Sound.{Sizes, well_formed-sound}
use Rattle.sheet.specs.declared.Tally.{Tally}
use Rattle.sheet.specs.Sheet.{Block, first_blocks, store_blocks}
use Rattle.sheet.specs.Adding.{most_areas, plausible, with_block, with_blocks}
use Rattle.sheet.specs.Room.{Room, rows_of}

-- ---- plausible

pub record Plausible (t : Tally) : Type 0 where
  pub areas : t.areas ≤ most_areas
  pub skipped : t.skipped ≤ t.areas
  pub blocks : t.blocks ≤ most_blocks * (t.areas - t.skipped)
  pub free : t.free ≤ t.blocks
  pub sum : t.sum ≤ most_word * t.blocks

pub plausible-facts : (t : Tally) → plausible t ≡ true → Plausible t
plausible-facts t e =
    let sum = and_parts _ _ e in
    let free = and_parts _ _ sum.0 in
    let blocks = and_parts _ _ free.0 in
    let skipped = and_parts _ _ blocks.0 in
    record {
      areas = leb-true _ _ skipped.0;
      skipped = leb-true _ _ skipped.1;
      blocks = leb-true _ _ blocks.1;
      free = leb-true _ _ free.1;
      sum = leb-true _ _ sum.1;
    }

pub facts-plausible : {t : Tally} → Plausible t → plausible t ≡ true
facts-plausible f =
    rw
    (le-leb _ _ f.areas, le-leb _ _ f.skipped, le-leb _ _ f.blocks, le-leb _ _ f.free, le-leb _ _ f.sum)

-- ---- room

-- a plausible tally of fewer than 200 areas has room for an area of the most blocks
pub roomy : {t : Tally} → Plausible t → t.areas < most_areas → Room t most_blocks
roomy f low = record { few = omega (arith, f.blocks); free = f.free; sum = f.sum }

-- a block counts at most once among the free ones
pub once : (b : Bool) → cond b 1 0 ≤ 1
once true = omega arith
once false = omega arith

pub room_less : {t : Tally} {m n : ℕ} → n ≤ m → Room t m → Room t n
room_less low r = record { few = omega (arith, r.few); free = r.free; sum = r.sum }

pub room_next : {t : Tally} (b : Block) (n : ℕ) → b.wear ≤ most_word → Room t (n + 1) → Room (with_block t b) n
room_next b n low r =
    record {
      few = omega (arith, r.few);
      free = omega (arith, r.free, once (free b.header));
      sum = omega (arith, r.sum);
    }

-- the next record of the area
pub rows_next :
    (t : Tally) {all : Tally} (at : ℕ → ℕ) (from k : ℕ) {header wear : ℕ} → all ≡ with_blocks t (rows_of at from k) →
    header ≡ at (from + block_words * k) → wear ≡ at (from + block_words * k + 2) →
    with_block all (record { header = header; wear = wear }) ≡ with_blocks t (rows_of at from (k + 1))
rows_next t at from k e h w =
    let place : from + block_words * k + 2 ≡ from + 2 + block_words * k = omega arith in
    rw (e, h, w, place) (ap (λ n. with_blocks t (rows_of at from n)) (sym (add-one k)))

-- ---- a well-formed area's records

module _ (a : List ℕ) (well : well_formed a ≡ true) where
  long : length a ≡ size (word a t_at) (word a n_at) (word a p_at)
  long = ((well_formed-sound a).0 well).0

  pub sized : Sizes (word a t_at) (word a n_at) (word a p_at) (word a d_at)
  sized = ((well_formed-sound a).0 well).1.sizes

  -- its sizes are within it
  pub headed : 24 ≤ length a
  headed = omega (arith, long)

-- the records are the blocks of the store that the area holds
rows_first :
    (a : List ℕ) (k : ℕ) → k ≤ word a p_at → rows_of (word a) (blocks_at (word a t_at) (word a n_at)) k ≡ first_blocks (decode a) k
rows_first a zero low = refl
rows_first a (suc k) low = rw (lt-ltb k (word a p_at) (omega arith), rows_first a k (omega arith))

-- the sizes have been read, and where the records begin
module _ (a : List ℕ) {from t n p : ℕ} (begin : from ≡ blocks_at t n)
    (et : t ≡ word a t_at) (en : n ≡ word a n_at) (ep : p ≡ word a p_at) where
  pub placed : {x : Tally} → well_formed a ≡ true → Room x most_blocks → Room x p × Reaches a (from + 2) block_words p
  placed well room =
      (room_less (omega (arith, (sized a well).p-high)) room, λ k low. omega (arith, long a well))

  pub rows_all : rows_of (word a) from p ≡ store_blocks (decode a)
  rows_all = rw (begin, et, en, ep) (rows_first a (word a p_at) (omega arith))

-- the counts of areas stay when blocks are added
pub blocks-areas : (t : Tally) (bs : List Block) → ((with_blocks t bs).areas ≡ t.areas) × ((with_blocks t bs).skipped ≡ t.skipped)
blocks-areas t [] = (refl, refl)
blocks-areas t (b ∷ bs) = blocks-areas t bs
