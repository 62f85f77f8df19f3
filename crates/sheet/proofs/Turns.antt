-- Areas counted in turn, where none is refused: their order doesn't matter, and from zeros they come to one definition over all blocks of all
-- well-formed ones. Assumes nothing.
use mathlib.Core.Path.{◌≡◌, refl, sym, ap, ◌∙◌}
use mathlib.Core.Bool.{Bool, true, false, cond}
use mathlib.Core.List.{List, [], ◌∷◌, ◌++◌, Permᴰ}
use Prim.Native.Nat.{ℕ, ◌+◌, min, max}
use native.Mathlib.Numerals.{add-one}
use native.Mathlib.Omega.{arith}
use lib.Dec.{eqb}
use lib.ListN.{length}
use Rattle.std.proofs.lemmas.Bool.{ne_eqb}
use Rattle.std.proofs.Math.Nat.{add_comm, add_right_comm}
use Rattle.meaning.specs.Holding.{free}
use Rattle.meaning.proofs.Base.Words.{either_way}
use Rattle.store.specs.Area.{well_formed}
use Rattle.sheet.specs.declared.Tally.{Tally}
use Rattle.sheet.specs.Sheet.{Block, blocks_of, all_blocks, free_blocks, sum_of_wear, least_wear, most_wear, malformed}
use Rattle.sheet.specs.Adding.{zeros, lesser, greater, with_block, with_blocks, counted, with_area}

-- ---- one more and another, whichever comes first

module _ (seen x y : ℕ) where
  some-seen : eqb (seen + 1) 0 ≡ false
  some-seen = ne_eqb (seen + 1) 0 (λ e. omega arith)

  lesser_swap : (least : ℕ) → lesser (seen + 1) (lesser seen least x) y ≡ lesser (seen + 1) (lesser seen least y) x
  lesser_swap least = rw some-seen (by_test (eqb seen 0))
    where
      by_test : (b : Bool) → min y (cond b x (min x least)) ≡ min x (cond b y (min y least))
      by_test true = omega arith
      by_test false = omega arith

  greater_swap : (most : ℕ) → greater (seen + 1) (greater seen most x) y ≡ greater (seen + 1) (greater seen most y) x
  greater_swap most = rw some-seen (by_test (eqb seen 0))
    where
      by_test : (b : Bool) → max y (cond b x (max x most)) ≡ max x (cond b y (max y most))
      by_test true = omega arith
      by_test false = omega arith

block-block : (t : Tally) (b c : Block) → with_block (with_block t b) c ≡ with_block (with_block t c) b
block-block t b c i =
    record {
      areas = t.areas;
      skipped = t.skipped;
      blocks = t.blocks + 1 + 1;
      free = add_right_comm t.free (cond (free b.header) 1 0) (cond (free c.header) 1 0) i;
      least = lesser_swap t.blocks b.wear c.wear t.least i;
      most = greater_swap t.blocks b.wear c.wear t.most i;
      sum = add_right_comm t.sum b.wear c.wear i;
    }

blocks-block : (t : Tally) (b : Block) (cs : List Block) → with_blocks (with_block t b) cs ≡ with_block (with_blocks t cs) b
blocks-block t b [] = refl
blocks-block t b (c ∷ cs) = ap (λ x. with_block x c) (blocks-block t b cs) ∙ block-block (with_blocks t cs) b c

blocks-blocks : (t : Tally) (bs cs : List Block) → with_blocks (with_blocks t bs) cs ≡ with_blocks (with_blocks t cs) bs
blocks-blocks t [] cs = refl
blocks-blocks t (b ∷ bs) cs = blocks-block (with_blocks t bs) b cs ∙ ap (λ x. with_block x b) (blocks-blocks t bs cs)

blocks-counted : (t : Tally) (k : ℕ) (bs : List Block) → with_blocks (counted k t) bs ≡ counted k (with_blocks t bs)
blocks-counted t k [] = refl
blocks-counted t k (b ∷ bs) = ap (λ x. with_block x b) (blocks-counted t k bs)

counted-counted : (t : Tally) (j k : ℕ) → counted j (counted k t) ≡ counted k (counted j t)
counted-counted t j k i =
    record {
      areas = t.areas + 1 + 1;
      skipped = add_right_comm t.skipped k j i;
      blocks = t.blocks;
      free = t.free;
      least = t.least;
      most = t.most;
      sum = t.sum;
    }

-- how many skipped ones an area is
abbrev skips : List ℕ → ℕ
skips a = cond (well_formed a) 0 1

pub area-counted : (t : Tally) (a : List ℕ) → with_area t a ≡ counted (skips a) (with_blocks t (blocks_of a))
area-counted t a = either_way (well_formed a) (λ e. rw e) (λ e. rw e)

two-areas :
    (t : Tally) (a b : List ℕ) →
    with_area (with_area t a) b ≡ counted (skips b) (counted (skips a) (with_blocks (with_blocks t (blocks_of a)) (blocks_of b)))
two-areas t a b =
    area-counted (with_area t a) b
    ∙ ap (λ x. counted (skips b) (with_blocks x (blocks_of b))) (area-counted t a)
    ∙ ap (counted (skips b)) (blocks-counted (with_blocks t (blocks_of a)) (skips a) (blocks_of b))

area-area : (t : Tally) (a b : List ℕ) → with_area (with_area t a) b ≡ with_area (with_area t b) a
area-area t a b =
    two-areas t a b
    ∙ ap (λ x. counted (skips b) (counted (skips a) x)) (blocks-blocks t (blocks_of a) (blocks_of b))
    ∙ counted-counted (with_blocks (with_blocks t (blocks_of b)) (blocks_of a)) (skips b) (skips a)
    ∙ sym (two-areas t b a)

-- ---- all areas, where none is refused

abbrev pub in_turn : Tally → List (List ℕ) → Tally
in_turn t [] = t
in_turn t (a ∷ more) = in_turn (with_area t a) more

-- the first may come last
turn_last : (t : Tally) (a : List ℕ) (more : List (List ℕ)) → in_turn (with_area t a) more ≡ with_area (in_turn t more) a
turn_last t a [] = refl
turn_last t a (b ∷ more) = ap (λ x. in_turn x more) (area-area t a b) ∙ turn_last (with_area t b) a more

pub turn-order : {these those : List (List ℕ)} → Permᴰ these those → (t : Tally) → in_turn t these ≡ in_turn t those
turn-order Permᴰ.nil t = refl
turn-order (Permᴰ.cons {l₁ = these} e d) t = ap (λ a. in_turn (with_area t a) these) e ∙ turn-order d (with_area t _)
turn-order (Permᴰ.swap {a = a} {b = b} {l = rest} e f) t =
    ap (λ x. in_turn x rest) (area-area t a b ∙ (λ i. with_area (with_area t (f i)) (e i)))
turn-order (Permᴰ.trans d d') t = turn-order d t ∙ turn-order d' t

-- ---- what it comes to

abbrev tally_of : ℕ → ℕ → List Block → Tally
tally_of areas skipped bs =
    record {
      areas = areas;
      skipped = skipped;
      blocks = length bs;
      free = free_blocks bs;
      least = least_wear bs;
      most = most_wear bs;
      sum = sum_of_wear bs;
    }

least-tally : (b : Block) (bs : List Block) → lesser (length bs) (least_wear bs) b.wear ≡ least_wear (b ∷ bs)
least-tally b [] = refl
least-tally b (c ∷ bs) = rw (ne_eqb (length (c ∷ bs)) 0 (λ e. omega arith))

most_tally : (b : Block) (bs : List Block) → greater (length bs) (most_wear bs) b.wear ≡ most_wear (b ∷ bs)
most_tally b [] = refl
most_tally b (c ∷ bs) = rw (ne_eqb (length (c ∷ bs)) 0 (λ e. omega arith))

block-tally : (n k : ℕ) (b : Block) (bs : List Block) → with_block (tally_of n k bs) b ≡ tally_of n k (b ∷ bs)
block-tally n k b bs i =
    record {
      areas = n;
      skipped = k;
      blocks = add-one (length bs) i;
      free = add_comm (free_blocks bs) (cond (free b.header) 1 0) i;
      least = least-tally b bs i;
      most = most_tally b bs i;
      sum = add_comm (sum_of_wear bs) b.wear i;
    }

blocks-tally : (n k : ℕ) (bs cs : List Block) → with_blocks (tally_of n k bs) cs ≡ tally_of n k (cs ++ bs)
blocks-tally n k bs [] = refl
blocks-tally n k bs (c ∷ cs) = ap (λ x. with_block x c) (blocks-tally n k bs cs) ∙ block-tally n k c (cs ++ bs)

pub turn-tally : (those : List (List ℕ)) → in_turn zeros those ≡ tally_of (length those) (malformed those) (all_blocks those)
turn-tally [] = refl
turn-tally (a ∷ more) =
    turn_last zeros a more
    ∙ ap (λ x. with_area x a) (turn-tally more)
    ∙ area-counted (tally_of (length more) (malformed more) (all_blocks more)) a
    ∙ ap (counted (skips a)) (blocks-tally (length more) (malformed more) (all_blocks more) (blocks_of a))
    ∙ (λ i. tally_of (add-one (length more) i) (add_comm (malformed more) (skips a) i) (all_blocks (a ∷ more)))
