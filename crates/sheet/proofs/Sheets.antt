-- What the calls come to that start from a tally of zeros: which number each gives, and that the sheet is one definition over all blocks of all
-- well-formed areas, whatever the areas' order. Then what holds of a call on any tally. Assumes nothing.
use mathlib.Core.Path.{◌≡◌, refl, sym, ap, subst, ◌∙◌}
use mathlib.Core.Bool.{true, cond}
use mathlib.Core.List.{List, [], ◌∷◌, Perm, Permᴰ}
use mathlib.Core.Logic.{∥∥₁_elim}
use Prim.Native.Nat.{ℕ, zero, suc, ◌+◌, ◌<◌, ◌≤◌}
use native.Mathlib.Nat.{ℕ_set}
use native.Mathlib.Omega.{arith}
use lib.Dec.{ltb}
use lib.ListN.{length}
use Rattle.std.proofs.Common.{Result, Ok, Err}
use Rattle.std.proofs.lemmas.Bool.{lt-ltb, le-ltb, ltb-true, ltb-false}
use Rattle.meaning.specs.Numbers.{WENT, packed}
use Rattle.meaning.specs.Limits.{most_blocks, most_word}
use Rattle.meaning.specs.Store.{Store}
use Rattle.meaning.proofs.Base.Words.{either_way}
use Rattle.store.specs.Layout.{p_at}
use Rattle.store.specs.Area.{Bytes, word, decode, well_formed}
use Rattle.store.proofs.Bytes.{word_low}
use Rattle.sheet.specs.declared.Tally.{Tally}
use Rattle.sheet.specs.declared.Refusal.{Refusal}
use Rattle.sheet.specs.declared.Refusal.TheVariants as refusal
use Rattle.sheet.specs.Sheet.{Block, first_blocks, store_blocks, blocks_of, sheet_of}
use Rattle.sheet.specs.Adding.{TALLY, FULL, most_areas, zeros, plausible, shown, with_block, with_blocks, counted, with_area, with_extremes}
use Rattle.sheet.specs.Adding.{gives, add_area, AddMeans, add_all, AllBytes, FromZeros, start, call}
use Rattle.sheet.specs.Refusal.{number_of, replied}
use Rattle.sheet.specs.Room.{Room}
use Rattle.sheet.proofs.Rooms.{Plausible, plausible-facts, facts-plausible, roomy, room_less, room_next, blocks-areas, sized}
use Rattle.sheet.proofs.Turns.{area-counted, in_turn, turn-order, turn-tally}

-- ---- what is refused

module _ {t : Tally} (f : Plausible t) (a : List ℕ) where
  goes : t.areas < most_areas → add_area t a ≡ gives WENT (with_area t a)
  goes low = rw (facts-plausible f, lt-ltb _ _ low)

  stops : most_areas ≤ t.areas → add_area t a ≡ gives FULL t
  stops high = rw (facts-plausible f, le-ltb _ _ high)

-- no wear is larger than a word
abbrev Low : List Block → Type 0
Low [] = Unit {0}
Low (b ∷ bs) = (b.wear ≤ most_word) × Low bs

first_low : (a : List ℕ) → Bytes a → (m : ℕ) → Low (first_blocks (decode a) m)
first_low a bytes zero = tt
first_low a bytes (suc m) =
    (either_way (ltb m (word a p_at)) (λ e. rw e (word_low a bytes _)) (λ e. rw e (omega arith)), first_low a bytes m)

room_after : (t : Tally) (bs : List Block) → Low bs → (n : ℕ) → Room t (length bs + n) → Room (with_blocks t bs) n
room_after t [] low n r = room_less (omega arith) r
room_after t (b ∷ bs) low n r = room_next b n low.0 (room_after t bs low.1 (n + 1) (room_less (omega arith) r))

blocks_many : (t : Tally) (bs : List Block) → (with_blocks t bs).blocks ≡ t.blocks + length bs
blocks_many t [] = omega arith
blocks_many t (b ∷ bs) = omega (arith, blocks_many t bs)

first_many : (s : Store) (m : ℕ) → length (first_blocks s m) ≡ m
first_many s zero = refl
first_many s (suc m) = ap suc (first_many s m)

-- a plausible tally stays one
area-plausible : {t : Tally} (a : List ℕ) → Bytes a → Plausible t → t.areas < most_areas → Plausible (with_area t a)
area-plausible {t} a bytes f low = either_way (well_formed a) formed (λ e. rw e skipped)
  where
    skipped : Plausible (counted 1 t)
    skipped =
        record {
          areas = omega arith;
          skipped = omega (arith, f.skipped);
          blocks = omega (arith, f.blocks, f.skipped);
          free = f.free;
          sum = f.sum;
        }

    formed : well_formed a ≡ true → Plausible (with_area t a)
    formed e =
        let bs = store_blocks (decode a) in
        let many : length bs ≡ word a p_at = first_many (decode a) (word a p_at) in
        let few : length bs + 0 ≤ most_blocks = omega (arith, (sized a e).p-high) in
        let room = room_after t bs (first_low a bytes (word a p_at)) 0 (room_less few (roomy f low)) in
        let same = blocks-areas t bs in
        rw e
        (record {
          areas = omega (arith, same.0);
          skipped = omega (arith, same.0, same.1, f.skipped);
          blocks = rw (same.0, same.1) (omega (arith, blocks_many t bs, f.blocks, f.skipped));
          free = room.free;
          sum = room.sum;
        })

zeros-plausible : Plausible zeros
zeros-plausible = plausible-facts zeros refl

from-plausible : {t : Tally} → FromZeros t → Plausible t
from-plausible start = zeros-plausible
from-plausible (call t a from bytes) =
    let f = from-plausible from in
    either_way (ltb t.areas most_areas)
    (λ e. rw (goes f a (ltb-true _ _ e)) (area-plausible a bytes f (ltb-true _ _ e)))
    (λ e. rw (stops f a (ltb-false _ _ e)) f)

-- a tally that came from zeros by these calls is never refused with TALLY
pub never-tally : {t : Tally} → FromZeros t → (a : List ℕ) → (add_area t a).number ≡ TALLY → ⊥
never-tally {t} from a is =
    let f = from-plausible from in
    either_way (ltb t.areas most_areas)
    (λ e. omega (arith, is, ap (λ r. r.number) (goes f a (ltb-true _ _ e))))
    (λ e. omega (arith, is, ap (λ r. r.number) (stops f a (ltb-false _ _ e))))

area-more : (t : Tally) (a : List ℕ) → (with_area t a).areas ≡ t.areas + 1
area-more t a = ap (λ x. x.areas) (area-counted t a) ∙ ap (λ n. n + 1) (blocks-areas t (blocks_of a)).0

-- none of a list of areas is refused, and all are counted
record All (t : Tally) (those : List (List ℕ)) (after : Tally) : Type 0 where
  pub turned : after ≡ in_turn t those
  pub plausible : Plausible after
  pub areas : after.areas ≡ t.areas + length those

all_go :
    {t : Tally} (those : List (List ℕ)) → AllBytes those → Plausible t → t.areas + length those ≤ most_areas →
    All t those (add_all t those)
all_go {t = t} [] bytes f few = record { turned = refl; plausible = f; areas = omega arith }
all_go {t = t} (a ∷ rest) bytes f few =
    let low : t.areas < most_areas = omega arith in
    let after = all_go {t = with_area t a} rest bytes.1 (area-plausible a bytes.0 f low) (omega (arith, area-more t a)) in
    subst (λ r. All t (a ∷ rest) (add_all r.after rest)) (sym (goes f a low))
    (record { turned = after.turned; plausible = after.plausible; areas = omega (arith, after.areas, area-more t a) })

-- ---- a list of areas, from zeros

module _ (those : List (List ℕ)) (bytes : AllBytes those) where
  whole : length those ≤ most_areas → All zeros those (add_all zeros those)
  whole few = all_go those bytes zeros-plausible (omega arith)

  -- the sheet of at most 200 areas is what one definition over all blocks of all well-formed ones says
  pub sheet_is : length those ≤ most_areas → shown (add_all zeros those) ≡ sheet_of those
  sheet_is few = ap shown ((whole few).turned ∙ turn-tally those)

  -- each of the first 200 goes in
  pub sheet-goes : length those < most_areas → (a : List ℕ) → (add_area (add_all zeros those) a).number ≡ WENT
  sheet-goes low a =
      let w = whole (omega arith) in
      ap (λ r. r.number) (goes w.plausible a (omega (arith, w.areas)))

  -- and any after them is refused with FULL and adds nothing
  pub sheet-full : length those ≡ most_areas → (a : List ℕ) → add_area (add_all zeros those) a ≡ gives FULL (add_all zeros those)
  sheet-full full a =
      let w = whole (omega arith) in
      stops w.plausible a (omega (arith, w.areas))

-- ---- in any order

perm_bytes : {these those : List (List ℕ)} → Permᴰ these those → AllBytes these → AllBytes those
perm_bytes Permᴰ.nil bytes = tt
perm_bytes (Permᴰ.cons e d) bytes = (rw (sym e) bytes.0, perm_bytes d bytes.1)
perm_bytes (Permᴰ.swap e f) bytes = (rw (sym f) bytes.1.0, (rw (sym e) bytes.0, bytes.1.1))
perm_bytes (Permᴰ.trans d d') bytes = perm_bytes d' (perm_bytes d bytes)

perm_length : {these those : List (List ℕ)} → Permᴰ these those → length these ≡ length those
perm_length Permᴰ.nil = refl
perm_length (Permᴰ.cons e d) = ap suc (perm_length d)
perm_length (Permᴰ.swap e f) = refl
perm_length (Permᴰ.trans d d') = perm_length d ∙ perm_length d'

module _ {these those : List (List ℕ)} (bytes : AllBytes these) (few : length these ≤ most_areas) where
  same : Permᴰ these those → add_all zeros these ≡ add_all zeros those
  same d =
      (whole these bytes few).turned
      ∙ turn-order d zeros
      ∙ sym (whole those (perm_bytes d bytes) (omega (arith, perm_length d))).turned

  -- each count by itself: `Perm` says that there is a way from one list to the other, and not which one, so what is drawn from it has to be a
  -- proposition, as an equality of two numbers is
  count : Perm these those → (f : Tally → ℕ) → f (add_all zeros these) ≡ f (add_all zeros those)
  count p f = ∥∥₁_elim p (ℕ_set _ _) (λ d. ap f (same d))

  -- each permutation of at most 200 areas leaves the same tally
  pub any_order : Perm these those → add_all zeros these ≡ add_all zeros those
  any_order p i =
      record {
        areas = count p (λ t. t.areas) i;
        skipped = count p (λ t. t.skipped) i;
        blocks = count p (λ t. t.blocks) i;
        free = count p (λ t. t.free) i;
        least = count p (λ t. t.least) i;
        most = count p (λ t. t.most) i;
        sum = count p (λ t. t.sum) i;
      }

-- ---- a call on any tally

number_same : (why other : Refusal) → number_of why ≡ number_of other → why ≡ other
number_same refusal.Tally refusal.Tally e = refl
number_same refusal.Tally refusal.Full e = absurd (omega (arith, e))
number_same refusal.Full refusal.Tally e = absurd (omega (arith, e))
number_same refusal.Full refusal.Full e = refl

refused_other : (why : Refusal) → WENT ≡ number_of why → ⊥
refused_other refusal.Tally e = omega (arith, e)
refused_other refusal.Full e = omega (arith, e)

replied-same : (t : Tally) (r r' : Result Tally Refusal) → replied t r ≡ replied t r' → r ≡ r'
replied-same t (Ok after) (Ok after') e = ap Ok (ap (λ x. x.after) e)
replied-same t (Ok after) (Err why) e = absurd (refused_other why (ap (λ x. x.number) e))
replied-same t (Err why) (Ok after) e = absurd (refused_other why (sym (ap (λ x. x.number) e)))
replied-same t (Err why) (Err other) e = ap Err (number_same why other (ap (λ x. x.number) e))

module _ (t : Tally) (a : List ℕ) where
  -- where it isn't WENT that comes back, the tally is as it was
  pub refused-leaves : ((add_area t a).number ≡ WENT → ⊥) → (add_area t a).after ≡ t
  refused-leaves other =
      either_way (plausible t)
      (λ e. either_way (ltb t.areas most_areas) (λ l. absurd (other (rw (e, l)))) (λ l. rw (e, l)))
      (λ e. rw e)

  -- the number depends on the counts alone, and not on the area
  number_is : (add_area t a).number ≡ cond (plausible t) (cond (ltb t.areas most_areas) WENT FULL) TALLY
  number_is =
      either_way (plausible t)
      (λ e. either_way (ltb t.areas most_areas) (λ l. rw (e, l)) (λ l. rw (e, l)))
      (λ e. rw e)

  pub add_determined : {r r' : ℕ} {x x' : Tally} → AddMeans t a r x → AddMeans t a r' x' → (r ≡ r') × (x ≡ x')
  add_determined one two = (one.0 ∙ sym two.0, one.1 ∙ sym two.1)

  -- the code's result, packed, is what C gets
  pub added-means :
      (r : Result Tally Refusal) → replied t r ≡ add_area t a →
      AddMeans t a (packed (replied t r).number (replied t r).value) (replied t r).after
  added-means r e = (ap (λ x. packed x.number x.value) e, ap (λ x. x.after) e)

  -- and one result alone has the reply
  pub added_determined : (r r' : Result Tally Refusal) → replied t r ≡ add_area t a → replied t r' ≡ add_area t a → r ≡ r'
  added_determined r r' one two = replied-same t r r' (one ∙ sym two)

-- ---- least and most before the first block

module _ (t : Tally) (x y : ℕ) where
  -- the number that comes back depends on them at no time
  pub extremes_unread : (a : List ℕ) → (add_area (with_extremes t x y) a).number ≡ (add_area t a).number
  extremes_unread a = number_is (with_extremes t x y) a ∙ sym (number_is t a)

  module _ (none : t.blocks ≡ 0) where
    some-blocks : (b : Block) (bs : List Block) → with_blocks (with_extremes t x y) (b ∷ bs) ≡ with_blocks t (b ∷ bs)
    some-blocks b [] = rw none
    some-blocks b (c ∷ bs) = ap (λ u. with_block u b) (some-blocks c bs)

    many_blocks :
        (s : Store) (m : ℕ) → 1 ≤ m → with_blocks (with_extremes t x y) (first_blocks s m) ≡ with_blocks t (first_blocks s m)
    many_blocks s zero low = absurd (omega arith)
    many_blocks s (suc m) low = some-blocks (record { header = s.header m; wear = s.wear m }) (first_blocks s m)

    -- and what a well-formed area leaves does not, where no block was seen
    pub first_sets : (a : List ℕ) → well_formed a ≡ true → with_area (with_extremes t x y) a ≡ with_area t a
    first_sets a well =
        let low : 1 ≤ word a p_at = omega (arith, (sized a well).p-low) in
        rw well (ap (counted 0) (many_blocks (decode a) (word a p_at) low))
