-- Laws of words that have readers or a writer (specs/Holding): locks of numbers and owners of blocks. First bits, then what a thread's coming and
-- going does to such a word, then who has it.
-- Assumes nothing.
use mathlib.Core.Path.{◌≡◌, refl, sym, ap, ◌∙◌}
use mathlib.Core.Bool.{Bool, true, false, not, ◌&&◌, or-true}
use mathlib.Core.Logic.{◌⊎◌, inl, inr, ◌↔◌}
use Prim.Native.Nat.{ℕ, zero, suc, ◌+◌, ◌-◌, ◌*◌, ◌/◌, ◌%◌, ◌^◌, ◌<◌, ◌≤◌}
use native.Mathlib.Nat.{pow-suc}
use native.Mathlib.Omega.{arith}
use lib.Dec.{eqb, ltb}
use lib.Pow.{pow_mono, pow_pos, shr-shr}
use borrow.Author.Tests.{not-true, eqb-true, eqb-false, eq-eqb, ne_eqb, ltb-true, ltb-false, lt-ltb, le-ltb, leb-true, le-leb}
use Rattle.meaning.specs.declared.Kind.{Kind}
use Rattle.meaning.specs.declared.Kind.TheVariants.{Reader, Writer}
use Rattle.meaning.specs.Limits.{most_threads, most_word}
use Rattle.meaning.specs.Holding.{none, free, by, sets, mark, unwritten, member, InParts, held, admits, writer, proper}
use Rattle.meaning.proofs.Base.Words.{either_way, clash, and_left, and_right, or_way, free-none}

-- ---- bits

-- bit 0 is the remainder by 2, and the other bits are those of the half
first : (w : ℕ) → member 0 w ≡ eqb (w % 2) 1
first w = let e : w / 2 ^ 0 ≡ w = omega arith in rw e

twice : (t : ℕ) → 2 ^ suc t ≡ 2 * 2 ^ t
twice t = let e = pow-suc 2 t in omega arith

later : (t w : ℕ) → member (suc t) w ≡ member t (w / 2)
later t w =
    let next : 1 + t ≡ suc t = omega arith in
    let e : w / 2 / 2 ^ t ≡ w / 2 ^ suc t = shr-shr w 1 t ∙ ap (λ k. w / 2 ^ k) next in
    rw e

even : (w : ℕ) → member 0 w ≡ false → w % 2 ≡ 0
even w x = let y : w % 2 ≡ 1 → ⊥ = eqb-false (w % 2) 1 (sym (first w) ∙ x) in omega arith

odd : (w : ℕ) → member 0 w ≡ true → w % 2 ≡ 1
odd w x = eqb-true (w % 2) 1 (sym (first w) ∙ x)

nobody-member : (t : ℕ) → member t 0 ≡ false
nobody-member zero = refl
nobody-member (suc t) = later t 0 ∙ nobody-member t

-- a bit that isn't set is set by adding its power of two, and no other bit changes
bit_joins : (t w : ℕ) → member t w ≡ false → member t (w + 2 ^ t) ≡ true
bit_joins zero w x = let e = even w x in first (w + 1) ∙ eq-eqb ((w + 1) % 2) 1 (omega arith)
bit_joins (suc t) w x =
    let half : (w + 2 ^ suc t) / 2 ≡ w / 2 + 2 ^ t = let e = twice t in omega arith in
    later t (w + 2 ^ suc t) ∙ rw half (bit_joins t (w / 2) (sym (later t w) ∙ x))

bit_joins_other : (t v w : ℕ) → (t ≡ v → ⊥) → member t w ≡ false → member v (w + 2 ^ t) ≡ member v w
bit_joins_other zero zero w apart x = absurd (apart refl)
bit_joins_other zero (suc v) w apart x =
    let e = even w x in
    let half : (w + 1) / 2 ≡ w / 2 = omega arith in
    later v (w + 1) ∙ rw half (sym (later v w))
bit_joins_other (suc t) zero w apart x =
    let rest : (w + 2 ^ suc t) % 2 ≡ w % 2 = let e = twice t in omega arith in
    first (w + 2 ^ suc t) ∙ rw rest (sym (first w))
bit_joins_other (suc t) (suc v) w apart x =
    let half : (w + 2 ^ suc t) / 2 ≡ w / 2 + 2 ^ t = let e = twice t in omega arith in
    later v (w + 2 ^ suc t)
    ∙ rw half (bit_joins_other t v (w / 2) (λ e. apart (ap suc e)) (sym (later t w) ∙ x))
    ∙ sym (later v w)

-- the set stays below a power of two that is above the bit
bit_below : (k t w : ℕ) → t < k → w < 2 ^ k → member t w ≡ false → w + 2 ^ t < 2 ^ k
bit_below zero t w b l x = absurd (omega arith)
bit_below (suc k) zero w b l x = let e = even w x in let f = twice k in omega arith
bit_below (suc k) (suc t) w b l x =
    let f = twice k in
    let g = twice t in
    let h = bit_below k t (w / 2) (omega arith) (omega arith) (sym (later t w) ∙ x) in
    omega arith

-- a bit that is set can be taken off
bit_within : (t w : ℕ) → member t w ≡ true → 2 ^ t ≤ w
bit_within zero w x = let e = odd w x in omega arith
bit_within (suc t) w x =
    let g = twice t in
    let h = bit_within t (w / 2) (sym (later t w) ∙ x) in
    omega arith

bit_quits : (t w : ℕ) → member t w ≡ true → member t (w - 2 ^ t) ≡ false
bit_quits zero w x = let e = odd w x in first (w - 1) ∙ ne_eqb ((w - 1) % 2) 1 (λ y. omega arith)
bit_quits (suc t) w x =
    let y = sym (later t w) ∙ x in
    let b = bit_within t (w / 2) y in
    let half : (w - 2 ^ suc t) / 2 ≡ w / 2 - 2 ^ t = let e = twice t in omega arith in
    later t (w - 2 ^ suc t) ∙ rw half (bit_quits t (w / 2) y)

bit_quits_other : (t v w : ℕ) → (t ≡ v → ⊥) → member t w ≡ true → member v (w - 2 ^ t) ≡ member v w
bit_quits_other t v w apart x =
    let b = bit_within t w x in
    let back : w - 2 ^ t + 2 ^ t ≡ w = omega arith in
    sym (bit_joins_other t v (w - 2 ^ t) apart (bit_quits t w x)) ∙ ap (member v) back

-- a set that isn't empty has a member
some-member : (k w : ℕ) → w < 2 ^ k → free w ≡ false → (t : ℕ) × (member t w ≡ true)
some-member zero w l f = let x : w ≡ 0 → ⊥ = eqb-false w 0 f in absurd (omega arith)
some-member (suc k) w l f =
    let e = twice k in
    let x : w ≡ 0 → ⊥ = eqb-false w 0 f in
    either_way (member 0 w) (λ y. (0, y))
    (λ y.
    let z = even w y in
    let m = some-member k (w / 2) (omega arith) (ne_eqb (w / 2) 0 (λ h. omega arith)) in
    (suc m.0, later m.0 w ∙ m.1))

-- a set of readers has so many bits; there are no more threads
abbrev set_bits : ℕ
set_bits = 16

-- ---- kinds

abbrev pub same_kind : Kind → Kind → Bool
same_kind Reader Reader = true
same_kind Reader Writer = false
same_kind Writer Reader = false
same_kind Writer Writer = true

pub kind_same : (κ : Kind) → same_kind κ κ ≡ true
kind_same Reader = refl
kind_same Writer = refl

pub kind_is : (κ κ' : Kind) → same_kind κ κ' ≡ true → κ ≡ κ'
kind_is Reader Reader x = refl
kind_is Reader Writer x = clash x refl
kind_is Writer Reader x = clash x refl
kind_is Writer Writer x = refl

-- both are readers
abbrev pub both_read : Kind → Kind → Bool
both_read κ κ' = same_kind κ Reader && same_kind κ' Reader

-- ---- words of readers and of a writer

-- who is let in as a reader, and who has its place: the word is a set, and the bit says so
let_in : (t w : ℕ) → admits Reader t w ≡ true → (w < sets) × (member t w ≡ false)
let_in t w a = (ltb-true w sets (and_left _ (not (member t w)) a), not-true (member t w) (and_right (unwritten w) _ a))

placed_in : (t w : ℕ) → held Reader t w ≡ true → (w < sets) × (member t w ≡ true)
placed_in t w h = (ltb-true w sets (and_left _ (member t w) h), and_right (unwritten w) _ h)

-- the writer's word
writer_is : (t w : ℕ) → held Writer t w ≡ true → w ≡ mark Writer t
writer_is t w h = eqb-true w (mark Writer t) h

-- a set has no writer, and what has a writer is no set; 0 has neither
set-held : (v w : ℕ) → w < sets → held Reader v w ≡ member v w
set-held v w b = rw (lt-ltb w sets b)

set_unheld : (v w : ℕ) → w < sets → held Writer v w ≡ false
set_unheld v w b = ne_eqb w (mark Writer v) (λ e. omega arith)

written_unheld : (t v : ℕ) → held Reader v (mark Writer t) ≡ false
written_unheld t v = rw (le-ltb (mark Writer t) sets (omega arith))

pub nobody-held : (κ : Kind) (v : ℕ) → held κ v none ≡ false
nobody-held Reader v = nobody-member v
nobody-held Writer v = ne_eqb none (mark Writer v) (λ e. omega arith)

-- a writer comes to 0, and leaves 0
written_on : (t w : ℕ) → admits Writer t w ≡ true → w + mark Writer t ≡ mark Writer t
written_on t w a = let z = free-none w a in omega arith

written_off : (t w : ℕ) → held Writer t w ≡ true → w - mark Writer t ≡ none
written_off t w h = let e = writer_is t w h in omega arith

-- a reader comes to a set, and leaves one
reader_joins : (t w : ℕ) → t < most_threads → admits Reader t w ≡ true → w + 2 ^ t < sets
reader_joins t w b a = let x = let_in t w a in bit_below set_bits t w (omega arith) x.0 x.1

reader_quits : (t w : ℕ) → held Reader t w ≡ true → w - 2 ^ t < sets
reader_quits t w h = let b = (placed_in t w h).0 in omega arith

-- ---- a thread comes

-- whoever is let in has no place yet
pub admits-lacks : (κ κ' : Kind) (t w : ℕ) → admits κ t w ≡ true → held κ' t w ≡ false
admits-lacks Reader Reader t w a = let x = let_in t w a in set-held t w x.0 ∙ x.1
admits-lacks Reader Writer t w a = set_unheld t w (let_in t w a).0
admits-lacks Writer κ' t w a = rw (free-none w a) (nobody-held κ' t)

-- then it has it as the kind that it came as, and all others have what they had
pub joins_self : (κ κ' : Kind) (t w : ℕ) → t < most_threads → admits κ t w ≡ true → held κ' t (w + mark κ t) ≡ same_kind κ' κ
joins_self Reader Reader t w b a = set-held t (w + 2 ^ t) (reader_joins t w b a) ∙ bit_joins t w (let_in t w a).1
joins_self Reader Writer t w b a = set_unheld t (w + 2 ^ t) (reader_joins t w b a)
joins_self Writer Reader t w b a = rw (written_on t w a) (written_unheld t t)
joins_self Writer Writer t w b a = eq-eqb (w + mark Writer t) (mark Writer t) (written_on t w a)

pub joins_other : (κ κ' : Kind) (t v w : ℕ) → t < most_threads → (t ≡ v → ⊥) → admits κ t w ≡ true →
    held κ' v (w + mark κ t) ≡ held κ' v w
joins_other Reader Reader t v w b apart a =
    let x = let_in t w a in
    set-held v (w + 2 ^ t) (reader_joins t w b a) ∙ bit_joins_other t v w apart x.1 ∙ sym (set-held v w x.0)
joins_other Reader Writer t v w b apart a =
    set_unheld v (w + 2 ^ t) (reader_joins t w b a) ∙ sym (set_unheld v w (let_in t w a).0)
joins_other Writer Reader t v w b apart a =
    ap (held Reader v) (written_on t w a) ∙ written_unheld t v ∙ sym (ap (held Reader v) (free-none w a) ∙ nobody-held Reader v)
joins_other Writer Writer t v w b apart a =
    let z = free-none w a in
    ne_eqb (w + mark Writer t) (mark Writer v) (λ e. apart (omega arith)) ∙ sym (ap (held Writer v) z ∙ nobody-held Writer v)

-- the word stays one of 32 bits
pub joins-word : (κ : Kind) (t w : ℕ) → t < most_threads → admits κ t w ≡ true → w + mark κ t ≤ most_word
joins-word Reader t w b a = let l = reader_joins t w b a in omega arith
joins-word Writer t w b a = let z = free-none w a in omega arith

-- ---- a thread goes

-- its mark is in the word
pub held-mark : (κ : Kind) (t w : ℕ) → held κ t w ≡ true → mark κ t ≤ w
held-mark Reader t w h = bit_within t w (placed_in t w h).1
held-mark Writer t w h = let e = writer_is t w h in omega arith

-- then it has nothing, and all others have what they had
pub quits_self : (κ κ' : Kind) (t w : ℕ) → held κ t w ≡ true → held κ' t (w - mark κ t) ≡ false
quits_self Reader Reader t w h = set-held t (w - 2 ^ t) (reader_quits t w h) ∙ bit_quits t w (placed_in t w h).1
quits_self Reader Writer t w h = set_unheld t (w - 2 ^ t) (reader_quits t w h)
quits_self Writer κ' t w h = rw (written_off t w h) (nobody-held κ' t)

pub quits_other : (κ κ' : Kind) (t v w : ℕ) → (t ≡ v → ⊥) → held κ t w ≡ true → held κ' v (w - mark κ t) ≡ held κ' v w
quits_other Reader Reader t v w apart h =
    let x = placed_in t w h in
    set-held v (w - 2 ^ t) (reader_quits t w h) ∙ bit_quits_other t v w apart x.1 ∙ sym (set-held v w x.0)
quits_other Reader Writer t v w apart h =
    set_unheld v (w - 2 ^ t) (reader_quits t w h) ∙ sym (set_unheld v w (placed_in t w h).0)
quits_other Writer Reader t v w apart h =
    ap (held Reader v) (written_off t w h) ∙ nobody-held Reader v ∙ sym (ap (held Reader v) (writer_is t w h) ∙ written_unheld t v)
quits_other Writer Writer t v w apart h =
    let others : held Writer v (mark Writer t) ≡ false = ne_eqb (mark Writer t) (mark Writer v) (λ e. apart (omega arith)) in
    ap (held Writer v) (written_off t w h) ∙ nobody-held Writer v ∙ sym (ap (held Writer v) (writer_is t w h) ∙ others)

-- ---- who has it

-- a writer has it alone, and doesn't read
pub writer-alone : (κ : Kind) (t v w : ℕ) → held Writer t w ≡ true → held κ v w ≡ true → t ≡ v
writer-alone Reader t v w h g = clash g (ap (held Reader v) (writer_is t w h) ∙ written_unheld t v)
writer-alone Writer t v w h g = let x = writer_is t w h in let y = writer_is v w g in omega arith

pub writer-writes : (t w : ℕ) → held Writer t w ≡ true → held Reader t w ≡ false
writer-writes t w h = ap (held Reader t) (writer_is t w h) ∙ written_unheld t t

-- the word names it
pub written_by : (t w : ℕ) → held Writer t w ≡ true → (unwritten w ≡ false) × (writer w ≡ t)
written_by t w h = let e = writer_is t w h in (le-ltb w sets (omega arith), omega arith)

-- with its mark alone a thread has it as well
pub mark-held : (κ : Kind) (t w : ℕ) → held κ t w ≡ true → held κ t (mark κ t) ≡ true
mark-held Reader t w h =
    let only : 0 + 2 ^ t ≡ 2 ^ t = omega arith in
    set-held t (2 ^ t) (omega (arith, (placed_in t w h).0, held-mark Reader t w h)) ∙ ap (member t) (sym only)
    ∙ bit_joins t 0 (nobody-member t)
mark-held Writer t w h = eq-eqb (mark Writer t) (mark Writer t) refl

-- nobody writes where one reads, is let in or has gone
pub read_unwritten : (t w : ℕ) → held Reader t w ≡ true → unwritten w ≡ true
read_unwritten t w h = lt-ltb w sets (placed_in t w h).0

pub admits-unwritten : (κ : Kind) (t w : ℕ) → admits κ t w ≡ true → unwritten w ≡ true
admits-unwritten Reader t w a = lt-ltb w sets (let_in t w a).0
admits-unwritten Writer t w a = rw (free-none w a)

pub quits-unwritten : (κ : Kind) (t w : ℕ) → held κ t w ≡ true → unwritten (w - mark κ t) ≡ true
quits-unwritten Reader t w h = lt-ltb (w - 2 ^ t) sets (reader_quits t w h)
quits-unwritten Writer t w h = rw (written_off t w h)

-- ---- who is let in

-- into a set, who has no place there
set-admits : (t w : ℕ) → w < sets → member t w ≡ false → admits Reader t w ≡ true
set-admits t w b m = rw (lt-ltb w sets b, m)

pub free-admits : (κ : Kind) (t w : ℕ) → free w ≡ true → admits κ t w ≡ true
free-admits Reader t w f = rw (free-none w f, nobody-member t)
free-admits Writer t w f = f

-- who isn't let in finds somebody there
pub unlet_not_free : (κ : Kind) (t w : ℕ) → admits κ t w ≡ false → free w ≡ false
unlet_not_free κ t w a = either_way (free w) (λ f. clash (free-admits κ t w f) a) (λ f. f)

-- u is let in as before where t comes beside it and both read, and where t goes
pub joins-admits : (κ κ' : Kind) (t u w : ℕ) → t < most_threads → (t ≡ u → ⊥) → admits κ t w ≡ true → admits κ' u w ≡ true →
    both_read κ κ' ≡ true → admits κ' u (w + mark κ t) ≡ true
joins-admits Reader Reader t u w b apart a a' x =
    set-admits u (w + 2 ^ t) (reader_joins t w b a) (bit_joins_other t u w apart (let_in t w a).1 ∙ (let_in u w a').1)
joins-admits Reader Writer t u w b apart a a' x = clash x refl
joins-admits Writer κ' t u w b apart a a' x = clash x refl

pub quits-admits : (κ κ' : Kind) (t u w : ℕ) → (t ≡ u → ⊥) → held κ t w ≡ true → admits κ' u w ≡ true → admits κ' u (w - mark κ t) ≡ true
quits-admits Reader Reader t u w apart h a =
    set-admits u (w - 2 ^ t) (reader_quits t w h) (bit_quits_other t u w apart (placed_in t w h).1 ∙ (let_in u w a).1)
quits-admits Reader Writer t u w apart h a = clash h (rw (free-none w a) (nobody-held Reader t))
quits-admits Writer κ' t u w apart h a = free-admits κ' u (w - mark Writer t) (eq-eqb (w - mark Writer t) 0 (written_off t w h))

-- and it isn't where t comes and not both read
pub joins_bars : (κ κ' : Kind) (t u w : ℕ) → admits κ t w ≡ true → both_read κ κ' ≡ false → admits κ' u (w + mark κ t) ≡ false
joins_bars Reader Reader t u w a x = clash refl x
joins_bars Reader Writer t u w a x = let p = pow_pos t in ne_eqb (w + 2 ^ t) 0 (λ e. omega arith)
joins_bars Writer Reader t u w a x = rw (written_on t w a, le-ltb (mark Writer t) sets (omega arith))
joins_bars Writer Writer t u w a x = ne_eqb (w + mark Writer t) 0 (λ e. omega arith)

-- ---- of proper words

within-set : (threads : ℕ) → threads ≤ most_threads → 2 ^ threads ≤ sets
within-set threads few = pow_mono {i = threads} {j = set_bits} (omega arith)

-- a proper word is one of 32 bits
pub proper-word : (threads w : ℕ) → threads ≤ most_threads → proper threads w ≡ true → w ≤ most_word
proper-word threads w few is =
    or_way (ltb w (2 ^ threads)) _ is (λ x. let l = ltb-true w (2 ^ threads) x in let m = within-set threads few in omega arith)
    (λ x.
    let e : w % sets ≡ 0 = eqb-true (w % sets) 0 (and_left (eqb (w % sets) 0) _ x) in
    let l : w / sets ≤ threads = leb-true (w / sets) threads (and_right (eqb (w % sets) 0) _ x) in
    omega arith)

-- a set whose members are all below a number is below that power of two
members-below : (k j w : ℕ) → w < 2 ^ j → ((t : ℕ) → member t w ≡ true → t < k) → w < 2 ^ k
members-below zero j w b below =
    either_way (free w) (λ f. let z = free-none w f in omega arith)
    (λ f. let m = some-member j w b f in let l = below m.0 m.1 in absurd (omega arith))
members-below (suc k) j w b below =
    let e = twice k in
    let half =
    members-below k j (w / 2) (omega arith) (λ t x. let l : suc t < suc k = below (suc t) (later t w ∙ x) in omega arith) in
    omega arith

proper-apart : (threads w : ℕ) → threads ≤ most_threads → proper threads w ≡ true → InParts threads w
proper-apart threads w few is =
    or_way (ltb w (2 ^ threads)) _ is
    (λ x.
    let l = ltb-true w (2 ^ threads) x in
    let m = within-set threads few in
    let set : w % sets ≡ w = omega arith in
    let nobody : w / sets ≡ 0 = omega arith in
    record {
      not_both = inr nobody;
      members =
          λ t y. either_way (ltb t threads) (λ z. ltb-true t threads z)
          (λ z.
          let h = pow_mono (ltb-false t threads z) in
          let i = bit_within t w (rw set at y) in
          absurd (omega arith));
      writes = omega arith;
    })
    (λ x.
    let e : w % sets ≡ 0 = eqb-true (w % sets) 0 (and_left (eqb (w % sets) 0) _ x) in
    record {
      not_both = inl e;
      members = λ t y. clash (rw e at y) (nobody-member t);
      writes = leb-true (w / sets) threads (and_right (eqb (w % sets) 0) _ x);
    })

pub proper-exactly : (threads w : ℕ) → threads ≤ most_threads → (proper threads w ≡ true) ↔ InParts threads w
proper-exactly threads w few = (proper-apart threads w few, λ A. go A A.not_both)
  where
    go : InParts threads w → (w % sets ≡ 0) ⊎ (w / sets ≡ 0) → proper threads w ≡ true
    go A (inl e) = rw (e, le-leb (w / sets) threads A.writes) (or-true (ltb w (2 ^ threads)))
    go A (inr e) =
        let set : w % sets ≡ w = omega arith in
        rw (lt-ltb w (2 ^ threads) (members-below threads set_bits w (omega arith) (λ t x. A.members t (rw set x))))

pub none-proper : (threads : ℕ) → proper threads none ≡ true
none-proper threads = rw (lt-ltb none (2 ^ threads) (pow_pos threads))

module _ (threads : ℕ) (few : threads ≤ most_threads) (w : ℕ) (is : proper threads w ≡ true) where
  -- a set is below the power of two of the threads
  set_below : w < sets → w < 2 ^ threads
  set_below b =
      or_way (ltb w (2 ^ threads)) _ is (λ x. ltb-true w (2 ^ threads) x)
      (λ x.
      let e : w % sets ≡ 0 = eqb-true (w % sets) 0 (and_left (eqb (w % sets) 0) _ x) in
      let p = pow_pos threads in
      omega arith)

  -- what isn't a set has a writer
  pub writer-found : unwritten w ≡ false → held Writer (writer w) w ≡ true
  writer-found u =
      let b : sets ≤ w = ltb-false w sets u in
      or_way (ltb w (2 ^ threads)) _ is
      (λ x. let l = ltb-true w (2 ^ threads) x in let m = within-set threads few in absurd (omega arith))
      (λ x.
      let e : w % sets ≡ 0 = eqb-true (w % sets) 0 (and_left (eqb (w % sets) 0) _ x) in
      eq-eqb w (mark Writer (writer w)) (omega arith))

  -- what isn't free has somebody
  pub holder_found : free w ≡ false → (κ : Kind) × (v : ℕ) × (held κ v w ≡ true)
  holder_found f =
      either_way (unwritten w)
      (λ u.
      let b : w < sets = ltb-true w sets u in
      let m = some-member threads w (set_below b) f in
      (Reader, m.0, set-held m.0 w b ∙ m.1))
      (λ u. (Writer, writer w, writer-found u))

  pub nobody_in : ((κ : Kind) (v : ℕ) → held κ v w ≡ false) → w ≡ none
  nobody_in lacks =
      free-none w (either_way (free w) (λ f. f) (λ f. let x = holder_found f in clash x.2 (lacks x.0 x.1)))

  -- t is let in where it has no place in the set and whoever has it reads beside a reader
  pub admits-unless : (κ : Kind) (t : ℕ) → held Reader t w ≡ false →
      ((κ' : Kind) (v : ℕ) → held κ' v w ≡ true → both_read κ κ' ≡ true) → admits κ t w ≡ true
  admits-unless Reader t lacks others =
      either_way (unwritten w) (λ u. let b = ltb-true w sets u in set-admits t w b (sym (set-held t w b) ∙ lacks))
      (λ u. clash (others Writer (writer w) (writer-found u)) refl)
  admits-unless Writer t lacks others =
      either_way (free w) (λ f. f) (λ f. let x = holder_found f in clash (others x.0 x.1 x.2) refl)

  -- it stays proper
  pub joins-proper : (κ : Kind) (t : ℕ) → t < threads → admits κ t w ≡ true → proper threads (w + mark κ t) ≡ true
  joins-proper Reader t b a =
      let x = let_in t w a in
      rw (lt-ltb (w + 2 ^ t) (2 ^ threads) (bit_below threads t w b (set_below x.0) x.1))
  joins-proper Writer t b a =
      let none_reads : mark Writer t % sets ≡ 0 = omega arith in
      let writes : mark Writer t / sets ≡ by t = omega arith in
      rw (written_on t w a, none_reads, writes, le-leb (by t) threads (omega arith)) (or-true (ltb (mark Writer t) (2 ^ threads)))

  pub quits-proper : (κ : Kind) (t : ℕ) → held κ t w ≡ true → proper threads (w - mark κ t) ≡ true
  quits-proper Reader t h =
      let l = set_below (placed_in t w h).0 in
      rw (lt-ltb (w - 2 ^ t) (2 ^ threads) (omega arith))
  quits-proper Writer t h = rw (written_off t w h) (none-proper threads)
