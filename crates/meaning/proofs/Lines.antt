-- What a line must show, `Fine`, and the laws that the lines' proofs share: what a line that takes, owns, releases or lets go has next,
-- and what becomes of map and headers where a line writes there. The files of the room use it:
--  * Write, Read, Unmap, Level: the lines of each operation, a proof each, by their labels.
--  * EveryLine: all of them, and every begin, put together (`fine`, `begins`).
-- Assumes nothing.
pub mod Write
pub mod Read
pub mod Unmap
pub mod Level
pub mod EveryLine
use mathlib.Core.Path.{◌≡◌, refl, sym, ap, ◌∙◌, subst}
use mathlib.Core.Bool.{Bool, true, false, not, ◌&&◌, ◌||◌, and-true, and-false}
use mathlib.Core.List.{[], ◌∷◌}
use mathlib.Core.Logic.{◌⊎◌, inl, inr}
use Prim.Native.Nat.{ℕ, zero, suc, ◌+◌, ◌-◌, ◌<◌, ◌≤◌}
use native.Mathlib.Omega.{arith}
use lib.Dec.{eqb}
use borrow.Author.Tests.{eqb-true, eqb-false, eq-eqb, ne_eqb}
use Rattle.meaning.specs.declared.Kind.{Kind}
use Rattle.meaning.specs.declared.Thread.{Thread}
use Rattle.meaning.specs.declared.Pass.TheVariants.{Plus, Minus}
use Rattle.meaning.specs.declared.Effect.{Effect}
use Rattle.meaning.specs.declared.Verdict.{Verdict}
use Rattle.meaning.specs.declared.Verdict.TheVariants.{Blocked, Fault, Go, Done}
use Rattle.meaning.specs.Table.{upd}
use Rattle.meaning.specs.Limits.{most_threads}
use Rattle.meaning.specs.Store.{Store, idle}
use Rattle.meaning.specs.Holding.{none, free, mark, held, admits, naming, named}
use Rattle.meaning.specs.Programs.{act_at}
use Rattle.meaning.specs.Step.{perform, apply}
use Rattle.meaning.specs.Schedule.{emit, of_manager}
use Rattle.meaning.specs.Demands.{kept}
use Rattle.meaning.proofs.Base.Words.{same, either_way, clash, by_held, none-held, naming_once, naming_not_none, naming_not_free, naming-named, named-naming, named-below, upd_each}
use Rattle.meaning.proofs.Base.Sets.{same_kind, joins_self, quits_self}
use Rattle.meaning.proofs.Invariant.{kind, takes, gives_up, Joins, leaves_all, joins, quits, holds_h, holds_n, owns_p, owns_q, Holds, Facts, Agrees, Back, Inv}
use Rattle.meaning.proofs.Manager.View.{status, places, answered, due}
use Rattle.meaning.proofs.Invariant.Keeping.{n_locked, p-owned, q-owned, Moves}

infixr 30 ◌▸◌
-- ---- what a line must show

-- the lock that a thread waits for isn't free, or doesn't let it in; it has none of those that come after that one
pub data Waits (s : Store) (t : ℕ) (r : Thread) : Type 0 where
  for_h : holds_h r ≡ false → holds_n r ≡ false → free s.lock ≡ false → Waits s t r
  for_n : holds_n r ≡ false → admits (kind r) t (s.locks r.n) ≡ false → Waits s t r

-- a line that is not the last: the answer to its operation, if it is the manager's, is owed from the last lock on
pub record GoesOn (s : Store) (t : ℕ) (r r' : Thread) (e : Effect) : Type 0 where
  pub moves : Moves s t r r' e
  pub owed : due (apply s t r' e) r' ≡ emit (places r) (answered r (kept s r.n)) (due s r)

-- the last line: the thread is idle next, and what it answers was owed
pub record Ends (s : Store) (t : ℕ) (r : Thread) (value : ℕ) (e : Effect) : Type 0 where
  pub moves : Moves s t r idle e
  pub owed : due s r ≡ of_manager (record { op = r.op; value = value } ∷ [])

-- what a verdict must show of a step of thread t with record r: a fault can't
abbrev pub Fine : Store → ℕ → Thread → Verdict → Type 0
Fine s t r Blocked = Waits s t r
Fine s t r Fault = ⊥
Fine s t r (Go r' e) = GoesOn s t r r' e
Fine s t r (Done answer e) = Ends s t r answer e

-- what is known where thread t stands with record r
pub record Here (s : Store) (t : ℕ) (r : Thread) : Type 0 where
  pub inv : Inv s
  pub below : t < most_threads
  pub is : s.thread t ≡ r
  pub holds : Holds s t r
  pub facts : Facts s r

abbrev pub at : ℕ → ℕ → ℕ → ℕ → ℕ → ℕ → ℕ → Thread
at op line n c p q h = record { op = op; line = line; n = n; c = c; p = p; q = q; h = h }

-- what is proved of each line of each operation
abbrev pub Line : Store → ℕ → ℕ → ℕ → Type 0
Line s t op line =
    (n c p q h : ℕ) → Here s t (at op line n c p q h) →
    Fine s t (at op line n c p q h) (perform (act_at op line) s t (at op line n c p q h))

-- P of each of so many numbers, from l on: a proof for each, in order
abbrev pub From : (ℕ → Type 0) → ℕ → ℕ → Type 0
From P l zero = Unit {0}
From P l (suc k) = P l × From P (suc l) k

abbrev pub ◌▸◌ : {A B : Type 0} → A → B → A × B
a ▸ b = (a, b)

pub from_at : (P : ℕ → Type 0) (k l : ℕ) → From P l k → (j : ℕ) → l ≤ j → j < l + k → P j
from_at P zero l all j low high = absurd (omega arith)
from_at P (suc k) l all j low high =
    either_way (eqb l j) (λ e. subst P (eqb-true l j e) all.0)
    (λ e. let x : l ≡ j → ⊥ = eqb-false l j e in from_at P k (suc l) all.1 j (omega arith) (omega arith))

pub n_held : {s : Store} {t : ℕ} {r : Thread} → Here s t r → holds_n r ≡ true → held (kind r) t (s.locks r.n) ≡ true
n_held {r} H x = H.holds.locks (kind r) r.n ∙ n_locked r x

pub p-held : {s : Store} {t : ℕ} {r : Thread} → Here s t r → owns_p r ≡ true → held (kind r) t (s.own r.p) ≡ true
p-held {r} H x = H.holds.own (kind r) r.p ∙ p-owned r x

pub q-held : {s : Store} {t : ℕ} {r : Thread} → Here s t r → owns_q r ≡ true → held (kind r) t (s.own r.q) ≡ true
q-held {r} H x = H.holds.own (kind r) r.q ∙ q-owned r x

-- ---- what a line changes and holds next

-- t comes to an entry as κ, or goes from it
pub comes : (κ : Kind) (about : Kind → ℕ → Type 0) (t : ℕ) (f : ℕ → ℕ) (i : ℕ) → t < most_threads → admits κ t (f i) ≡ true → about κ i →
    Joins about t f (Plus i (mark κ t))
comes κ about t f i b a x = joins κ i b a x

pub parts : (κ : Kind) (about : Kind → ℕ → Type 0) (t : ℕ) (f : ℕ → ℕ) (i : ℕ) → held κ t (f i) ≡ true → Joins about t f (Minus i (mark κ t))
parts κ about t f i h = quits κ i h

-- what t has of an entry after it took or owned, released or let go entry i; of two blocks where it has another
pub entry-taken : (κ : Kind) (t : ℕ) (f : ℕ → ℕ) (i : ℕ) → t < most_threads → admits κ t (f i) ≡ true → (κ' : Kind) (k : ℕ) →
    held κ' t (f k) ≡ false → held κ' t (upd f i (f i + mark κ t) k) ≡ (same_kind κ' κ && eqb i k)
entry-taken κ t f i b a κ' k =
    upd_each (λ k w. held κ' t (f k) ≡ false → held κ' t w ≡ (same_kind κ' κ && eqb i k)) f i (f i + mark κ t)
    (λ _. joins_self κ κ' t (f i) b a ∙ rw (same i) (sym (and-true (same_kind κ' κ))))
    (λ k apart x. x ∙ rw (ne_eqb i k apart) (sym (and-false (same_kind κ' κ)))) k

pub entry-given : (κ : Kind) (t : ℕ) (f : ℕ → ℕ) (i : ℕ) → held κ t (f i) ≡ true → (κ' : Kind) (k : ℕ) →
    held κ' t (f k) ≡ (same_kind κ' κ && eqb i k) → held κ' t (upd f i (f i - mark κ t) k) ≡ false
entry-given κ t f i h κ' k =
    upd_each (λ k w. held κ' t (f k) ≡ (same_kind κ' κ && eqb i k) → held κ' t w ≡ false) f i (f i - mark κ t)
    (λ _. quits_self κ κ' t (f i) h)
    (λ k apart x. x ∙ rw (ne_eqb i k apart) (and-false (same_kind κ' κ))) k

or_absorb : (a b : Bool) → (a || a && b) ≡ a
or_absorb true b = refl
or_absorb false b = refl

pub second-taken : (κ : Kind) (t : ℕ) (f : ℕ → ℕ) (i j : ℕ) → t < most_threads → admits κ t (f i) ≡ true → (κ' : Kind) (k : ℕ) →
    held κ' t (f k) ≡ (same_kind κ' κ && eqb j k) →
    held κ' t (upd f i (f i + mark κ t) k) ≡ (same_kind κ' κ && eqb i k || same_kind κ' κ && eqb j k)
second-taken κ t f i j b a κ' k =
    upd_each (λ k w. held κ' t (f k) ≡ (same_kind κ' κ && eqb j k) → held κ' t w ≡ (same_kind κ' κ && eqb i k || same_kind κ' κ && eqb j k)) f i
    (f i + mark κ t)
    (λ _. joins_self κ κ' t (f i) b a ∙ rw (same i, and-true (same_kind κ' κ)) (sym (or_absorb (same_kind κ' κ) (eqb j i))))
    (λ k apart x. x ∙ rw (ne_eqb i k apart, and-false (same_kind κ' κ))) k

pub second-given : (κ : Kind) (t : ℕ) (f : ℕ → ℕ) (i j : ℕ) → held κ t (f i) ≡ true → (j ≡ i → ⊥) → (κ' : Kind) (k : ℕ) →
    held κ' t (f k) ≡ (same_kind κ' κ && eqb i k || same_kind κ' κ && eqb j k) →
    held κ' t (upd f i (f i - mark κ t) k) ≡ (same_kind κ' κ && eqb j k)
second-given κ t f i j h others κ' k =
    upd_each (λ k w. held κ' t (f k) ≡ (same_kind κ' κ && eqb i k || same_kind κ' κ && eqb j k) → held κ' t w ≡ (same_kind κ' κ && eqb j k)) f i
    (f i - mark κ t)
    (λ _. quits_self κ κ' t (f i) h ∙ rw (ne_eqb j i others, and-false (same_kind κ' κ)))
    (λ k apart x. x ∙ rw (ne_eqb i k apart, and-false (same_kind κ' κ))) k

-- ---- what a line does to the map and the headers

-- a header is written where no number is mapped
agrees-header : (map header : ℕ → ℕ) (numbers blocks i w : ℕ) → Agrees map header numbers blocks →
    ((k : ℕ) → map k ≡ naming i → ⊥) → w ≤ numbers → Agrees map (upd header i w) numbers blocks
agrees-header map header numbers blocks i w A alone below =
    record {
      headed = λ k. upd_each (λ m x. map k ≡ naming m → x ≡ naming k) header i w (λ on. absurd (alone k on))
          (λ m _. A.headed k m);
      map_below = A.map_below;
      header-below = upd_each (λ m x. x ≤ numbers) header i w below (λ m _. A.header-below m);
    }

-- a number is mapped to a block whose header names it
agrees-map : (map header : ℕ → ℕ) (numbers blocks i w : ℕ) → Agrees map header numbers blocks →
    ((m : ℕ) → w ≡ naming m → header m ≡ naming i) → w ≤ blocks → Agrees (upd map i w) header numbers blocks
agrees-map map header numbers blocks i w A names below =
    record {
      headed = λ k m. upd_each (λ k x. x ≡ naming m → header m ≡ naming k) map i w (names m) (λ k _. A.headed k m) k;
      map_below = upd_each (λ k x. x ≤ blocks) map i w below (λ k _. A.map_below k);
      header-below = A.header-below;
    }

-- which blocks a thread leads astray, before and after: the one whose header it writes, unless it frees it, and no longer otherwise
mapped-header : (map header : ℕ → ℕ) (i w : ℕ) (before after : ℕ → Bool) → ((k : ℕ) → w ≡ naming k → after i ≡ true) →
    ((m : ℕ) → (i ≡ m → ⊥) → before m ≡ true → after m ≡ true) → (m k : ℕ) → upd header i w m ≡ naming k →
    (header m ≡ naming k → Back map m k (before m ≡ true)) → Back map m k (after m ≡ true)
mapped-header map header i w before after new rest m k =
    upd_each (λ m x. x ≡ naming k → (header m ≡ naming k → Back map m k (before m ≡ true)) →
    Back map m k (after m ≡ true)) header i w
    (λ x _. inr (new k x)) (λ m apart x old. go m apart (old x)) m
  where
    go : (m : ℕ) → (i ≡ m → ⊥) → Back map m k (before m ≡ true) → Back map m k (after m ≡ true)
    go m apart (inl y) = inl y
    go m apart (inr y) = inr (rest m apart y)

-- at W7 and L10 that block, through p or q as `after` says; at U7 and L13 none
pub mapped-headed : (map header : ℕ → ℕ) (i w : ℕ) (after : ℕ → Bool) → after i ≡ true → (m k : ℕ) →
    upd header i w m ≡ naming k → (header m ≡ naming k → Back map m k (false ≡ true)) → Back map m k (after m ≡ true)
mapped-headed map header i w after new = mapped-header map header i w (λ m. false) after (λ k _. new) (λ m _ x. clash x refl)

pub mapped_freed : (map header : ℕ → ℕ) (i : ℕ) → (m k : ℕ) → upd header i none m ≡ naming k →
    (header m ≡ naming k → Back map m k (eqb i m ≡ true)) → Back map m k (false ≡ true)
mapped_freed map header i =
    mapped-header map header i none (λ m. eqb i m) (λ m. false) (λ k x. naming_not_none k none x refl)
    (λ m apart x. absurd (apart (eqb-true i m x)))

-- the one that its number leaves, and no longer the one that it is mapped to
mapped-map : (map header : ℕ → ℕ) (i w : ℕ) (before after : ℕ → Bool) → ((m : ℕ) → map i ≡ naming m → after m ≡ true) →
    ((m : ℕ) → before m ≡ true → header m ≡ naming i) → ((m : ℕ) → before m ≡ true → w ≡ naming m) →
    (m k : ℕ) → header m ≡ naming k → (header m ≡ naming k → Back map m k (before m ≡ true)) →
    Back (upd map i w) m k (after m ≡ true)
mapped-map map header i w before after leaves was comes m k x old =
    upd_each (λ k y. header m ≡ naming k → Back map m k (before m ≡ true) → (y ≡ naming m) ⊎ (after m ≡ true)) map i w
    (λ _ o. mine o) (λ k apart x o. other k apart x o) k x (old x)
  where
    mine : Back map m i (before m ≡ true) → (w ≡ naming m) ⊎ (after m ≡ true)
    mine (inl y) = inr (leaves m y)
    mine (inr y) = inl (comes m y)

    other : (k : ℕ) → (i ≡ k → ⊥) → header m ≡ naming k → Back map m k (before m ≡ true) → Back map m k (after m ≡ true)
    other k apart x (inl y) = inl y
    other k apart x (inr y) = absurd (apart (naming_once i k (sym (was m y) ∙ x)))

-- a headed block is no free one
pub headed-apart : (s : Store) (n p q : ℕ) → s.header p ≡ naming n → s.header q ≡ none → p ≡ q → ⊥
headed-apart s n p q headed empty e =
    naming_not_none n (s.header p) headed (subst (λ (m : ℕ). s.header m ≡ none) (sym e) empty)

-- W7 and L10: no number is mapped to a block whose header is free
pub headed-agrees : (s : Store) (I : Inv s) (m w : ℕ) → s.header m ≡ none → w ≤ s.numbers →
    Agrees s.map (upd s.header m w) s.numbers s.blocks
headed-agrees s I m w empty below =
    agrees-header s.map s.header s.numbers s.blocks m w I.agrees
    (λ k on. naming_not_none k (s.header m) (I.agrees.headed k m on) empty) below

-- U7 and L13: nor to one whose header names a number that is mapped elsewhere or nowhere
pub freed_agrees : (s : Store) (I : Inv s) (n m : ℕ) → s.header m ≡ naming n → (s.map n ≡ naming m → ⊥) →
    Agrees s.map (upd s.header m none) s.numbers s.blocks
freed_agrees s I n m headed off =
    agrees-header s.map s.header s.numbers s.blocks m none I.agrees
    (λ k on. off (subst (λ (k : ℕ). s.map k ≡ naming m) (naming_once k n (sym (I.agrees.headed k m on) ∙ headed)) on))
    (omega arith)

-- W10 and L12: number n is mapped to a block whose header names it, which is then no longer astray
pub moved-agrees : (s : Store) (I : Inv s) (n m : ℕ) → s.header m ≡ naming n → m < s.blocks →
    Agrees (upd s.map n (naming m)) s.header s.numbers s.blocks
moved-agrees s I n m headed below =
    agrees-map s.map s.header s.numbers s.blocks n (naming m) I.agrees
    (λ x e. subst (λ (x : ℕ). s.header x ≡ naming n) (naming_once m x e) headed) (omega arith)

pub moved-mapped : (s : Store) (n m : ℕ) → s.header m ≡ naming n → (before after : ℕ → Bool) →
    ((x : ℕ) → before x ≡ true → m ≡ x) → ((x : ℕ) → s.map n ≡ naming x → after x ≡ true) →
    (x k : ℕ) → s.header x ≡ naming k → (s.header x ≡ naming k → Back s.map x k (before x ≡ true)) →
    Back (upd s.map n (naming m)) x k (after x ≡ true)
moved-mapped s n m headed before after one leaves =
    mapped-map s.map s.header n (naming m) before after leaves
    (λ x y. subst (λ (x : ℕ). s.header x ≡ naming n) (one x y) headed) (λ x y. ap naming (one x y))

-- U6: number n leaves its block, which is then astray
pub unmapped-agrees : (s : Store) (I : Inv s) (n : ℕ) →
    Agrees (upd s.map n none) s.header s.numbers s.blocks
unmapped-agrees s I n =
    agrees-map s.map s.header s.numbers s.blocks n none I.agrees (λ m e. naming_not_none m none e refl)
    (omega arith)

pub unmapped-mapped : (s : Store) (n p : ℕ) → s.map n ≡ naming p → (x k : ℕ) → s.header x ≡ naming k →
    (s.header x ≡ naming k → Back s.map x k (false ≡ true)) → Back (upd s.map n none) x k (eqb p x ≡ true)
unmapped-mapped s n p on =
    mapped-map s.map s.header n none (λ x. false) (λ x. eqb p x)
    (λ x y. eq-eqb p x (naming_once p x (sym on ∙ y))) (λ x y. clash y refl) (λ x y. clash y refl)

-- W3, R2 and U3: what is looked up is a block
pub looked-up : (s : Store) (I : Inv s) (n : ℕ) → free (s.map n) ≡ false →
    (s.map n ≡ naming (named (s.map n))) × (named (s.map n) < s.blocks)
looked-up s I n f = (naming-named (s.map n) f, named-below (s.map n) s.blocks f (I.agrees.map_below n))

-- ---- what is known of contents, and of an idle thread

-- what a mapped number's block holds
pub kept_on : (s : Store) (n m : ℕ) → s.map n ≡ naming m → kept s n ≡ s.content m
kept_on s n m on = rw (naming_not_free m (s.map n) on, on, named-naming m)

-- so a mapped number that holds c
pub status_on : (s : Store) (n m c : ℕ) → s.map n ≡ naming m → kept s n ≡ c → status s n ≡ record { mapped = true; content = c }
status_on s n m c on is = λ i. record { mapped = not (naming_not_free m (s.map n) on i); content = is i }

-- and one that is moved from block m to m' with its content
pub status-moved : (s s' : Store) (n m m' : ℕ) → s.map n ≡ naming m → s'.map n ≡ naming m' → s'.content m' ≡ s.content m →
    status s' n ≡ status s n
status-moved s s' n m m' on on' is =
    status_on s' n m' (s.content m) on' (kept_on s' n m' on' ∙ is) ∙ sym (status_on s n m (s.content m) on (kept_on s n m on))

-- what is known of an idle thread
pub facts-idle : (s : Store) → 0 < s.numbers → s.numbers < s.blocks → Facts s idle
facts-idle s some more = search arith

-- what proves nearly every line's part: what it takes and gives, and what it has of it next
pub ruleset keeping = (takes, gives_up, leaves_all, same, by_held, none-held, inl, inr)
