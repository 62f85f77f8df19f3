-- Who may touch what when: the invariant of the machine, `Inv`. Each store grown from fresh satisfies it (Progress).
--
-- THE TABLE says of a thread, from its operation and line alone, what it holds, owns, is about to take and knows. A range is of lines at
-- which the thread stands: that line is its next. Lay it beside 01, "The lines": a range opens after the line that takes, owns, looks
-- up or writes, and closes after the line that releases, lets go or writes again. What the rows are for:
--  * holds and owns. The lock and owner words are these flags (`Holds`): a read holds and owns as a reader, all others as the writer. So a line
--    that releases or lets go has what it needs, a line that owns is let in (whoever barred it would have a lock or the headers together with this
--    thread, where only one can), and nobody waits for itself.
--  * about to take. Why a thread waits, and which two steps can't be swapped (EitherOrder).
--  * n unmapped, n on p, n on q. What was looked up at W3, R2 and U3, or read off a header at L5, is still so when it is used.
--  * p free, q free, p headed, q headed. A content line needs a header; a header is written where none is, so that no number has two
--    blocks; what W5 and L3 found free is so until W7 and L10.
--  * h names n, h heads p, p apart from q. The word that L10 writes is n's, and L13 frees, L14 lets go, the one block and not the other.
--  * astray. Between W7 and W10, between U6 and U7 and between L10 and L13 a header of this thread names a number that isn't mapped to its block.
--  * chosen now, c of p, q has c, c of n. What levelling chose and copied, a write wrote and a read read is still there: for what an operation
--    leaves and answers, not for demand 1.
--  * unset. A register that no line has set is as begin left it, so that the lines before the last lock can be run again.
-- GUARDS says which lock or owner a thread has when it changes a word. A thread that knows something of a word has what guards that word, or a
-- reader's place beside which nobody can have it, so the word stays as it is while others step: no two lines and no two acts are ever compared.
-- MAP AND HEADERS: an entry of the map points to a block, and its header back to the number, at all times (`Agrees`); a header points to
-- a number that is mapped to its block, unless that block is astray (`mapped`). They agree where the headers have no owner.
--
-- Definitions only; the files of the room use them:
--  * Keeping: a step of one thread keeps what the others hold and know, and so the invariant.
--  * Sharing: what the invariant says of who shares what.
-- Assumes nothing.
pub mod Keeping
pub mod Sharing
use Rattle.std.specs.Prelude.{Option, Some, None}
use mathlib.Core.Path.{◌≡◌}
use mathlib.Core.Bool.{Bool, true, false, cond, ◌&&◌, ◌||◌}
use mathlib.Core.List.{List, [], ◌∷◌, ◌++◌}
use mathlib.Core.Logic.{◌⊎◌}
use Prim.Native.Nat.{ℕ, ◌≤◌, ◌<◌}
use lib.Dec.{eqb}
use lib.ListN.{get_or}
use Rattle.meaning.specs.declared.Kind.{Kind}
use Rattle.meaning.specs.declared.Kind.TheVariants.{Reader, Writer}
use Rattle.meaning.specs.declared.Thread.{Thread}
use Rattle.meaning.specs.declared.Pass.{Pass}
use Rattle.meaning.specs.declared.Pass.TheVariants.{Leave, Plus, Minus}
use Rattle.meaning.specs.declared.Effect.{Effect}
use Rattle.meaning.specs.Limits.{most_threads, within, in_limits}
use Rattle.meaning.specs.Store.{Store, idle}
use Rattle.meaning.specs.Holding.{none, free, by, held_by, mark, held, admits, proper, naming}
use Rattle.meaning.specs.Programs.{WRITE, READ, LEVEL, last_line}
use Rattle.meaning.specs.Choosing.{to_block, least_worn, from_block}
use Rattle.meaning.specs.Demands.{kept}
use Rattle.meaning.proofs.Base.Sets.{same_kind}

infix 50 ◌–◌
-- ---- the table

-- the lines from the one to the other, both included
abbrev pub ◌–◌ : ℕ → ℕ → List (ℕ × ℕ)
low – high = (low, high) ∷ []

abbrev pub never : List (ℕ × ℕ)
never = []

abbrev pub among : List (ℕ × ℕ) → ℕ → Bool
among [] line = false
among (span ∷ l) line = within span.0 span.1 line || among l line

-- a row of the table: the lines of write, read, unmap and level at which a thread that stands there has the flag up
abbrev pub row : List (ℕ × ℕ) → List (ℕ × ℕ) → List (ℕ × ℕ) → List (ℕ × ℕ) → Thread → Bool
row write read unmap level r = among (get_or (never ∷ write ∷ read ∷ unmap ∷ level ∷ []) r.op never) r.line

-- -- what it holds and owns: lines of write, of read, of unmap, of level

abbrev pub holds_h : Thread → Bool
holds_h = row (2 – 12) never (2 – 11) (2 – 18)

-- the lock of the number in register n
abbrev pub holds_n : Thread → Bool
holds_n = row (3 – 16) (2 – 6) (3 – 10) (7 – 16)

abbrev pub owns_headers : Thread → Bool
owns_headers = row (5 – 11) never (5 – 9) (3 – 17)

-- the block in register p
abbrev pub owns_p : Thread → Bool
owns_p = row ((7 – 9) ++ (14 – 15)) (4 – 5) (6 – 8) (8 – 15)

abbrev pub owns_q : Thread → Bool
owns_q = row never never never (10 – 14)

-- -- what it is about to take

abbrev pub takes_h : Thread → Bool
takes_h = row (1 – 1) never (1 – 1) (1 – 1)

abbrev pub takes_n : Thread → Bool
takes_n = row (2 – 2) (1 – 1) (2 – 2) (6 – 6)

-- -- what it knows of the map

abbrev pub n-unmapped : Thread → Bool
n-unmapped = row (4 – 10) never (7 – 10) never

abbrev pub n_on_p : Thread → Bool
n_on_p = row (11 – 16) (3 – 5) (4 – 6) (6 – 12)

abbrev pub n_on_q : Thread → Bool
n_on_q = row never never never (13 – 16)

-- -- what it knows of headers

abbrev pub p-free : Thread → Bool
p-free = row (6 – 7) never (8 – 8) (14 – 15)

abbrev pub q-free : Thread → Bool
q-free = row never never never (4 – 10)

-- its header names n
abbrev pub p-headed : Thread → Bool
p-headed = row (8 – 10) never (7 – 7) (6 – 13)

abbrev pub q-headed : Thread → Bool
q-headed = row never never never (11 – 13)

abbrev pub h_names_n : Thread → Bool
h_names_n = row never never never (6 – 16)

abbrev pub h_heads_p : Thread → Bool
h_heads_p = row never never never (5 – 5)

abbrev pub p_apart_q : Thread → Bool
p_apart_q = row never never never (11 – 16)

-- its header and the map disagree
abbrev pub p-astray : Thread → Bool
p-astray = row (8 – 10) never (7 – 7) (13 – 13)

abbrev pub q-astray : Thread → Bool
q-astray = row never never never (11 – 12)

-- -- what it knows of wear and contents

-- choosing would give p and q now
abbrev pub chosen_now : Thread → Bool
chosen_now = row never never never (4 – 6)

-- c is the content of p
abbrev pub c_of_p : Thread → Bool
c_of_p = row never never never (9 – 12)

-- the content of q is c
abbrev pub q_has_c : Thread → Bool
q_has_c = row never never never (12 – 12)

-- the content of n's block is c
abbrev pub c_of_n : Thread → Bool
c_of_n = row (15 – 16) (5 – 6) never never

-- -- registers that are as begin left them: 0

abbrev pub n_unset : Thread → Bool
n_unset = row never never never (1 – 5)

abbrev pub c_unset : Thread → Bool
c_unset = row never (1 – 4) (1 – 11) (1 – 8)

abbrev pub p_unset : Thread → Bool
p_unset = row (1 – 5) (1 – 2) (1 – 3) (1 – 3)

abbrev pub q_unset : Thread → Bool
q_unset = row (1 – 16) (1 – 6) (1 – 11) (1 – 3)

abbrev pub h_unset : Thread → Bool
h_unset = row (1 – 16) (1 – 6) (1 – 11) (1 – 4)

-- ---- what the table's rows say

-- the fact, where the flag is up
abbrev pub If : Bool → Type 0 → Type 0
If true A = A
If false A = Unit {0}

-- as what it has its number's lock and its blocks
abbrev pub kind : Thread → Kind
kind r = cond (eqb r.op READ) Reader Writer

-- the lock of number k, the block m, the block m whose header and the map disagree: as what, and through which register it may be
abbrev pub takes_lock : Kind → Thread → ℕ → Bool
takes_lock κ r k = takes_n r && same_kind κ (kind r) && eqb r.n k

abbrev pub holds_lock : Kind → Thread → ℕ → Bool
holds_lock κ r k = holds_n r && same_kind κ (kind r) && eqb r.n k

abbrev pub owns_block : Kind → Thread → ℕ → Bool
owns_block κ r m = owns_q r && same_kind κ (kind r) && eqb r.q m || owns_p r && same_kind κ (kind r) && eqb r.p m

abbrev pub leads_astray : Thread → ℕ → Bool
leads_astray r m = q-astray r && eqb r.q m || p-astray r && eqb r.p m

-- the flags say what stands in the lock and owner words, for each thread v with its record r
pub record Holds (s : Store) (v : ℕ) (r : Thread) : Type 0 where
  pub lock : held_by v s.lock ≡ holds_h r
  pub owner : held_by v s.owner ≡ owns_headers r
  pub locks : (κ : Kind) (k : ℕ) → held κ v (s.locks k) ≡ holds_lock κ r k
  pub own : (κ : Kind) (m : ℕ) → held κ v (s.own m) ≡ owns_block κ r m

-- choosing would give p and q now
abbrev pub Chosen : Store → Thread → Type 0
Chosen s r =
    record {
      to : to_block s.header s.wear s.blocks ≡ Some r.q;
      from : from_block s.wear s.distance r.q (least_worn s.header s.wear s.blocks) ≡ r.p;
    }

pub record Facts (s : Store) (r : Thread) : Type 0 where
  -- in range, at each line
  pub n-below : r.n < s.numbers
  pub p-below : r.p < s.blocks
  pub q-below : r.q < s.blocks
  pub h-below : r.h ≤ s.numbers
  -- the map: W10's, U6's and L12's new entry replaces a known one
  pub unmapped : If (n-unmapped r) (s.map r.n ≡ none)
  pub on_p : If (n_on_p r) (s.map r.n ≡ naming r.p)
  pub on_q : If (n_on_q r) (s.map r.n ≡ naming r.q)
  -- headers: a content line needs one, and a header is written where none is
  pub free-p : If (p-free r) (s.header r.p ≡ none)
  pub free-q : If (q-free r) (s.header r.q ≡ none)
  pub headed-p : If (p-headed r) (s.header r.p ≡ naming r.n)
  pub headed-q : If (q-headed r) (s.header r.q ≡ naming r.n)
  pub names-n : If (h_names_n r) (r.h ≡ naming r.n)
  pub heads-p : If (h_heads_p r) (r.h ≡ s.header r.p)
  pub apart : If (p_apart_q r) (r.p ≡ r.q → ⊥)
  -- wear and contents: what is chosen, copied and read is still there when it is used
  pub chosen : If (chosen_now r) (Chosen s r)
  pub copied : If (c_of_p r) (r.c ≡ s.content r.p)
  pub pasted : If (q_has_c r) (s.content r.q ≡ r.c)
  pub seen : If (c_of_n r) (r.c ≡ kept s r.n)
  -- registers not yet set
  pub unset_n : If (n_unset r) (r.n ≡ 0)
  pub unset_c : If (c_unset r) (r.c ≡ 0)
  pub unset_p : If (p_unset r) (r.p ≡ 0)
  pub unset_q : If (q_unset r) (r.q ≡ 0)
  pub unset_h : If (h_unset r) (r.h ≡ 0)

-- a record is idle, or stands at a line of its operation
abbrev pub is_on_line : Thread → Bool
is_on_line r = within WRITE LEVEL r.op && within 1 (last_line r.op) r.line

abbrev pub Stands : Thread → Type 0
Stands r = (r ≡ idle) ⊎ (is_on_line r ≡ true)

-- ---- which lock or owner guards which words

abbrev pub Becomes : Option ℕ → (ℕ → Type 0) → Type 0
Becomes None guard = Unit {0}
Becomes (Some w) guard = guard w

abbrev pub Puts : Option (ℕ × ℕ) → (ℕ → ℕ → Type 0) → Type 0
Puts None guard = Unit {0}
Puts (Some (i, w)) guard = guard i w

-- H or the headers' owner: t takes it where it is free, or gives it up where it is t's; H is taken only by who is about to
pub data Passes (about : Type 0) (t w w' : ℕ) : Type 0 where
  takes : free w ≡ true → about → w' ≡ by t → Passes about t w w'
  gives_up : held_by t w ≡ true → w' ≡ none → Passes about t w w'

-- locks f of numbers, or owners f of blocks: t joins where the word lets it in, or quits where it has its place; a lock is taken only by who is
-- about to
pub data Joins (about : Kind → ℕ → Type 0) (t : ℕ) (f : ℕ → ℕ) : Pass → Type 0 where
  leaves_all : Joins about t f Leave
  joins : (κ : Kind) (i : ℕ) → t < most_threads → admits κ t (f i) ≡ true → about κ i → Joins about t f (Plus i (mark κ t))
  quits : (κ : Kind) (i : ℕ) → held κ t (f i) ≡ true → Joins about t f (Minus i (mark κ t))

-- a map entry: the headers' owner with the writing of the number's lock
pub record GuardsMap (s : Store) (t k : ℕ) : Type 0 where
  pub owner : held_by t s.owner ≡ true
  pub locks : held Writer t (s.locks k) ≡ true

-- a header: the headers' owner with the writing of the block
pub record GuardsHeader (s : Store) (t m : ℕ) : Type 0 where
  pub owner : held_by t s.owner ≡ true
  pub own : held Writer t (s.own m) ≡ true

-- a content: the writing of the block, with that of the lock of whatever number is mapped to the block or named by its header
pub record GuardsContent (s : Store) (t m : ℕ) : Type 0 where
  pub own : held Writer t (s.own m) ≡ true
  pub locks : (k : ℕ) → s.map k ≡ naming m → held Writer t (s.locks k) ≡ true
  pub heads : (k : ℕ) → s.header m ≡ naming k → held Writer t (s.locks k) ≡ true

-- a wear: H alone
pub record GuardsWear (s : Store) (t m : ℕ) : Type 0 where
  pub lock : held_by t s.lock ≡ true

-- thread t with record r has in store s what guards each word that the effect changes
pub record Guards (s : Store) (t : ℕ) (r : Thread) (e : Effect) : Type 0 where
  pub lock : Becomes e.lock (Passes (takes_h r ≡ true) t s.lock)
  pub owner : Becomes e.owner (Passes Unit t s.owner)
  pub locks : Joins (λ κ k. takes_lock κ r k ≡ true) t s.locks e.locks
  pub own : Joins (λ κ m. Unit) t s.own e.own
  pub map : Puts e.map (λ k w. GuardsMap s t k)
  pub header : Puts e.header (λ m w. GuardsHeader s t m)
  pub content : Puts e.content (λ m w. GuardsContent s t m)
  pub wear : Puts e.wear (λ m w. GuardsWear s t m)

-- ---- the map and the headers

-- always: the map points to a block whose header points back; so no two numbers share a block
pub record Agrees (map header : ℕ → ℕ) (numbers blocks : ℕ) : Type 0 where
  pub headed : (k m : ℕ) → map k ≡ naming m → header m ≡ naming k
  pub map_below : (k : ℕ) → map k ≤ blocks
  pub header-below : (m : ℕ) → header m ≤ numbers

-- a header that points from block m to number k points back: k is mapped to m, or the block is astray
abbrev pub Back : (ℕ → ℕ) → ℕ → ℕ → Type 0 → Type 0
Back map m k astray = (map k ≡ naming m) ⊎ astray

-- some thread leads block m astray
pub record Astray (s : Store) (m : ℕ) : Type 0 where
  pub who : ℕ
  pub leads : leads_astray (s.thread who) m ≡ true

-- ---- the invariant

pub record Inv (s : Store) : Type 0 where
  pub limits : in_limits s.threads s.numbers s.blocks s.distance ≡ true
  pub stands : (v : ℕ) → Stands (s.thread v)
  pub past : (v : ℕ) → s.threads ≤ v → s.thread v ≡ idle
  pub holds : (v : ℕ) → Holds s v (s.thread v)
  -- a number's lock and a block's owner have readers or a writer, and all of them are threads
  pub locks : (k : ℕ) → proper s.threads (s.locks k) ≡ true
  pub own : (m : ℕ) → proper s.threads (s.own m) ≡ true
  pub facts : (v : ℕ) → Facts s (s.thread v)
  pub agrees : Agrees s.map s.header s.numbers s.blocks
  -- a header points to a number that is mapped to its block, unless the block is astray
  pub mapped : (m k : ℕ) → s.header m ≡ naming k → Back s.map m k (Astray s m)
