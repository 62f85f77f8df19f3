-- Of any store, grown from fresh or made by hand, whose threads stand at lines of their operations: what a call does to wear, and what an
-- operation finishes with (specs/Counting).
-- Assumes nothing.
use mathlib.Core.Path.{◌≡◌, refl, ◌∙◌, ap₂}
use mathlib.Core.Bool.{Bool, true, false, not, cond, ◌&&◌, ◌||◌, or-false}
use Prim.Native.Nat.{ℕ, suc, ◌+◌}
use native.Mathlib.Omega.{arith}
use lib.Dec.{eqb, ltb, eqb-suc-suc}
use borrow.Author.Tests.{ne_eqb, eqb-true, not-true}
use Rattle.meaning.specs.declared.Answer.{Answer}
use Rattle.meaning.specs.declared.Answer.TheVariants.{Zero, C, Moved}
use Rattle.meaning.specs.declared.Thread.{Thread}
use Rattle.meaning.specs.declared.Verdict.{Verdict}
use Rattle.meaning.specs.declared.Verdict.TheVariants.{Blocked, Fault, Go, Done}
use Rattle.meaning.specs.Numbers.{WENT, FINISHED}
use Rattle.meaning.specs.Table.{upd}
use Rattle.meaning.specs.Limits.{most_word}
use Rattle.meaning.specs.Store.{Store}
use Rattle.meaning.specs.Holding.{free, naming, named}
use Rattle.meaning.specs.Programs.{READ, LEVEL, act_at}
use Rattle.meaning.specs.Step.{worn, answer, verdict, put}
use Rattle.meaning.specs.Call.{Outcome, reply, told, Entry, begin, step, calling, call_store}
use Rattle.meaning.specs.Counting.{freeing, rewriting, erasing, WearCounts, finishes_with}
use Rattle.meaning.proofs.Base.Words.{either_way, clash, and_left, and_right, free-none, naming_not_none, naming-named}
use Rattle.meaning.proofs.Base.Schedules.{by_begin, by_step, refused-not}
use Rattle.meaning.proofs.Invariant.{Stands}
use Rattle.meaning.proofs.Invariant.Keeping.{standing, every_line, everywhere}
use Rattle.meaning.proofs.Acts.{Wears, no_block, block-p, block_of_n, wearing, shape, Lands, lands}

-- ---- wear

-- an act wears p exactly at the lines that free it, and the block that n is mapped to exactly at the line that looks it up for a write
abbrev wears_right : Wears → Thread → Bool
wears_right no_block r = not (freeing r) && not (rewriting r)
wears_right block-p r = freeing r && not (rewriting r)
wears_right block_of_n r = not (freeing r) && rewriting r

wears-everywhere : every_line (λ op line. wears_right (shape (act_at op line)).wears (standing op line)) ≡ true
wears-everywhere = refl

worn_at : (wear : ℕ → ℕ) (p m : ℕ) →
    upd wear p (worn (wear p)) m ≡ cond (eqb p m && ltb (wear m) most_word) (wear m + 1) (wear m)
worn_at wear p m = either_way (eqb p m) (λ e. rw (e, ← eqb-true p m e)) (λ e. rw e)

-- a word of the map names the one block, or none
names_one : (w m : ℕ) → free w ≡ false → eqb w (naming m) ≡ eqb (named w) m
names_one w m f =
    let next : w ≡ suc (named w) = omega (arith, naming-named w f) in
    let next' : naming m ≡ suc m = omega arith in
    ap₂ eqb next next' ∙ eqb-suc-suc (named w) m

names-none : (w m : ℕ) → free w ≡ true → eqb w (naming m) ≡ false
names-none w m f = ne_eqb w (naming m) (λ e. naming_not_none m w e (free-none w f))

-- what an outcome of a call on s leaves of wear
abbrev Counted : Store → Entry → Outcome → Type 0
Counted s e o = WearCounts s (reply (λ s'. s') s o).after e (reply (λ s'. s') s o).number

-- what wearing does, where it is right
wearing-counts : (w : Wears) (s : Store) (r : Thread) → wears_right w (standing r.op r.line) ≡ true → (m : ℕ) →
    put (wearing w s r) s.wear m ≡ cond (erasing s r m && ltb (s.wear m) most_word) (s.wear m + 1) (s.wear m)
wearing-counts no_block s r x m =
    rw (not-true (freeing r) (and_left (not (freeing r)) _ x), not-true (rewriting r) (and_right (not (freeing r)) _ x))
wearing-counts block-p s r x m =
    rw (and_left (freeing r) _ x, not-true (rewriting r) (and_right (freeing r) _ x), or-false (eqb r.p m))
    (worn_at s.wear r.p m)
wearing-counts block_of_n s r x m =
    rw (not-true (freeing r) (and_left (not (freeing r)) _ x), and_right (not (freeing r)) _ x)
    (either_way (free (s.map r.n)) (λ f. rw (f, names-none (s.map r.n) m f))
    (λ f. rw (f, names_one (s.map r.n) m f) (worn_at s.wear (named (s.map r.n)) m)))

module _ (s : Store) (t : ℕ) (stands : Stands (s.thread t)) where
  told-counts : (v : Verdict) → Lands (act_at (s.thread t).op (s.thread t).line) s t (s.thread t) v → Counted s (step t) (told s t v)
  told-counts Blocked l m = refl
  told-counts Fault l m = refl
  told-counts (Go r' e) l m =
      rw l.wear
      (wearing-counts (shape (act_at (s.thread t).op (s.thread t).line)).wears s (s.thread t)
      (everywhere (λ op line. wears_right (shape (act_at op line)).wears (standing op line)) wears-everywhere (s.thread t) stands) m)
  told-counts (Done value e) l m = rw l.wear

pub wear-counts : (s : Store) → ((t : ℕ) → Stands (s.thread t)) → (e : Entry) →
    WearCounts s (call_store s e).after e (call_store s e).number
wear-counts s stands (begin t op n c) = by_begin (Counted s (begin t op n c)) s t op n c (λ _ _ m. refl) (λ _ _ _ _ m. refl)
wear-counts s stands (step t) =
    by_step (Counted s (step t)) s t (λ number x m. rw (refused-not number x WENT refl))
    (λ _ _. told-counts s t (stands t) (verdict s t) (lands (act_at (s.thread t).op (s.thread t).line) s t (s.thread t)))

-- ---- what an operation finishes with

-- the answer of operation op
abbrev answer_of : Answer → ℕ → Bool
answer_of Zero op = not (eqb op READ) && not (eqb op LEVEL)
answer_of C op = eqb op READ
answer_of Moved op = eqb op LEVEL

answers_right : every_line (λ op line. not (shape (act_at op line)).ends? || answer_of (shape (act_at op line)).answers op) ≡ true
answers_right = refl

answer_is : (a : Answer) (r : Thread) → answer_of a r.op ≡ true → answer a r ≡ finishes_with r
answer_is Zero r x =
    rw (
      not-true (eqb r.op READ) (and_left (not (eqb r.op READ)) _ x),
      not-true (eqb r.op LEVEL) (and_right (not (eqb r.op READ)) _ x),
    )
answer_is C r x = rw x
answer_is Moved r x = rw (eqb-true r.op LEVEL x)

module _ (s : Store) (t : ℕ) (stands : Stands (s.thread t)) where
  abbrev at_end : Outcome → Type 0
  at_end o = (reply (λ s'. s') s o).number ≡ FINISHED → (reply (λ s'. s') s o).value ≡ finishes_with (s.thread t)

  told-value : (v : Verdict) → Lands (act_at (s.thread t).op (s.thread t).line) s t (s.thread t) v → at_end (told s t v)
  told-value Blocked l x = absurd (omega arith)
  told-value Fault l x = absurd (omega arith)
  told-value (Go r' e) l x = absurd (omega arith)
  told-value (Done value e) l x =
      let right =
      everywhere (λ op line. not (shape (act_at op line)).ends? || answer_of (shape (act_at op line)).answers op) answers_right
      (s.thread t) stands in
      l.answers ∙ answer_is (shape (act_at (s.thread t).op (s.thread t).line)).answers (s.thread t) (rw l.ends at right)

  pub finishing-value : at_end (calling s (step t))
  finishing-value =
      by_step at_end s t (λ number x y. clash refl (rw y at x))
      (λ _ _. told-value (verdict s t) (lands (act_at (s.thread t).op (s.thread t).line) s t (s.thread t)))
