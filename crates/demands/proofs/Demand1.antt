-- DEMAND 1, over areas of bytes. Assumes nothing.
--  * refusals: each refusal number comes back exactly where the table of 01, "Numbers given back", says; for every area and argument.
--  * refusal-keeps: where the number is 2 or more, and so where it is BLOCKED, each byte stays; for every area and argument.
--  * unfinished-value: format, begin and a step that finishes nothing give the value 0; for every area and argument.
--  * finishing_values: what a finishing step gives: a write and an unmap 0, a read register c, a levelling 1 where h isn't free and else 0;
--    for every area.
--  * wear-counted, wear_never_falls: a block's wear goes up by one exactly where a step frees it, or at W3 finds n mapped to it, until the largest word, and
--    no begin or step lowers it; of every area of bytes, grown or made by hand.
--  * formed-kept: an area that was well formed, grown from fresh or made by hand, is so after every begin and step.
--  * sizes-kept, grown-sizes: no begin or step changes T, N, P or D.
--  * grown_well_formed, grown_no_shape: an area grown from fresh is well formed, so no call on it answers SHAPE.
--  * grown_no_fault: no step of an area grown from fresh answers FAULT.
--  * grown-progress: where some thread of an area grown from fresh has open work, some thread that has can step.
-- What FAULT, BLOCKED and open threads look like is computed in Reached.
use mathlib.Core.Path.{◌≡◌, refl, sym, ◌∙◌, subst}
use mathlib.Core.Bool.{Bool, true, false, ◌&&◌}
use mathlib.Core.List.{List}
use Prim.Native.Nat.{ℕ, ◌≤◌}
use native.Mathlib.Omega.{arith}
use lib.Dec.{eqb, ltb}
use lib.ListN.{length}
use borrow.Author.Tests.{ltb-true, leb-true, not-true}
use Rattle.meaning.specs.Numbers.{WENT, FINISHED, BLOCKED, SHAPE, THREAD, BUSY, LOGICAL, OPERATION, FAULT, LIMITS}
use Rattle.meaning.specs.Limits.{most_word, in_limits}
use Rattle.meaning.specs.Store.{Store}
use Rattle.meaning.specs.Call.{Outcome, refused, left, reply, check, Entry, begin, step, stepping, calling, call_store}
use Rattle.meaning.specs.Counting.{erases, WearCounts, finishes_with}
use Rattle.meaning.specs.Schedule.{Words, next_act}
use Rattle.meaning.proofs.Base.Words.{either_way, clash}
use Rattle.meaning.proofs.Acts.{unfaulted}
use Rattle.meaning.proofs.AnyStore.{wear-counts, finishing-value}
use Rattle.meaning.proofs.Progress.{no_fault, progress}
use Rattle.store.specs.Layout.{size}
use Rattle.store.specs.Area.{Bytes, encode, decode, well_formed}
use Rattle.store.specs.Calls.{format_area, call_area, step_area, Grown}
use Rattle.store.proofs.Sound.{formed-stands}
use Rattle.demands.specs.RefusalTables.{known, rests, operable, numbered, Refusals, UnfinishedValue, Open, CanStep, SameSizes}
use Rattle.demands.proofs.Refusals.{refusal_tables, calling_each, call_refusing}
use Rattle.demands.proofs.Bridge.{after_call, grown-good, grown-inv}

-- ---- what a call answers and leaves, of every area

pub refusals : (a : List ℕ) → Refusals a
refusals = refusal_tables

module _ (a : List ℕ) where
  -- format and call: BLOCKED and more leave every byte
  pub refusal-keeps :
      ((e : Entry) → BLOCKED ≤ (call_area a e).number → (call_area a e).after ≡ a)
      × ((t n p d : ℕ) → BLOCKED ≤ (format_area a t n p d).number → (format_area a t n p d).after ≡ a)
  refusal-keeps = (
    λ e. (call_refusing a e).kept,
    λ t n p d.
        either_way (in_limits t n p d)
        (λ l. rw l (either_way (eqb (length a) (size t n p)) (λ f. rw f (λ x. absurd (omega arith))) (λ f. rw f (λ x. refl))))
        (λ l. rw l (λ x. refl)),
  )

  check-value : (b : Bool) (number : ℕ) (o : Outcome) → (reply encode a o).value ≡ 0 → (reply encode a (check b number o)).value ≡ 0
  check-value true number o x = x
  check-value false number o x = refl

  pub unfinished-value : UnfinishedValue a
  unfinished-value =
      record {
        format =
            λ t n p d. check-value (in_limits t n p d) LIMITS _ (check-value (eqb (length a) (size t n p)) SHAPE (left WENT 0 _) refl);
        begin =
            λ t op n c. check-value (well_formed a) SHAPE _ (check-value (known a t) THREAD _ (check-value (rests a t) BUSY _
            (check-value (operable op) OPERATION _ (check-value (numbered a op n) LOGICAL (left WENT 0 _) refl))));
        step = λ t. (call_refusing a (step t)).unfinished;
      }

  -- the number and the value are those of the call on the store
  told-alike : (o : Outcome) →
      ((reply encode a o).number ≡ (reply (λ s. s) (decode a) o).number) × ((reply encode a o).value ≡ (reply (λ s. s) (decode a) o).value)
  told-alike (refused number) = (refl, refl)
  told-alike (left number value s) = (refl, refl)

  pub number-decoded : well_formed a ≡ true → (e : Entry) → (call_area a e).number ≡ (call_store (decode a) e).number
  number-decoded f e = rw f (told-alike (calling (decode a) e)).0

  pub finishing_values : (t : ℕ) → (step_area a t).number ≡ FINISHED → (step_area a t).value ≡ finishes_with ((decode a).thread t)
  finishing_values t =
      let z = told-alike (stepping (decode a) t) in
      either_way (well_formed a) (λ f. rw f (λ x. z.1 ∙ finishing-value (decode a) t (formed-stands a f t) (sym z.0 ∙ x)))
      (λ f. rw f (λ x. absurd (omega arith)))

-- ---- what a call keeps, of any area of bytes

pub formed-kept : (a : List ℕ) → Bytes a → well_formed a ≡ true → (e : Entry) → Words e →
    (well_formed (call_area a e).after ≡ true) × Bytes (call_area a e).after
formed-kept a h f e w =
    let g = (after_call a (record { bytes = h; formed = f }) e w).good in
    (g.formed, g.bytes)

same_sizes : (s : Store) → SameSizes s s
same_sizes s = record { threads = refl; numbers = refl; blocks = refl; distance = refl }

pub sizes-kept : (a : List ℕ) → Bytes a → (e : Entry) → Words e → SameSizes (decode (call_area a e).after) (decode a)
sizes-kept a h e w =
    let s = decode a in
    either_way (well_formed a)
    (λ f. subst (λ (s' : Store). SameSizes s' s) (sym (after_call a (record { bytes = h; formed = f }) e w).decoded)
    (calling_each s (λ o. SameSizes (reply (λ s'. s') s o).after s) (λ _. same_sizes s)
    (λ _ _ _ t r f. record { threads = refl; numbers = refl; blocks = refl; distance = refl }) e))
    (λ f. rw f (same_sizes s))

-- wear, of every block: up by one where the call is a step that went at U7 or L13 with the block in p, or at W3 with the block that n is mapped to,
-- until the largest, and else kept
pub wear-counted : (a : List ℕ) → Bytes a → (e : Entry) → Words e →
    WearCounts (decode a) (decode (call_area a e).after) e (call_area a e).number
wear-counted a h e w = either_way (well_formed a) formed (λ f. rw f (malformed e))
  where
    formed : well_formed a ≡ true → WearCounts (decode a) (decode (call_area a e).after) e (call_area a e).number
    formed f =
        rw (number-decoded a f e)
        (subst (λ (s : Store). WearCounts (decode a) s e (call_store (decode a) e).number)
        (sym (after_call a (record { bytes = h; formed = f }) e w).decoded) (wear-counts (decode a) (formed-stands a f) e))

    malformed : (e : Entry) → WearCounts (decode a) (decode a) e SHAPE
    malformed (begin t op n c) m = refl
    malformed (step t) m = refl

-- so no call lowers it
pub wear_never_falls : (a : List ℕ) → Bytes a → (e : Entry) → Words e → (m : ℕ) → (decode a).wear m ≤ (decode (call_area a e).after).wear m
wear_never_falls a h e w m =
    rw (wear-counted a h e w m)
    (either_way (erases (decode a) e (call_area a e).number m && ltb ((decode a).wear m) most_word) (λ x. rw x (omega arith)) (λ x. rw x (omega arith)))

-- ---- areas grown from fresh

pub grown_well_formed : (a : List ℕ) → Grown a → well_formed a ≡ true
grown_well_formed a g = (grown-good a g).formed

pub grown-sizes : (a : List ℕ) → Grown a → (e : Entry) → Words e → SameSizes (decode (call_area a e).after) (decode a)
grown-sizes a g = sizes-kept a (grown-good a g).bytes

pub grown_no_shape : (a : List ℕ) → Grown a → (e : Entry) → (call_area a e).number ≡ SHAPE → ⊥
grown_no_shape a g (begin t op n c) x = clash (grown_well_formed a g) (((refusals a).begin t op n c).shape.0 x)
grown_no_shape a g (step t) x = clash (grown_well_formed a g) (((refusals a).step t).shape.0 x)

pub grown_no_fault : (a : List ℕ) → Grown a → (t : ℕ) → (step_area a t).number ≡ FAULT → ⊥
grown_no_fault a g t x =
    let z = ((refusals a).step t).fault.0 x in
    let r = (decode a).thread t in
    clash z.1.1.1
    (unfaulted (next_act r) (decode a) t r
    (no_fault (decode a) (grown-inv a g) t (ltb-true t _ z.1.0) (not-true _ z.1.1.0)))

pub grown-progress : (a : List ℕ) → Grown a → (t : ℕ) → Open a t → (u : ℕ) × Open a u × CanStep a u
grown-progress a g t o =
    let z = progress (decode a) (grown-inv a g) t o.below o.busy in
    let e = number-decoded a (grown_well_formed a g) (step z.0) in
    let l = leb-true (call_store (decode a) (step z.0)).number FINISHED z.3 in
    (z.0, record { below = z.1; busy = z.2 }, omega arith)
