-- Begin and step keep a store in range, of any such store, grown from fresh or made by hand: so an area that was well formed is so after
-- every call. What an act puts is in its bounds (Acts of the crate meaning).
-- Assumes nothing.
use Rattle.std.specs.Prelude.{Option, Some, None}
use mathlib.Core.Path.{◌≡◌, refl}
use mathlib.Core.Bool.{Bool, true, false, ◌&&◌, ◌||◌}
use mathlib.Core.Logic.{◌⊎◌, inl, inr}
use Prim.Native.Nat.{ℕ, ◌+◌, ◌<◌, ◌≤◌}
use native.Mathlib.Omega.{arith}
use lib.Dec.{eqb, ltb}
use borrow.Author.Tests.{ltb-true}
use Rattle.meaning.specs.declared.Thread.{Thread}
use Rattle.meaning.specs.declared.Pass.{Pass}
use Rattle.meaning.specs.declared.Pass.TheVariants.{Leave, Plus, Minus}
use Rattle.meaning.specs.declared.Effect.{Effect}
use Rattle.meaning.specs.declared.Verdict.{Verdict}
use Rattle.meaning.specs.declared.Verdict.TheVariants.{Blocked, Fault, Go, Done}
use Rattle.meaning.specs.Limits.{most_word, within}
use Rattle.meaning.specs.Store.{Store, idle}
use Rattle.meaning.specs.Programs.{WRITE, LEVEL, last_line, act_at}
use Rattle.meaning.specs.Step.{nothing, verdict, become, put, came, apply}
use Rattle.meaning.specs.Call.{Outcome, refused, left, is_idle, stored_n, stored_c, begun, told, Entry, begin, step, calling}
use Rattle.meaning.specs.Schedule.{Words}
use Rattle.meaning.proofs.Base.Words.{and_left, and_right, within_true, either_way, upd_each}
use Rattle.meaning.proofs.Invariant.{Becomes, Puts}
use Rattle.meaning.proofs.Invariant.Keeping.{every_line, everywhere}
use Rattle.meaning.proofs.Base.Schedules.{by_begin, by_step}
use Rattle.meaning.proofs.Lines.{◌▸◌, from_at}
use Rattle.meaning.proofs.Acts.{wearing, shape, Passable, NearBounded, Bounded, LowWords, wearing-bounded, wearing-low, Onto, Lands, lands}
use Rattle.store.proofs.Sound.{Working, SoundThread, open-working, working-stands, near-bounded}
use Rattle.store.proofs.Range.{AtMost, Proper, Cell, Seat, Ranged, ranged-sound, near-words}

-- ---- a record and an effect that keep it

become-low : (c : Option ℕ) (w bound : ℕ) → Becomes c (λ w. w ≤ bound) → w ≤ bound → become c w ≤ bound
become-low None w bound x low = low
become-low (Some w') w bound x low = x

put-cell : (size : ℕ) (In : ℕ → Type 0) (c : Option (ℕ × ℕ)) (f : ℕ → ℕ) → Puts c (λ k w. (k < size) × In w) →
    ((k : ℕ) → Cell size In k (f k)) → (k : ℕ) → Cell size In k (put c f k)
put-cell size In None f x all = all
put-cell size In (Some (i, w)) f x all =
    upd_each (Cell size In) f i w (record { low = λ _. x.1; past = λ h. absurd (omega (arith, x.0)) }) (λ k _. all k)

-- of locks or owners: what the change comes to
came-cell : (size threads : ℕ) (c : Pass) (f : ℕ → ℕ) → Passable size threads f c → ((k : ℕ) → Cell size (Proper threads) k (f k)) →
    Puts (came f c) (λ k w. (k < size) × Proper threads w)
came-cell size threads Leave f x all = tt
came-cell size threads (Plus k m) f x all = (x.low, x.stays ((all k).low x.low))
came-cell size threads (Minus k m) f x all = (x.low, x.stays ((all k).low x.low))

-- the place and the word
both-puts : (size bound : ℕ) (c : Option (ℕ × ℕ)) → Puts c (λ k w. k < size) → Puts c (λ k w. w ≤ bound) →
    Puts c (λ k w. (k < size) × (w ≤ bound))
both-puts size bound None x y = tt
both-puts size bound (Some (i, w)) x y = (x, y)

apply-ranged : (s : Store) → Ranged s → (t : ℕ) → t < s.threads → (r : Thread) (e : Effect) →
    SoundThread s.numbers s.blocks r → Bounded s r e → LowWords most_word r e →
    Puts e.wear (λ m w. (m < s.blocks) × (w ≤ most_word)) → Ranged (apply s t r e)
apply-ranged s R t below r e sound B W wear =
    record {
      sizes = R.sizes;
      lock = become-low e.lock s.lock s.threads B.lock R.lock;
      owner = become-low e.owner s.owner s.threads B.owner R.owner;
      thread =
          upd_each (Seat s.threads s.numbers s.blocks) s.thread t r
          (record { sound = λ _. sound; c = W.c; past = λ h. absurd (omega arith) }) (λ v _. R.thread v);
      map = put-cell s.numbers (AtMost s.blocks) e.map s.map B.map R.map;
      locks =
          put-cell s.numbers (Proper s.threads) (came s.locks e.locks) s.locks
          (came-cell s.numbers s.threads e.locks s.locks B.locks R.locks) R.locks;
      header = put-cell s.blocks (AtMost s.numbers) e.header s.header B.header R.header;
      content =
          put-cell s.blocks (AtMost most_word) e.content s.content
          (both-puts s.blocks most_word e.content B.content W.content) R.content;
      wear = put-cell s.blocks (AtMost most_word) e.wear s.wear wear R.wear;
      own =
          put-cell s.blocks (Proper s.threads) (came s.own e.own) s.own
          (came-cell s.blocks s.threads e.own s.own B.own R.own) R.own;
    }

-- the lines to which an act goes from this line are lines of its operation
abbrev stays : ℕ → ℕ → Bool
stays op line =
    eqb op 0 || (shape (act_at op line)).ends?
    || ltb line (last_line op) && within 1 (last_line op) ((shape (act_at op line)).jump line)

stays-everywhere : every_line stays ≡ true
stays-everywhere = refl

-- ---- a call keeps it

-- what an outcome leaves is in range
abbrev pub LeavesRanged : Outcome → Type 0
LeavesRanged (refused number) = Unit {0}
LeavesRanged (left number value s) = Ranged s

-- an operation has a line
some-line : (op : ℕ) → WRITE ≤ op → op ≤ LEVEL → 1 ≤ last_line op
some-line op low high =
    from_at (λ o. 1 ≤ last_line o) LEVEL WRITE (omega arith ▸ omega arith ▸ omega arith ▸ omega arith ▸ tt) op low (omega arith)

module _ (s : Store) (R : Ranged s) (t : ℕ) (below : t < s.threads) where
  module _ (busy : is_idle (s.thread t) ≡ false) where
    abbrev r : Thread
    r = s.thread t

    abbrev Line : ℕ → Type 0
    Line l = (1 ≤ l) × (l ≤ last_line r.op)

    works : Working s.numbers s.blocks r
    works = open-working ((R.thread t).sound below) busy

    near : NearBounded s t r
    near = near-bounded s (ranged-sound s R) t below r works

    goes-sound : (r' : Thread) (e : Effect) → Onto (act_at r.op r.line) s t r r' e → Bounded s r' e →
        SoundThread s.numbers s.blocks r'
    goes-sound r' e O B =
        let a = act_at r.op r.line in
        let x = rw (busy, O.goes) at (everywhere stays stays-everywhere r (working-stands works)) in
        let next = ltb-true r.line (last_line r.op) (and_left (ltb r.line (last_line r.op)) _ x) in
        let to = within_true 1 (last_line r.op) ((shape a).jump r.line) (and_right (ltb r.line (last_line r.op)) _ x) in
        inr (record {
          operation = rw O.op works.operation;
          line = rw O.op (go next to O.line);
          n-low = B.n;
          p-low = B.p;
          q-low = B.q;
          h-low = B.h;
        })
      where
        go : {l j : ℕ} → r.line < last_line r.op → Line j → (l ≡ r.line + 1) ⊎ (l ≡ j) → Line l
        go next to (inl e) = omega arith
        go next to (inr e) = rw e to

    told-ranged : (v : Verdict) → Lands (act_at r.op r.line) s t r v → LeavesRanged (told s t v)
    told-ranged Blocked l = tt
    told-ranged Fault l = tt
    told-ranged (Go r' e) l =
        let B = l.bounded near in
        let w = (shape (act_at r.op r.line)).wears in
        apply-ranged s R t below r' e (goes-sound r' e l B) B (l.words most_word (near-words s R t))
        (rw l.wear (both-puts s.blocks most_word (wearing w s r) (wearing-bounded w s t r near)
        (wearing-low w s r most_word (near-words s R t))))
    told-ranged (Done value e) l =
        apply-ranged s R t below idle e (inl refl) (l.bounded near) (l.words most_word (near-words s R t)) (rw l.wear tt)

    step-ranged : LeavesRanged (told s t (verdict s t))
    step-ranged = told-ranged (verdict s t) (lands (act_at r.op r.line) s t r)

  begin-ranged : (op n c : ℕ) → c ≤ most_word → within WRITE LEVEL op ≡ true → (eqb op LEVEL || ltb n s.numbers) ≡ true →
      Ranged (apply s t (begun op n c) nothing)
  begin-ranged op n c low known number =
      let z = R.sizes in
      let o = within_true WRITE LEVEL op known in
      let l = some-line op o.0 o.1 in
      let n-below : stored_n op n < s.numbers =
      either_way (eqb op LEVEL) (λ x. rw x (omega arith)) (λ x. rw x (ltb-true n s.numbers (rw x at number))) in
      let c-word : stored_c op c ≤ most_word = either_way (eqb op WRITE) (λ x. rw x low) (λ x. rw x (omega arith)) in
      let w : Working s.numbers s.blocks (begun op n c) =
      record {
        operation = o.1;
        line = (omega arith, l);
        n-low = n-below;
        p-low = omega arith;
        q-low = omega arith;
        h-low = omega arith;
      } in
      apply-ranged s R t below (begun op n c) nothing (inr w) (search arith) (search arith) tt

pub calling-ranged : (s : Store) → Ranged s → (e : Entry) → Words e → LeavesRanged (calling s e)
calling-ranged s R (begin t op n c) w =
    by_begin LeavesRanged s t op n c (λ _ _. tt) (λ b _ y z. begin-ranged s R t b op n c w.3 y z)
calling-ranged s R (step t) w = by_step LeavesRanged s t (λ _ _. tt) (λ b x. step-ranged s R t b x)
