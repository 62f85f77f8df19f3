-- The entries that a verdict's effect puts to are within their tables, and what becomes of a lock or an owner is a word: read off what is proved
-- of every act. And that a register picks a block below a bound on both. Assumes nothing.
use Rattle.std.specs.Prelude.{Option, Some, None}
use mathlib.Core.Path.{◌≡◌, ◌∙◌}
use Prim.Native.Nat.{ℕ, ◌<◌, ◌≤◌}
use Rattle.meaning.specs.declared.Act.{Act}
use Rattle.meaning.specs.declared.Thread.{Thread}
use Rattle.meaning.specs.declared.Effect.{Effect}
use Rattle.meaning.specs.declared.Reg.{Reg}
use Rattle.meaning.specs.declared.Reg.TheVariants.{P, Q}
use Rattle.meaning.specs.declared.Pass.{Pass}
use Rattle.meaning.specs.declared.Pass.TheVariants.{Leave, Plus, Minus}
use Rattle.meaning.specs.declared.Verdict.{Verdict}
use Rattle.meaning.specs.declared.Verdict.TheVariants.{Blocked, Fault, Go, Done}
use Rattle.meaning.specs.Store.{Store, idle}
use Rattle.meaning.specs.Step.{block, perform}
use Rattle.meaning.proofs.Invariant.{Puts}
use Rattle.meaning.proofs.Acts.{wearing, shape, Passable, NearBounded, Bounded, wearing-bounded, Lands, lands}
use Rattle.store.specs.Live.{EntryBelow, PassBelow}
use Rattle.machine.specs.Settling.{EffectInside}

abbrev pub VerdictInside : Store → ℕ → ℕ → Verdict → Type 0
VerdictInside s n p Blocked = Unit {0}
VerdictInside s n p Fault = Unit {0}
VerdictInside s n p (Go r e) = EffectInside s n p e
VerdictInside s n p (Done v e) = EffectInside s n p e

entry-below : (size bound : ℕ) (c : Option (ℕ × ℕ)) → Puts c (λ k w. (k < size) × (w ≤ bound)) → EntryBelow size c
entry-below size bound None x = tt
entry-below size bound (Some (i, w)) x = x.0

place-below : (size : ℕ) (c : Option (ℕ × ℕ)) → Puts c (λ k w. k < size) → EntryBelow size c
place-below size None x = tt
place-below size (Some (i, w)) x = x

pass_below : (size threads : ℕ) (f : ℕ → ℕ) (c : Pass) → Passable size threads f c → PassBelow size f c
pass_below size threads f Leave x = tt
pass_below size threads f (Plus k m) x = (x.low, x.fits)
pass_below size threads f (Minus k m) x = (x.low, x.fits)

effect-inside : (s : Store) (r : Thread) (e : Effect) → Bounded s r e → EntryBelow s.blocks e.wear →
    EffectInside s s.numbers s.blocks e
effect-inside s r e B wear =
    record {
      map = entry-below s.numbers s.blocks e.map B.map;
      locks = pass_below s.numbers s.threads s.locks e.locks B.locks;
      header = entry-below s.blocks s.numbers e.header B.header;
      content = place-below s.blocks e.content B.content;
      wear = wear;
      own = pass_below s.blocks s.threads s.own e.own B.own;
    }

module _ (s : Store) (t : ℕ) (r : Thread) (N : NearBounded s t r) where
  verdict-inside : (a : Act) (v : Verdict) → Lands a s t r v → VerdictInside s s.numbers s.blocks v
  verdict-inside a Blocked l = tt
  verdict-inside a Fault l = tt
  verdict-inside a (Go r' e) l =
      effect-inside s r' e (l.bounded N)
      (rw l.wear (place-below s.blocks (wearing (shape a).wears s r) (wearing-bounded (shape a).wears s t r N)))
  verdict-inside a (Done value e) l = effect-inside s idle e (l.bounded N) (rw l.wear tt)

  pub perform-inside : (a : Act) → VerdictInside s s.numbers s.blocks (perform a s t r)
  perform-inside a = verdict-inside a (perform a s t r) (lands a s t r)

-- ---- the block that a register picks, and an act of the same store

pub block-below : (b : Reg) (r : Thread) (n : ℕ) → r.p < n → r.q < n → block b r < n
block-below P r n p q = p
block-below Q r n p q = q

-- what an act would do, of the same act and the same store
pub perform_same :
    {act act' : Act} {s s' : Store} (t : ℕ) (r : Thread) {v : Verdict} → v ≡ perform act s t r → act ≡ act' → s ≡ s' → v ≡ perform act' s' t r
perform_same t r e p q = e ∙ (λ i. perform (p i) (q i) t r)
