-- The lines of unmap, one after the other: each has what it needs, and shows what the table says of the thread at its next line.
-- Assumes nothing.
use mathlib.Core.Path.{◌≡◌, refl}
use mathlib.Core.Bool.{false}
use Prim.Native.Nat.{ℕ}
use Rattle.meaning.specs.declared.Kind.TheVariants.{Writer}
use Rattle.meaning.specs.Store.{Store}
use Rattle.meaning.specs.Holding.{none, free, admits}
use Rattle.meaning.specs.Programs.{UNMAP}
use Rattle.meaning.proofs.Base.Words.{either_way, free-none, naming_not_none, upd_same}
use Rattle.meaning.proofs.Manager.View.{status}
use Rattle.meaning.proofs.Invariant.Sharing.{owner-free, mapped_block_admits, numbers-blocks}
use Rattle.meaning.proofs.Lines.{for_h, for_n, Line, From, ◌▸◌, n_held, p-held, mapped_freed, freed_agrees, unmapped-agrees, unmapped-mapped, looked-up, facts-idle, comes, parts, entry-taken, entry-given, keeping}

module _ (s : Store) (t : ℕ) where
  U1 : Line s t UNMAP 1
  U1 n c p q h H =
      either_way (free s.lock) (λ f. rw f (search (keeping))) (λ f. rw f (for_h refl refl f))

  U2 : Line s t UNMAP 2
  U2 n c p q h H =
      either_way (admits Writer t (s.locks n))
      (λ f. rw f (search (keeping, comes Writer, entry-taken Writer t s.locks n, H.holds.locks))) (λ f. rw f (for_n refl f))

  U3 : Line s t UNMAP 3
  U3 n c p q h H =
      either_way (free (s.map n))
      (λ f. rw f (let u = free-none (s.map n) f in search (keeping, H.holds.locks)))
      (λ f. rw f (let u = looked-up s H.inv n f in search (keeping, H.holds.locks)))

  U4 : Line s t UNMAP 4
  U4 n c p q h H =
      let f = owner-free s H.inv t H.holds.lock H.holds.owner in
      rw f (search (keeping, H.holds.locks))

  U5 : Line s t UNMAP 5
  U5 n c p q h H =
      let f = mapped_block_admits s H.inv Writer t n p H.facts.on_p (n_held H refl) (λ κ. H.holds.own κ p) in
      rw f (search (keeping, comes Writer, entry-taken Writer t s.own p, H.holds.locks, H.holds.own))

  U6 : Line s t UNMAP 6
  U6 n c p q h H =
      let lock = n_held H refl in
      let headed = H.inv.agrees.headed n p H.facts.on_p in
      let agrees = unmapped-agrees s H.inv n in
      let mapped = unmapped-mapped s n p H.facts.on_p in
      let off = upd_same s.map n none in
      search (keeping, mapped, H.holds.locks, H.holds.own)

  U7 : Line s t UNMAP 7
  U7 n c p q h H =
      let own = p-held H refl in
      let agrees =
      freed_agrees s H.inv n p H.facts.headed-p (λ on. naming_not_none p (s.map n) on H.facts.unmapped) in
      let mapped = mapped_freed s.map s.header p in
      let freed = upd_same s.header p none in
      rw (H.holds.owner, own) (search (keeping, mapped, H.holds.locks, H.holds.own))

  U8 : Line s t UNMAP 8
  U8 n c p q h H =
      let own = p-held H refl in
      rw own (search (keeping, parts Writer, entry-given Writer t s.own p, H.holds.locks, H.holds.own))

  U9 : Line s t UNMAP 9
  U9 n c p q h H = rw H.holds.owner (search (keeping, H.holds.locks, H.holds.own))

  U10 : Line s t UNMAP 10
  U10 n c p q h H =
      let lock = n_held H refl in
      let left : status s n ≡ record { mapped = false; content = 0 } = rw H.facts.unmapped in
      rw lock (search (keeping, parts Writer, entry-given Writer t s.locks n, H.holds.locks, H.holds.own))

  U11 : Line s t UNMAP 11
  U11 n c p q h H =
      let sizes = numbers-blocks s H.inv in
      rw H.holds.lock (search (keeping, facts-idle, H.holds.locks, H.holds.own))

  pub unmap-lines : From (Line s t UNMAP) 1 11
  unmap-lines = U1 ▸ U2 ▸ U3 ▸ U4 ▸ U5 ▸ U6 ▸ U7 ▸ U8 ▸ U9 ▸ U10 ▸ U11 ▸ tt
