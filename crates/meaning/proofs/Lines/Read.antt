-- The lines of read, one after the other: each has what it needs, and shows what the table says of the thread at its next line.
-- Assumes nothing.
use mathlib.Core.Path.{◌≡◌, refl, sym, ap}
use mathlib.Core.List.{[], ◌∷◌}
use Prim.Native.Nat.{ℕ}
use Rattle.meaning.specs.declared.Kind.TheVariants.{Reader}
use Rattle.meaning.specs.Store.{Store}
use Rattle.meaning.specs.Holding.{free, admits}
use Rattle.meaning.specs.Programs.{READ}
use Rattle.meaning.specs.Demands.{kept}
use Rattle.meaning.proofs.Base.Words.{either_way, naming_not_free}
use Rattle.meaning.proofs.Manager.View.{due}
use Rattle.meaning.proofs.Invariant.Sharing.{mapped_block_admits, numbers-blocks}
use Rattle.meaning.proofs.Lines.{at, for_n, Line, From, ◌▸◌, n_held, p-held, looked-up, kept_on, facts-idle, comes, parts, entry-taken, entry-given, keeping}

module _ (s : Store) (t : ℕ) where
  R1 : Line s t READ 1
  R1 n c p q h H =
      either_way (admits Reader t (s.locks n))
      (λ f. rw f (search (keeping, comes Reader, entry-taken Reader t s.locks n, H.holds.locks))) (λ f. rw f (for_n refl f))

  R2 : Line s t READ 2
  R2 n c p q h H =
      either_way (free (s.map n))
      (λ f. let empty : 0 ≡ kept s n = rw f in rw f (search (keeping, H.holds.locks, H.holds.own)))
      (λ f. rw f (let u = looked-up s H.inv n f in search (keeping, H.holds.locks, H.holds.own)))

  R3 : Line s t READ 3
  R3 n c p q h H =
      let f = mapped_block_admits s H.inv Reader t n p H.facts.on_p (n_held H refl) (λ κ. H.holds.own κ p) in
      rw f (search (keeping, comes Reader, entry-taken Reader t s.own p, H.holds.locks, H.holds.own))

  R4 : Line s t READ 4
  R4 n c p q h H =
      let own = p-held H refl in
      let headed = H.inv.agrees.headed n p H.facts.on_p in
      let seen = sym (kept_on s n p H.facts.on_p) in
      rw (own, naming_not_free n (s.header p) headed) (search (keeping, H.holds.locks, H.holds.own))

  R5 : Line s t READ 5
  R5 n c p q h H =
      let own = p-held H refl in
      rw own (search (keeping, parts Reader, entry-given Reader t s.own p, H.holds.locks, H.holds.own))

  R6 : Line s t READ 6
  R6 n c p q h H =
      let lock = n_held H refl in
      let sizes = numbers-blocks s H.inv in
      let owed : due s (at READ 6 n c p q h) ≡ record { op = READ; value = c } ∷ [] =
      ap (λ x. record { op = READ; value = x } ∷ []) (sym H.facts.seen) in
      rw lock (search (keeping, parts Reader, entry-given Reader t s.locks n, facts-idle, H.holds.locks, H.holds.own))

  pub read_lines : From (Line s t READ) 1 6
  read_lines = R1 ▸ R2 ▸ R3 ▸ R4 ▸ R5 ▸ R6 ▸ tt
