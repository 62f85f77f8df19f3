-- The lines of write, one after the other: each has what it needs, and shows what the table says of the thread at its next line.
-- Assumes nothing.
use mathlib.Core.Path.{refl, sym, ◌∙◌}
use mathlib.Core.Bool.{false}
use Prim.Native.Nat.{ℕ}
use native.Mathlib.Omega.{arith}
use lib.Dec.{eqb}
use borrow.Author.Tests.{eqb-true, lt-ltb}
use Rattle.meaning.specs.declared.Kind.TheVariants.{Writer}
use Rattle.meaning.specs.Store.{Store}
use Rattle.meaning.specs.Holding.{free, naming, admits}
use Rattle.meaning.specs.Choosing.{lowest_free}
use Rattle.meaning.specs.Programs.{WRITE}
use Rattle.meaning.specs.Step.{on_content, apply}
use Rattle.meaning.proofs.Base.Words.{either_way, same, free-none, naming_not_free, naming_not_none, upd_same}
use Rattle.meaning.proofs.Invariant.Sharing.{owner-free, mapped_block_admits, free_block_admits, numbers-blocks, lowest-free, content-guarded}
use Rattle.meaning.proofs.Lines.{kept_on, status_on, at, for_h, for_n, Line, From, ◌▸◌, n_held, p-held, mapped-headed, headed-agrees, moved-agrees, moved-mapped, looked-up, facts-idle, comes, parts, entry-taken, entry-given, keeping}

module _ (s : Store) (t : ℕ) where
  W1 : Line s t WRITE 1
  W1 n c p q h H =
      either_way (free s.lock) (λ f. rw f (search (keeping))) (λ f. rw f (for_h refl refl f))

  W2 : Line s t WRITE 2
  W2 n c p q h H =
      either_way (admits Writer t (s.locks n))
      (λ f. rw f (search (keeping, comes Writer, entry-taken Writer t s.locks n, H.holds.locks))) (λ f. rw f (for_n refl f))

  W3 : Line s t WRITE 3
  W3 n c p q h H =
      either_way (free (s.map n))
      (λ f. rw f (let u = free-none (s.map n) f in search (keeping, H.holds.locks)))
      (λ f. rw f (let u = looked-up s H.inv n f in search (keeping, H.holds.locks)))

  W4 : Line s t WRITE 4
  W4 n c p q h H =
      let f = owner-free s H.inv t H.holds.lock H.holds.owner in
      rw f (search (keeping, H.holds.locks))

  W5 : Line s t WRITE 5
  W5 n c p q h H =
      let f = lowest-free s H.inv t H.holds.owner (λ m. rw H.is) in
      rw (H.holds.owner, lt-ltb (lowest_free s.header s.blocks) s.blocks f.0) (search (keeping, H.holds.locks))

  W6 : Line s t WRITE 6
  W6 n c p q h H =
      let f = free_block_admits s H.inv Writer t p H.facts.free-p H.holds.owner (λ κ. H.holds.own κ p) in
      rw f (search (keeping, comes Writer, entry-taken Writer t s.own p, H.holds.locks, H.holds.own))

  W7 : Line s t WRITE 7
  W7 n c p q h H =
      let own = p-held H refl in
      let agrees = headed-agrees s H.inv p (naming n) H.facts.free-p (omega arith) in
      let mapped = mapped-headed s.map s.header p (naming n) (λ m. eqb p m) (same p) in
      let headed = upd_same s.header p (naming n) in
      rw (H.holds.owner, own) (search (keeping, mapped, H.holds.locks, H.holds.own))

  W8 : Line s t WRITE 8
  W8 n c p q h H =
      let own = p-held H refl in
      let guarded = content-guarded s H.inv t n p H.facts.headed-p (n_held H refl) own in
      rw (own, naming_not_free n (s.header p) H.facts.headed-p) (search (keeping, H.holds.locks, H.holds.own))

  W9 : Line s t WRITE 9
  W9 n c p q h H =
      let own = p-held H refl in
      rw own (search (keeping, parts Writer, entry-given Writer t s.own p, H.holds.locks, H.holds.own))

  W10 : Line s t WRITE 10
  W10 n c p q h H =
      let lock = n_held H refl in
      let agrees = moved-agrees s H.inv n p H.facts.headed-p H.facts.p-below in
      let mapped =
      moved-mapped s n p H.facts.headed-p (λ m. eqb p m) (λ m. false) (λ m x. eqb-true p m x)
      (λ m on. naming_not_none m (s.map n) on H.facts.unmapped) in
      let on = upd_same s.map n (naming p) in
      search (keeping, mapped, H.holds.locks, H.holds.own)

  W11 : Line s t WRITE 11
  W11 n c p q h H = rw H.holds.owner (search (keeping, H.holds.locks, H.holds.own))

  W12 : Line s t WRITE 12
  W12 n c p q h H = rw H.holds.lock (search (keeping, H.holds.locks, H.holds.own))

  W13 : Line s t WRITE 13
  W13 n c p q h H =
      let f = mapped_block_admits s H.inv Writer t n p H.facts.on_p (n_held H refl) (λ κ. H.holds.own κ p) in
      rw f (search (keeping, comes Writer, entry-taken Writer t s.own p, H.holds.locks, H.holds.own))

  W14 : Line s t WRITE 14
  W14 n c p q h H =
      let own = p-held H refl in
      let headed = H.inv.agrees.headed n p H.facts.on_p in
      let guarded = content-guarded s H.inv t n p headed (n_held H refl) own in
      let written = apply s t (at WRITE 15 n c p q h) (on_content p c) in
      let seen = sym (kept_on written n p H.facts.on_p ∙ upd_same s.content p c) in
      rw (own, naming_not_free n (s.header p) headed) (search (keeping, H.holds.locks, H.holds.own))

  W15 : Line s t WRITE 15
  W15 n c p q h H =
      let own = p-held H refl in
      rw own (search (keeping, parts Writer, entry-given Writer t s.own p, H.holds.locks, H.holds.own))

  W16 : Line s t WRITE 16
  W16 n c p q h H =
      let lock = n_held H refl in
      let sizes = numbers-blocks s H.inv in
      let left = status_on s n p c H.facts.on_p (sym H.facts.seen) in
      rw lock (search (keeping, parts Writer, entry-given Writer t s.locks n, facts-idle, H.holds.locks, H.holds.own))

  pub write-lines : From (Line s t WRITE) 1 16
  write-lines = W1 ▸ W2 ▸ W3 ▸ W4 ▸ W5 ▸ W6 ▸ W7 ▸ W8 ▸ W9 ▸ W10 ▸ W11 ▸ W12 ▸ W13 ▸ W14 ▸ W15 ▸ W16 ▸ tt
