-- The lines of level, one after the other: each has what it needs, and shows what the table says of the thread at its next line.
-- Assumes nothing.
use Rattle.std.specs.Prelude.{Some}
use mathlib.Core.Path.{◌≡◌, refl, sym, ◌∙◌}
use mathlib.Core.Bool.{false, ◌||◌, or-false, and-false}
use Prim.Native.Nat.{ℕ, ◌<◌}
use lib.Dec.{eqb}
use borrow.Author.Tests.{eqb-true, eq-eqb, ne_eqb}
use Rattle.meaning.specs.declared.Kind.TheVariants.{Writer}
use Rattle.meaning.specs.Store.{Store}
use Rattle.meaning.specs.Holding.{none, free, naming, named, admits}
use Rattle.meaning.specs.Choosing.{to_block}
use Rattle.meaning.specs.Programs.{LEVEL, act_at}
use Rattle.meaning.specs.Step.{on_content, on_map, perform, apply}
use Rattle.meaning.proofs.Base.Words.{either_way, same, naming-named, named-below, naming_not_free, naming_once, upd_same, upd_other}
use Rattle.meaning.proofs.Base.Sets.{same_kind}
use Rattle.meaning.proofs.Invariant.Sharing.{owner-free, mapped_block_admits, free_block_admits, settled-owner, numbers-blocks, to_found, content-guarded}
use Rattle.meaning.proofs.Base.Searches.{from-below}
use Rattle.meaning.proofs.Lines.{for_h, for_n, Fine, at, Line, From, ◌▸◌, n_held, p-held, q-held, second-taken, second-given, mapped-headed, mapped_freed, headed-apart, headed-agrees, freed_agrees, moved-agrees, moved-mapped, status-moved, facts-idle, comes, parts, entry-taken, entry-given, keeping}

module _ (s : Store) (t : ℕ) where
  L1 : Line s t LEVEL 1
  L1 n c p q h H =
      either_way (free s.lock) (λ f. rw f (search (keeping))) (λ f. rw f (for_h refl refl f))

  L2 : Line s t LEVEL 2
  L2 n c p q h H =
      let f = owner-free s H.inv t H.holds.lock H.holds.owner in
      rw f (search (keeping, H.holds.locks))

  L3 : Line s t LEVEL 3
  L3 n c p q h H = let to = to_found s H.inv t H.holds.owner (λ m. rw H.is) in chosen to.0 to.1 to.2 to.3
    where
      chosen : (to : ℕ) → to_block s.header s.wear s.blocks ≡ Some to → to < s.blocks → s.header to ≡ none →
          Fine s t (at LEVEL 3 n c p q h) (perform (act_at LEVEL 3) s t (at LEVEL 3 n c p q h))
      chosen to found below empty =
          let from = from-below s.header s.wear s.distance s.blocks to below in
          rw (H.holds.owner, found) (search (keeping, H.holds.locks))

  L4 : Line s t LEVEL 4
  L4 n c p q h H =
      let below = H.inv.agrees.header-below p in
      rw H.holds.owner (search (keeping, H.holds.locks))

  L5 : Line s t LEVEL 5
  L5 n c p q h H =
      either_way (free h)
      (λ f. rw f (search (keeping, H.holds.locks)))
      (λ f. rw f (let names = naming-named h f in
      let below = named-below h s.numbers f H.facts.h-below in
      let headed = sym H.facts.heads-p ∙ names in
      let on = settled-owner s H.inv t H.holds.owner (λ m. rw H.is) p (named h) headed in
      search (keeping, H.holds.locks)))

  L6 : Line s t LEVEL 6
  L6 n c p q h H =
      either_way (admits Writer t (s.locks n))
      (λ f. rw f (search (keeping, comes Writer, entry-taken Writer t s.locks n, H.holds.locks))) (λ f. rw f (for_n refl f))

  L7 : Line s t LEVEL 7
  L7 n c p q h H =
      let f = mapped_block_admits s H.inv Writer t n p H.facts.on_p (n_held H refl) (λ κ. H.holds.own κ p) in
      rw f (search (keeping, comes Writer, entry-taken Writer t s.own p, H.holds.locks, H.holds.own))

  L8 : Line s t LEVEL 8
  L8 n c p q h H =
      let own = p-held H refl in
      rw (own, naming_not_free n (s.header p) H.facts.headed-p) (search (keeping, H.holds.locks, H.holds.own))

  L9 : Line s t LEVEL 9
  L9 n c p q h H =
      let apart = headed-apart s n p q H.facts.headed-p H.facts.free-q in
      let f = free_block_admits s H.inv Writer t q H.facts.free-q H.holds.owner
      (λ κ. H.holds.own κ q ∙ rw (ne_eqb p q apart) (and-false (same_kind κ Writer))) in
      rw f (search (keeping, comes Writer, second-taken Writer t s.own q p, H.holds.locks, H.holds.own))

  L10 : Line s t LEVEL 10
  L10 n c p q h H =
      let own = q-held H refl in
      let apart = headed-apart s n p q H.facts.headed-p H.facts.free-q in
      let agrees = headed-agrees s H.inv q h H.facts.free-q H.facts.h-below in
      let mapped = mapped-headed s.map s.header q h (λ m. eqb q m || false) (rw (same q)) in
      let headed-p = upd_other s.header q p h (λ e. apart (sym e)) ∙ H.facts.headed-p in
      let headed-q = upd_same s.header q h ∙ H.facts.names-n in
      rw (H.holds.owner, own) (search (keeping, mapped, H.holds.locks, H.holds.own))

  L11 : Line s t LEVEL 11
  L11 n c p q h H =
      let own = q-held H refl in
      let guarded = content-guarded s H.inv t n q H.facts.headed-q (n_held H refl) own in
      let copied = H.facts.copied ∙ sym (upd_other s.content q p c (λ e. H.facts.apart (sym e))) in
      let pasted = upd_same s.content q c in
      let pasting = apply s t (at LEVEL 12 n c p q h) (on_content q c) in
      let left = status-moved s pasting n p p H.facts.on_p H.facts.on_p (sym copied ∙ H.facts.copied) in
      rw (own, naming_not_free n (s.header q) H.facts.headed-q) (search (keeping, H.holds.locks, H.holds.own))

  L12 : Line s t LEVEL 12
  L12 n c p q h H =
      let lock = n_held H refl in
      let agrees = moved-agrees s H.inv n q H.facts.headed-q H.facts.q-below in
      let mapped =
      moved-mapped s n q H.facts.headed-q (λ m. eqb q m || false) (λ m. eqb p m)
      (λ m x. eqb-true q m (rw (or-false (eqb q m)) at x))
      (λ m on. eq-eqb p m (naming_once p m (sym H.facts.on_p ∙ on))) in
      let on = upd_same s.map n (naming q) in
      let moving = apply s t (at LEVEL 13 n c p q h) (on_map n (naming q)) in
      let left = status-moved s moving n p q H.facts.on_p on (H.facts.pasted ∙ H.facts.copied) in
      search (keeping, mapped, H.holds.locks, H.holds.own)

  L13 : Line s t LEVEL 13
  L13 n c p q h H =
      let own = p-held H refl in
      let agrees =
      freed_agrees s H.inv n p H.facts.headed-p (λ on. H.facts.apart (naming_once p q (sym on ∙ H.facts.on_q))) in
      let mapped = mapped_freed s.map s.header p in
      let freed = upd_same s.header p none in
      rw (H.holds.owner, own) (search (keeping, mapped, H.holds.locks, H.holds.own))

  L14 : Line s t LEVEL 14
  L14 n c p q h H =
      let own = q-held H refl in
      rw own (search (keeping, parts Writer, second-given Writer t s.own q p own H.facts.apart, H.holds.locks, H.holds.own))

  L15 : Line s t LEVEL 15
  L15 n c p q h H =
      let own = p-held H refl in
      rw own (search (keeping, parts Writer, entry-given Writer t s.own p, H.holds.locks, H.holds.own))

  L16 : Line s t LEVEL 16
  L16 n c p q h H =
      let lock = n_held H refl in
      rw lock (search (keeping, parts Writer, entry-given Writer t s.locks n, H.holds.locks, H.holds.own))

  L17 : Line s t LEVEL 17
  L17 n c p q h H = rw H.holds.owner (search (keeping, H.holds.locks, H.holds.own))

  L18 : Line s t LEVEL 18
  L18 n c p q h H =
      let sizes = numbers-blocks s H.inv in
      rw H.holds.lock (search (keeping, facts-idle, H.holds.locks, H.holds.own))

  pub level-lines : From (Line s t LEVEL) 1 18
  level-lines = L1 ▸ L2 ▸ L3 ▸ L4 ▸ L5 ▸ L6 ▸ L7 ▸ L8 ▸ L9 ▸ L10 ▸ L11 ▸ L12 ▸ L13 ▸ L14 ▸ L15 ▸ L16 ▸ L17 ▸ L18 ▸ tt
