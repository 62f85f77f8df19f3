-- What doing a verdict asks of an area and what it leaves.
use Rattle.std.specs.Prelude.{List, ◌≡◌, ℕ, Option, None}
use Rattle.meaning.specs.declared.Pass.{Pass}
use Rattle.meaning.specs.declared.Pass.TheVariants.{Leave}
use Rattle.meaning.specs.declared.Effect.{Effect}
use Rattle.meaning.specs.Store.{Store}
use Rattle.meaning.specs.Step.{effect}
use Rattle.store.specs.Area.{Bytes, decode}
use Rattle.store.specs.Live.{Live, EntryBelow, PassBelow}

-- the effect's entries are below their tables' sizes, and what becomes of a lock or an owner of store s is a word
pub record EffectInside (s : Store) (n p : ℕ) (e : Effect) : Type 0 where
  pub map : EntryBelow n e.map
  pub locks : PassBelow n s.locks e.locks
  pub header : EntryBelow p e.header
  pub content : EntryBelow p e.content
  pub wear : EntryBelow p e.wear
  pub own : PassBelow p s.own e.own

-- area b holds store s, with the sizes that area a had, and is of bytes where a is
pub record Stored (a b : List ℕ) (t n p : ℕ) (s : Store) : Type 0 where
  pub decoded : decode b ≡ s
  pub live : Live b t n p
  pub bytes : Bytes a → Bytes b

-- what touches no block, and what touches nothing else
abbrev pub unblocked : Option ℕ → Option ℕ → Option (ℕ × ℕ) → Pass → Effect
unblocked lock owner map locks = effect lock owner map locks None None None Leave

abbrev pub on_blocks : Option (ℕ × ℕ) → Option (ℕ × ℕ) → Option (ℕ × ℕ) → Pass → Effect
on_blocks header content wear own = effect None None None Leave header content wear own
