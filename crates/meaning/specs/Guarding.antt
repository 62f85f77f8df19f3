-- Headers with the map, and wear: what 01, "Where a reasonable person goes wrong", asks of every store grown from fresh.
use Rattle.std.specs.Prelude.{◌≡◌, Bool, true, ◌&&◌, ◌||◌, ◌↔◌, ℕ, eqb}
use Rattle.meaning.specs.declared.Thread.{Thread}
use Rattle.meaning.specs.Limits.{within}
use Rattle.meaning.specs.Store.{Store}
use Rattle.meaning.specs.Holding.{held_by, naming}
use Rattle.meaning.specs.Programs.{WRITE, UNMAP, LEVEL}
use Rattle.meaning.specs.Call.{Entry, step}

-- between W7 and W10, between U6 and U7, or between L10 and L13: the thread has done the first of the two lines, and the second not yet
abbrev pub between : Thread → Bool
between r =
    eqb r.op WRITE && within 8 10 r.line
    || eqb r.op UNMAP && within 7 7 r.line
    || eqb r.op LEVEL && within 11 13 r.line

-- each header that isn't free has its number mapped to its block, and each entry of the map has its number in its block's header
abbrev pub HeadersAgree : Store → Type 0
HeadersAgree s = (m k : ℕ) → (s.header m ≡ naming k) ↔ (s.map k ≡ naming m)

-- the call that entry e makes of s and that leaves s' is a step of a thread that holds H before it and after it
pub record UnderH (s s' : Store) (e : Entry) : Type 0 where
  pub who : ℕ
  pub steps : e ≡ step who
  pub before : held_by who s.lock ≡ true
  pub after : held_by who s'.lock ≡ true

-- H guards wear
abbrev pub WearUnderH : Store → Store → Entry → Type 0
WearUnderH s s' e = (m : ℕ) → (s'.wear m ≡ s.wear m → ⊥) → UnderH s s' e
