-- The calls on byte areas: what the exported functions' contracts say, and what the demands speak of.
-- They refuse in the order of 01, "Numbers given back": here is LIMITS before SHAPE for format, and SHAPE before all else for begin and step, whose
-- other numbers are in `beginning` and `stepping` of the crate meaning.
use Rattle.std.specs.Prelude.{List, ◌≡◌, ℕ, length, eqb}
use Rattle.meaning.specs.Numbers.{WENT, SHAPE, LIMITS}
use Rattle.meaning.specs.Limits.{in_limits}
use Rattle.meaning.specs.Store.{fresh}
use Rattle.meaning.specs.Call.{Reply, left, reply, check, Entry, begin, step, calling}
use Rattle.meaning.specs.Schedule as schedule
use Rattle.store.specs.Layout.{size}
use Rattle.store.specs.Area.{Bytes, encode, decode, well_formed}

abbrev pub format_area : List ℕ → ℕ → ℕ → ℕ → ℕ → Reply (List ℕ)
format_area a t n p d =
    reply encode a
    (check (in_limits t n p d) LIMITS
    (check (eqb (length a) (size t n p)) SHAPE
    (left WENT 0 (fresh t n p d))))

abbrev pub call_area : List ℕ → Entry → Reply (List ℕ)
call_area a e = reply encode a (check (well_formed a) SHAPE (calling (decode a) e))

abbrev pub begin_area : List ℕ → ℕ → ℕ → ℕ → ℕ → Reply (List ℕ)
begin_area a t op n c = call_area a (begin t op n c)

abbrev pub step_area : List ℕ → ℕ → Reply (List ℕ)
step_area a t = call_area a (step t)

-- an area that a format left which gave WENT
pub data Formatted : List ℕ → Type 0 where
  format : (a : List ℕ) → Bytes a → (t n p d : ℕ) → (format_area a t n p d).number ≡ WENT → Formatted (format_area a t n p d).after

-- 01, "grown from fresh": what schedules leave, the first store being one that format answered with WENT
abbrev pub Grown : List ℕ → Type 0
Grown = schedule.Grown call_area Formatted
