-- What the code's result stands for: the reply of `add_area`. A refusal is its number and the tally as it was.
use Rattle.std.specs.Prelude.{ℕ, Result, Ok, Err}
use Rattle.meaning.specs.Numbers.{WENT}
use Rattle.meaning.specs.Call.{Reply}
use Rattle.sheet.specs.declared.Tally.{Tally}
use Rattle.sheet.specs.declared.Refusal.{Refusal}
use Rattle.sheet.specs.declared.Refusal.TheVariants as refusal
use Rattle.sheet.specs.Adding.{TALLY, FULL, gives}

abbrev pub number_of : Refusal → ℕ
number_of refusal.Tally = TALLY
number_of refusal.Full = FULL

abbrev pub replied : Tally → Result Tally Refusal → Reply Tally
replied t (Ok after) = gives WENT after
replied t (Err why) = gives (number_of why) t
