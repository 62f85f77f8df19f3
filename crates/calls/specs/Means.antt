-- The exported functions' contracts: what comes back is the reply's number and value, packed, and every byte after the call is the
-- reply's. The replies are those of the crate store, specs/Calls.antt.
use Rattle.std.specs.Prelude.{List, ◌≡◌, ℕ}
use Rattle.meaning.specs.Numbers.{packed}
use Rattle.meaning.specs.Call.{Reply}
use Rattle.store.specs.Calls.{format_area, begin_area, step_area}

-- result and area after a call, as the reply has them
abbrev pub Replied : Reply (List ℕ) → ℕ → List ℕ → Type 0
Replied reply result exit = (result ≡ packed reply.number reply.value) × (exit ≡ reply.after)

abbrev pub FormatMeans : List ℕ → ℕ → ℕ → ℕ → ℕ → ℕ → List ℕ → Type 0
FormatMeans entry t n p d result exit = Replied (format_area entry t n p d) result exit

abbrev pub BeginMeans : List ℕ → ℕ → ℕ → ℕ → ℕ → ℕ → List ℕ → Type 0
BeginMeans entry thread op n c result exit = Replied (begin_area entry thread op n c) result exit

abbrev pub StepMeans : List ℕ → ℕ → ℕ → List ℕ → Type 0
StepMeans entry thread result exit = Replied (step_area entry thread) result exit
