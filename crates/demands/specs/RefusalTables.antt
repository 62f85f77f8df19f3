-- What demand 1 over areas speaks of: the tables of refusals, values, who is open, and who can step. The calls are those of the crate store.
use Rattle.std.specs.Prelude.{◌≡◌, Bool, true, false, not, ◌||◌, List, [], ◌∷◌, ◌↔◌, ℕ, ◌<◌, ◌≤◌, eqb, ltb, length}
use Rattle.meaning.specs.Numbers.{WENT, FINISHED, BLOCKED, SHAPE, THREAD, BUSY, IDLE, LOGICAL, OPERATION, FAULT, LIMITS}
use Rattle.meaning.specs.Limits.{within, in_limits}
use Rattle.meaning.specs.Store.{Store}
use Rattle.meaning.specs.Programs.{WRITE, LEVEL, last_line}
use Rattle.meaning.specs.Needs.{asks, fails, waits}
use Rattle.meaning.specs.Call.{is_idle}
use Rattle.meaning.specs.Schedule.{next_act}
use Rattle.store.specs.Layout.{size}
use Rattle.store.specs.Area.{decode, well_formed}
use Rattle.store.specs.Calls.{format_area, begin_area, step_area}

-- ---- the tables of refusals, each in the order that 01, "Numbers given back", states for its call

-- thread t is below T; it has no open work
abbrev pub known : List ℕ → ℕ → Bool
known a t = ltb t (decode a).threads

abbrev pub rests : List ℕ → ℕ → Bool
rests a t = is_idle ((decode a).thread t)

-- the operation is one of 1 to 4; the number is below N, or the operation has none
abbrev pub operable : ℕ → Bool
operable op = within WRITE LEVEL op

abbrev pub numbered : List ℕ → ℕ → ℕ → Bool
numbered a op n = eqb op LEVEL || ltb n (decode a).numbers

-- the tests hold, and so does what follows
abbrev pub Past : List Bool → Type 0 → Type 0
Past [] then = then
Past (test ∷ tests) then = (test ≡ true) × Past tests then

-- each number comes back exactly where the tests before its own hold and its own doesn't

pub record FormatRefusals (a : List ℕ) (t n p d : ℕ) : Type 0 where
  pub limits : ((format_area a t n p d).number ≡ LIMITS) ↔ (in_limits t n p d ≡ false)
  pub shape : ((format_area a t n p d).number ≡ SHAPE) ↔ Past (in_limits t n p d ∷ []) (eqb (length a) (size t n p) ≡ false)
  pub went : ((format_area a t n p d).number ≡ WENT) ↔ Past (in_limits t n p d ∷ []) (eqb (length a) (size t n p) ≡ true)

pub record BeginRefusals (a : List ℕ) (t op n c : ℕ) : Type 0 where
  pub shape : ((begin_area a t op n c).number ≡ SHAPE) ↔ (well_formed a ≡ false)
  pub thread : ((begin_area a t op n c).number ≡ THREAD) ↔ Past (well_formed a ∷ []) (known a t ≡ false)
  pub busy : ((begin_area a t op n c).number ≡ BUSY) ↔ Past (well_formed a ∷ known a t ∷ []) (rests a t ≡ false)
  pub operation :
      ((begin_area a t op n c).number ≡ OPERATION)
      ↔ Past (well_formed a ∷ known a t ∷ rests a t ∷ []) (operable op ≡ false)
  pub logical :
      ((begin_area a t op n c).number ≡ LOGICAL)
      ↔ Past (well_formed a ∷ known a t ∷ rests a t ∷ operable op ∷ []) (numbered a op n ≡ false)
  pub went :
      ((begin_area a t op n c).number ≡ WENT)
      ↔ Past (well_formed a ∷ known a t ∷ rests a t ∷ operable op ∷ []) (numbered a op n ≡ true)

-- of thread t's next line: a need of it isn't met; it takes a lock that doesn't let it in; it is its operation's last
abbrev pub lacking : List ℕ → ℕ → Bool
lacking a t = fails (decode a) t ((decode a).thread t) (asks (next_act ((decode a).thread t)))

abbrev pub barred : List ℕ → ℕ → Bool
barred a t = waits (decode a) t ((decode a).thread t) (asks (next_act ((decode a).thread t)))

abbrev pub on_last : List ℕ → ℕ → Bool
on_last a t = eqb ((decode a).thread t).line (last_line ((decode a).thread t).op)

pub record StepRefusals (a : List ℕ) (t : ℕ) : Type 0 where
  pub shape : ((step_area a t).number ≡ SHAPE) ↔ (well_formed a ≡ false)
  pub thread : ((step_area a t).number ≡ THREAD) ↔ Past (well_formed a ∷ []) (known a t ≡ false)
  pub idle : ((step_area a t).number ≡ IDLE) ↔ Past (well_formed a ∷ known a t ∷ []) (rests a t ≡ true)
  -- no line both waits and has a need
  pub blocked :
      ((step_area a t).number ≡ BLOCKED)
      ↔ Past (well_formed a ∷ known a t ∷ not (rests a t) ∷ []) (barred a t ≡ true)
  pub fault :
      ((step_area a t).number ≡ FAULT)
      ↔ Past (well_formed a ∷ known a t ∷ not (rests a t) ∷ []) (lacking a t ≡ true)
  pub went :
      ((step_area a t).number ≡ WENT)
      ↔ Past (well_formed a ∷ known a t ∷ not (rests a t) ∷ not (barred a t) ∷ not (lacking a t) ∷ []) (on_last a t ≡ false)
  pub finished :
      ((step_area a t).number ≡ FINISHED)
      ↔ Past (well_formed a ∷ known a t ∷ not (rests a t) ∷ not (barred a t) ∷ not (lacking a t) ∷ []) (on_last a t ≡ true)

pub record Refusals (a : List ℕ) : Type 0 where
  pub format : (t n p d : ℕ) → FormatRefusals a t n p d
  pub begin : (t op n c : ℕ) → BeginRefusals a t op n c
  pub step : (t : ℕ) → StepRefusals a t

-- ---- values

-- 01, "Numbers given back": where no operation finishes, the value is 0; format and begin finish none
pub record UnfinishedValue (a : List ℕ) : Type 0 where
  pub format : (t n p d : ℕ) → (format_area a t n p d).value ≡ 0
  pub begin : (t op n c : ℕ) → (begin_area a t op n c).value ≡ 0
  pub step : (t : ℕ) → ((step_area a t).number ≡ FINISHED → ⊥) → (step_area a t).value ≡ 0

-- ---- threads

-- thread t has open work
pub record Open (a : List ℕ) (t : ℕ) : Type 0 where
  pub below : t < (decode a).threads
  pub busy : rests a t ≡ false

-- 01, "The machine": its step would answer WENT or FINISHED, the two least numbers
abbrev pub CanStep : List ℕ → ℕ → Type 0
CanStep a t = (step_area a t).number ≤ FINISHED

-- two stores have the same T, N, P and D
pub record SameSizes (s s' : Store) : Type 0 where
  pub threads : s.threads ≡ s'.threads
  pub numbers : s.numbers ≡ s'.numbers
  pub blocks : s.blocks ≡ s'.blocks
  pub distance : s.distance ≡ s'.distance
