-- What an answer of the calls says: number and value as in 01, "Numbers given back", and with the area after the call, the reply.
use Rattle.std.specs.Prelude.{List, ◌≡◌, ℕ, false, Result, Ok, Err, MatchResult}
use Rattle.meaning.specs.Numbers.{WENT, FINISHED, BLOCKED, SHAPE, THREAD, BUSY, IDLE, LOGICAL, OPERATION, FAULT, LIMITS}
use Rattle.meaning.specs.Limits.{within}
use Rattle.meaning.specs.Programs.{WRITE, READ, UNMAP, LEVEL}
use Rattle.meaning.specs.Call.{Reply}
use Rattle.calls.specs.declared.Accepted.{Accepted}
use Rattle.calls.specs.declared.Accepted.TheVariants.{Went, Finished, Blocked}
use Rattle.calls.specs.declared.Refusal.{Refusal}
use Rattle.calls.specs.declared.Refusal.TheVariants as refusals
use Rattle.calls.specs.declared.Operation.{Operation}
use Rattle.calls.specs.declared.Operation.TheVariants as operations

abbrev pub refusal_number : Refusal → ℕ
refusal_number refusals.Shape = SHAPE
refusal_number refusals.Thread = THREAD
refusal_number refusals.Busy = BUSY
refusal_number refusals.Idle = IDLE
refusal_number refusals.Logical = LOGICAL
refusal_number refusals.Operation = OPERATION
refusal_number refusals.Fault = FAULT
refusal_number refusals.Limits = LIMITS

abbrev pub number_of : Result Accepted Refusal → ℕ
number_of (Ok Went) = WENT
number_of (Ok (Finished v)) = FINISHED
number_of (Ok Blocked) = BLOCKED
number_of (Err r) = refusal_number r

-- 0 but for a finished operation
abbrev pub value_of : Result Accepted Refusal → ℕ
value_of (Ok Went) = 0
value_of (Ok (Finished v)) = v
value_of (Ok Blocked) = 0
value_of (Err r) = 0

-- the reply that an answer and the area after the call make
abbrev pub answered : Result Accepted Refusal → List ℕ → Reply (List ℕ)
answered answer after = record { number = number_of answer; value = value_of answer; after = after }

-- ---- the operations

abbrev pub operation_number : Operation → ℕ
operation_number operations.Write = WRITE
operation_number operations.Read = READ
operation_number operations.Unmap = UNMAP
operation_number operations.Level = LEVEL

-- the operation that has the number, or OPERATION for a number that none has
abbrev pub Decodes : ℕ → Result Operation Refusal → Type 0
Decodes op r =
    MatchResult r (λ operation. operation_number operation ≡ op) (λ e. (e ≡ refusals.Operation) × (within WRITE LEVEL op ≡ false))
