-- One at a time, computed: two schedules from fresh, interleaved, and the operations of their order of last locks run one after the other.
-- Both are compared with the same answers and the same words of the area. The theorem itself is `one_at_a_time` of OneAtATime.
-- Assumes nothing.
use mathlib.Core.Path.{◌≡◌, refl}
use mathlib.Core.List.{List, [], ◌∷◌, ◌++◌, map}
use Prim.Native.Nat.{ℕ, zero, suc}
use Rattle.meaning.specs.Store.{Store, fresh}
use Rattle.meaning.specs.Programs.{WRITE, READ, UNMAP, LEVEL}
use Rattle.meaning.specs.Call.{Entry, begin, step, call_store}
use Rattle.meaning.specs.Schedule.{Operation, operation, run, order, finished_by, steps, serial}
use Rattle.meaning.specs.Demands.{one_by_one}

-- the first so many entries of a table, in order
abbrev entries : ℕ → (ℕ → ℕ) → List ℕ
entries zero f = []
entries (suc k) f = entries k f ++ f k ∷ []

-- the words of the area past its sizes: H, the headers' owner, which threads have open work, and the tables
abbrev words : Store → List ℕ
words s =
    s.lock ∷ s.owner ∷ entries s.threads (λ t. (s.thread t).op) ++ entries s.numbers s.map ++ entries s.numbers s.locks
    ++ entries s.blocks s.header ++ entries s.blocks s.content ++ entries s.blocks s.wear ++ entries s.blocks s.own

-- the values with which each of the first so many threads has finished, in order
abbrev answers : ℕ → Store → List Entry → List (List ℕ)
answers zero s w = []
answers (suc t) s w = answers t s w ++ map (λ x. x.value) (finished_by call_store (λ s. s) s t w) ∷ []

abbrev outcome : Store → List Entry → List ℕ × List (List ℕ)
outcome s w = (words (run call_store s w), answers s.threads s w)

-- ---- two writers and a reader of one number

abbrev three : Store
three = fresh 3 1 2 1

-- Writer 1 takes H and the number's lock; reader 2 and writer 0 wait. Writer 0 gets H when 1 releases it, and the reader gets the number's
-- lock before writer 0 does.
abbrev writers_and_reader : List Entry
writers_and_reader =
    begin 0 WRITE 0 7 ∷ begin 1 WRITE 0 9 ∷ begin 2 READ 0 0 ∷ step 1 ∷ step 0 ∷ step 1 ∷ step 2
    ∷ steps 10 1 (step 0 ∷ step 1 ∷ step 0 ∷ step 1 ∷ step 2 ∷ step 1 ∷ step 1 ∷ step 2 ∷ step 0 ∷ step 2 ∷ step 0
    ∷ steps 4 2 (steps 7 0 []))

writers_and_reader-order : order call_store (λ s. s) three writers_and_reader ≡
    operation 1 WRITE 0 9 ∷ operation 2 READ 0 0 ∷ operation 0 WRITE 0 7 ∷ []
writers_and_reader-order = refl

-- the number is on block 0 with content 7, worn once by writer 0, who found it mapped; the reader saw 9
abbrev three_left : List ℕ × List (List ℕ)
three_left = (
  0 ∷ 0 ∷ 0 ∷ 0 ∷ 0 ∷ 1 ∷ 0 ∷ 1 ∷ 0 ∷ 7 ∷ 0 ∷ 1 ∷ 0 ∷ 0 ∷ 0 ∷ [],
  (0 ∷ []) ∷ (0 ∷ []) ∷ (9 ∷ []) ∷ [],
)

writers_and_reader-leaves : outcome three writers_and_reader ≡ three_left
writers_and_reader-leaves = refl

writers_and_reader_one_by_one : outcome three (one_by_one call_store (λ s. s) three writers_and_reader) ≡ three_left
writers_and_reader_one_by_one = refl

-- ---- a leveller moves a number while a writer writes another

abbrev two : Store
two = fresh 2 3 4 1

-- numbers 1 and 2 are on blocks 1 and 2; block 0 is free and worn
abbrev unmapped : List Operation
unmapped = operation 0 WRITE 0 7 ∷ operation 0 WRITE 1 9 ∷ operation 0 WRITE 2 4 ∷ operation 0 UNMAP 0 0 ∷ []

-- the leveller begins first; the writer has H and its number's lock before it, and writes and finishes while the leveller moves number 1
abbrev leveller_and_writer : List Entry
leveller_and_writer =
    serial unmapped ++ begin 0 LEVEL 0 0 ∷ begin 1 WRITE 2 5 ∷ step 1 ∷ step 0
    ∷ steps 3 1 (step 0 ∷ step 1 ∷ step 0 ∷ step 0 ∷ step 1 ∷ steps 3 0 (step 1 ∷ step 0 ∷ step 0 ∷ step 1 ∷ steps 10 0 []))

leveller_and_writer-order : order call_store (λ s. s) two leveller_and_writer ≡
    unmapped ++ operation 1 WRITE 2 5 ∷ operation 0 LEVEL 0 0 ∷ []
leveller_and_writer-order = refl

-- number 1 was moved to block 0; number 2 has its new content, and block 2 is worn; block 1 is free, keeps its content and is worn
abbrev two_left : List ℕ × List (List ℕ)
two_left = (
  0 ∷ 0 ∷ 0 ∷ 0 ∷ 0 ∷ 1 ∷ 3 ∷ 0 ∷ 0 ∷ 0 ∷ 2 ∷ 0 ∷ 3 ∷ 0 ∷ 9 ∷ 9 ∷ 5 ∷ 0 ∷ 1 ∷ 1 ∷ 1 ∷ 0 ∷ 0 ∷ 0 ∷ 0 ∷ 0 ∷ [],
  (0 ∷ 0 ∷ 0 ∷ 0 ∷ 1 ∷ []) ∷ (0 ∷ []) ∷ [],
)

leveller_and_writer-leaves : outcome two leveller_and_writer ≡ two_left
leveller_and_writer-leaves = refl

leveller_and_writer_one_by_one : outcome two (one_by_one call_store (λ s. s) two leveller_and_writer) ≡ two_left
leveller_and_writer_one_by_one = refl
