-- The value that a call gives back is a word: the value of format and begin is 0, and that of step is 0, 1 or a register of an area of bytes. So
-- number and value can be taken apart again, by one more than the largest word. Assumes nothing.
use mathlib.Core.Bool.{Bool, true, false, not, ◌||◌}
use mathlib.Core.Path.{◌≡◌, refl}
use mathlib.Core.List.{List}
use Prim.Native.Nat.{ℕ, ◌+◌, ◌/◌, ◌%◌, ◌≤◌}
use native.Mathlib.Omega.{arith}
use lib.Dec.{eqb, ltb}
use Rattle.meaning.specs.declared.Act.{Act}
use Rattle.meaning.specs.declared.Thread.{Thread}
use Rattle.meaning.specs.declared.Verdict.{Verdict}
use Rattle.meaning.specs.declared.Verdict.TheVariants.{Blocked, Fault, Go, Done}
use Rattle.meaning.specs.Numbers.{packed, WENT, LIMITS, SHAPE, THREAD, BUSY, IDLE, LOGICAL, OPERATION}
use Rattle.meaning.specs.Limits.{most_word, within, in_limits}
use Rattle.meaning.specs.Store.{Store, fresh}
use Rattle.meaning.specs.Programs.{WRITE, LEVEL, act_at}
use Rattle.meaning.specs.Step.{perform}
use Rattle.meaning.specs.Call.{Outcome, refused, left, reply, check, is_idle, told}
use Rattle.meaning.proofs.Acts.{NearWords, Lands, lands}
use lib.ListN.{length}
use Rattle.store.specs.Layout.{size}
use Rattle.store.specs.Area.{Bytes, decode, well_formed, encode}
use Rattle.store.specs.Calls.{format_area, begin_area, step_area}
use Rattle.store.proofs.Range.{good-ranged, near-words}

-- ---- number and value taken apart

pub packed-number : (n v : ℕ) → v ≤ most_word → packed n v / (most_word + 1) ≡ n
packed-number n v h = omega arith

pub packed-value : (n v : ℕ) → v ≤ most_word → packed n v % (most_word + 1) ≡ v
packed-value n v h = omega arith

-- ---- a reply's value is a word

data Worth : Outcome → Type 0 where
  nothing : {n : ℕ} → Worth (refused n)
  value : {n v : ℕ} {s : Store} → v ≤ most_word → Worth (left n v s)

worth-check : {o : Outcome} (b : Bool) (n : ℕ) → (b ≡ true → Worth o) → Worth (check b n o)
worth-check true n w = w refl
worth-check false n w = nothing

worth-value : (a : List ℕ) {o : Outcome} → Worth o → (reply encode a o).value ≤ most_word
worth-value a nothing = omega arith
worth-value a (value h) = h

-- what a step comes to, where the words near its line are words
worth-told : (s : Store) (t : ℕ) (r : Thread) → NearWords s r most_word → (a : Act) (v : Verdict) → Lands a s t r v → Worth (told s t v)
worth-told s t r N a Blocked l = nothing
worth-told s t r N a Fault l = nothing
worth-told s t r N a (Go r' e) l = value {v = 0} (omega arith)
worth-told s t r N a (Done v e) l = value (l.low most_word N)

-- ---- the three calls

pub format-value : (a : List ℕ) (t n p d : ℕ) → (format_area a t n p d).value ≡ 0
format-value a t n p d = each (in_limits t n p d) (eqb (length a) (size t n p))
  where
    each :
        (allowed exact : Bool) →
        (reply encode a (check allowed LIMITS (check exact SHAPE (left WENT 0 (fresh t n p d))))).value ≡ 0
    each true true = refl
    each true false = refl
    each false exact = refl

pub begin-value : (a : List ℕ) (t op n c : ℕ) → (begin_area a t op n c).value ≤ most_word
begin-value a t op n c =
    let s = decode a in
    worth-value a
    (worth-check (well_formed a) SHAPE (λ _.
    worth-check (ltb t s.threads) THREAD (λ _.
    worth-check (is_idle (s.thread t)) BUSY (λ _.
    worth-check (within WRITE LEVEL op) OPERATION (λ _.
    worth-check (eqb op LEVEL || ltb n s.numbers) LOGICAL (λ _. value {v = 0} (omega arith)))))))

pub step_value : (a : List ℕ) (t : ℕ) → Bytes a → (step_area a t).value ≤ most_word
step_value a t bytes =
    let s = decode a in
    let r = s.thread t in
    let act = act_at r.op r.line in
    worth-value a
    (worth-check (well_formed a) SHAPE (λ formed.
    worth-check (ltb t s.threads) THREAD (λ _.
    worth-check (not (is_idle r)) IDLE (λ _.
    worth-told s t r (near-words s (good-ranged a (record { bytes = bytes; formed = formed })) t) act (perform act s t r)
    (lands act s t r)))))
