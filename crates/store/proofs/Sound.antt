-- What the tests of sizes, tables and thread records say as facts, both ways; and so: an area is well formed exactly where its length
-- is that of its sizes and the store that it holds is sound. Assumes nothing.
use mathlib.Core.Path.{◌≡◌, refl, ◌∙◌, sym}
use mathlib.Core.Bool.{Bool, true, false, ◌&&◌, and-false}
use mathlib.Core.List.{List}
use mathlib.Core.Logic.{◌⊎◌, inl, inr, ◌↔◌}
use Prim.Native.Nat.{ℕ, ◌+◌, ◌<◌, ◌≤◌}
use native.Mathlib.Omega.{arith}
use lib.Dec.{leb, ltb, eqb}
use lib.ListN.{length}
use borrow.Author.Tests.{leb-true, le-leb, ltb-true, lt-ltb, eqb-true, eq-eqb, ne_eqb}
use Rattle.meaning.specs.declared.Thread.{Thread}
use Rattle.meaning.specs.Table.{every}
use Rattle.meaning.specs.Limits.{least, most_threads, most_numbers, most_blocks, most_distance, within, in_limits}
use Rattle.meaning.specs.Store.{Store, idle}
use Rattle.meaning.specs.Holding.{proper}
use Rattle.meaning.specs.Programs.{WRITE, LEVEL, last_line}
use Rattle.meaning.specs.Call.{is_idle}
use Rattle.meaning.proofs.Base.Words.{either_way, clash, every_at, all-every, and_left, and_right, within_true}
use Rattle.meaning.proofs.Invariant.{Stands}
use Rattle.meaning.proofs.Acts.{NearBounded}
use Rattle.store.specs.declared.TheConstants.Store.{LONGEST}
use Rattle.store.specs.Layout.{t_at, n_at, p_at, d_at, size, largest}
use Rattle.store.specs.Live.{Live}
use Rattle.store.specs.Area.{word, decode, zeros, working, sound_thread, in_bounds, sound, fitted, well_formed}

-- ---- tests joined

pub and_both : {a b : Bool} → a ≡ true → b ≡ true → a && b ≡ true
and_both p q = rw (p, q)

-- seven tests; `true` stands for one that is not there
pub and_seven :
    (a b c d e f g : Bool) → a && b && c && d && e && f && g ≡ true →
    (a ≡ true) × (b ≡ true) × (c ≡ true) × (d ≡ true) × (e ≡ true) × (f ≡ true) × (g ≡ true)
and_seven a b c d e f g h₇ =
    let h₆ = and_left (a && b && c && d && e && f) g h₇ in
    let h₅ = and_left (a && b && c && d && e) f h₆ in
    let h₄ = and_left (a && b && c && d) e h₅ in
    let h₃ = and_left (a && b && c) d h₄ in
    let h₂ = and_left (a && b) c h₃ in (
      and_left a b h₂,
      and_right a b h₂,
      and_right (a && b) c h₃,
      and_right (a && b && c) d h₄,
      and_right (a && b && c && d) e h₅,
      and_right (a && b && c && d && e) f h₆,
      and_right (a && b && c && d && e && f) g h₇,
    )

-- ---- sizes

pub record Sizes (t n p d : ℕ) : Type 0 where
  pub t-low : least ≤ t
  pub t-high : t ≤ most_threads
  pub n-low : least ≤ n
  pub n-high : n ≤ most_numbers
  pub p-low : n + 1 ≤ p
  pub p-high : p ≤ most_blocks
  pub d-low : least ≤ d
  pub d-high : d ≤ most_distance

true_within : (low high x : ℕ) → low ≤ x → x ≤ high → within low high x ≡ true
true_within low high x l h = and_both (le-leb low x l) (le-leb x high h)

pub limits-sizes : (t n p d : ℕ) → in_limits t n p d ≡ true → Sizes t n p d
limits-sizes t n p d e =
    let z =
    and_seven true true true (within least most_threads t) (within least most_numbers n) (within (n + 1) most_blocks p)
    (within least most_distance d) e
    in
    let ft = within_true least most_threads t z.3 in
    let fn = within_true least most_numbers n z.4 in
    let fp = within_true (n + 1) most_blocks p z.5 in
    let fd = within_true least most_distance d z.6 in
    record {
      t-low = ft.0;
      t-high = ft.1;
      n-low = fn.0;
      n-high = fn.1;
      p-low = fp.0;
      p-high = fp.1;
      d-low = fd.0;
      d-high = fd.1;
    }

pub size_most : (t n p d : ℕ) → in_limits t n p d ≡ true → size t n p ≤ largest
size_most t n p d e = omega (arith, limits-sizes t n p d e)

-- the code's constant is that length
pub longest : LONGEST ≡ largest
longest = refl

pub sizes-limits : (t n p d : ℕ) → Sizes t n p d → in_limits t n p d ≡ true
sizes-limits t n p d z =
    and_both
    (and_both
    (and_both (true_within _ _ _ z.t-low z.t-high) (true_within _ _ _ z.n-low z.n-high))
    (true_within _ _ _ z.p-low z.p-high))
    (true_within _ _ _ z.d-low z.d-high)

-- ---- thread records

-- a record in its bounds, at a line of its operation
pub record Working (n p : ℕ) (r : Thread) : Type 0 where
  pub operation : r.op ≤ LEVEL
  pub line : (1 ≤ r.line) × (r.line ≤ last_line r.op)
  pub n-low : r.n < n
  pub p-low : r.p < p
  pub q-low : r.q < p
  pub h-low : r.h ≤ n

abbrev pub SoundThread : ℕ → ℕ → Thread → Type 0
SoundThread n p r = (r ≡ idle) ⊎ Working n p r

zeros-idle : (r : Thread) → zeros r ≡ true → r ≡ idle
zeros-idle r e =
    let z =
    and_seven (eqb r.op 0) (eqb r.line 0) (eqb r.n 0) (eqb r.c 0) (eqb r.p 0) (eqb r.q 0)
    (eqb r.h 0) e
    in
    λ i.
    record {
      op = eqb-true r.op 0 z.0 i;
      line = eqb-true r.line 0 z.1 i;
      n = eqb-true r.n 0 z.2 i;
      c = eqb-true r.c 0 z.3 i;
      p = eqb-true r.p 0 z.4 i;
      q = eqb-true r.q 0 z.5 i;
      h = eqb-true r.h 0 z.6 i;
    }

working-facts : (n p : ℕ) (r : Thread) → working n p r ≡ true → Working n p r
working-facts n p r e =
    let z =
    and_seven true (leb r.op LEVEL) (within 1 (last_line r.op) r.line) (ltb r.n n) (ltb r.p p)
    (ltb r.q p) (leb r.h n) e
    in
    record {
      operation = leb-true _ _ z.1;
      line = within_true 1 (last_line r.op) r.line z.2;
      n-low = ltb-true _ _ z.3;
      p-low = ltb-true _ _ z.4;
      q-low = ltb-true _ _ z.5;
      h-low = leb-true _ _ z.6;
    }

facts-working : (n p : ℕ) (r : Thread) → Working n p r → working n p r ≡ true
facts-working n p r w =
    and_both
    (and_both
    (and_both
    (and_both
    (and_both (le-leb _ _ w.operation) (true_within 1 (last_line r.op) r.line w.line.0 w.line.1))
    (lt-ltb _ _ w.n-low))
    (lt-ltb _ _ w.p-low))
    (lt-ltb _ _ w.q-low))
    (le-leb _ _ w.h-low)

pub thread-sound : (n p : ℕ) (r : Thread) → sound_thread n p r ≡ true → SoundThread n p r
thread-sound n p r e = by_op (eqb r.op 0) refl
  where
    by_op : (b : Bool) → eqb r.op 0 ≡ b → SoundThread n p r
    by_op true q = inl (zeros-idle r (rw q (rw q at e)))
    by_op false q = inr (working-facts n p r (rw q at e))

-- a thread at a line has an operation
working-busy : (n p : ℕ) (r : Thread) → Working n p r → eqb r.op 0 ≡ false
working-busy n p r w = ne_eqb r.op 0 λ e. (let z : last_line r.op ≡ 0 = rw e in omega arith)

pub sound-thread : (n p : ℕ) (r : Thread) → SoundThread n p r → sound_thread n p r ≡ true
sound-thread n p r (inl e) = rw e
sound-thread n p r (inr w) = rw (working-busy n p r w) (facts-working n p r w)

-- ---- the store

pub record Sound (s : Store) : Type 0 where
  pub sizes : Sizes s.threads s.numbers s.blocks s.distance
  pub lock : s.lock ≤ s.threads
  pub owner : s.owner ≤ s.threads
  pub thread : (t : ℕ) → t < s.threads → SoundThread s.numbers s.blocks (s.thread t)
  pub map : (n : ℕ) → n < s.numbers → s.map n ≤ s.blocks
  pub locks : (n : ℕ) → n < s.numbers → proper s.threads (s.locks n) ≡ true
  pub header : (m : ℕ) → m < s.blocks → s.header m ≤ s.numbers
  pub own : (m : ℕ) → m < s.blocks → proper s.threads (s.own m) ≡ true

-- no entry of a table is over a bound
table_bound : (f : ℕ → ℕ) (size bound : ℕ) → every size (λ k. leb (f k) bound) ≡ true → (k : ℕ) → k < size → f k ≤ bound
table_bound f size bound e k h = leb-true (f k) bound (every_at size (λ j. leb (f j) bound) e k h)

bound_table : (f : ℕ → ℕ) (size bound : ℕ) → ((k : ℕ) → k < size → f k ≤ bound) → every size (λ k. leb (f k) bound) ≡ true
bound_table f size bound h = all-every size (λ j. leb (f j) bound) (λ k l. le-leb (f k) bound (h k l))

pub sound-facts : (s : Store) → sound s ≡ true → Sound s
sound-facts s e =
    let limits = in_limits s.threads s.numbers s.blocks s.distance in
    let z =
    and_seven (leb s.lock s.threads) (leb s.owner s.threads)
    (every s.threads (λ t. sound_thread s.numbers s.blocks (s.thread t)))
    (every s.numbers (λ n. leb (s.map n) s.blocks))
    (every s.numbers (λ n. proper s.threads (s.locks n)))
    (every s.blocks (λ m. leb (s.header m) s.numbers))
    (every s.blocks (λ m. proper s.threads (s.own m))) (and_right limits (in_bounds s) e)
    in
    record {
      sizes = limits-sizes _ _ _ _ (and_left limits (in_bounds s) e);
      lock = leb-true _ _ z.0;
      owner = leb-true _ _ z.1;
      thread =
          λ t h. thread-sound _ _ _ (every_at s.threads (λ t. sound_thread s.numbers s.blocks (s.thread t)) z.2 t h);
      map = table_bound s.map _ _ z.3;
      locks = every_at s.numbers (λ n. proper s.threads (s.locks n)) z.4;
      header = table_bound s.header _ _ z.5;
      own = every_at s.blocks (λ m. proper s.threads (s.own m)) z.6;
    }

pub facts-sound : (s : Store) → Sound s → sound s ≡ true
facts-sound s f =
    and_both (sizes-limits _ _ _ _ f.sizes)
    (and_both
    (and_both
    (and_both
    (and_both
    (and_both
    (and_both (le-leb _ _ f.lock) (le-leb _ _ f.owner))
    (all-every s.threads (λ t. sound_thread s.numbers s.blocks (s.thread t)) (λ t h. sound-thread _ _ _ (f.thread t h))))
    (bound_table s.map _ _ f.map))
    (all-every s.numbers (λ n. proper s.threads (s.locks n)) f.locks))
    (bound_table s.header _ _ f.header))
    (all-every s.blocks (λ m. proper s.threads (s.own m)) f.own))

-- an open thread works, and stands at a line of its operation
pub open-working : {n p : ℕ} {r : Thread} → SoundThread n p r → is_idle r ≡ false → Working n p r
open-working (inl e) busy = clash refl (rw e at busy)
open-working (inr w) busy = w

pub working-stands : {n p : ℕ} {r : Thread} → Working n p r → Stands r
working-stands {r = r} w =
    let some : r.op ≡ 0 → ⊥ = λ e. (let low = w.line.0 in let high : r.line ≤ last_line 0 = rw e at w.line.1 in omega arith) in
    let op : within WRITE LEVEL r.op ≡ true = rw (le-leb WRITE r.op (omega arith)) (le-leb r.op LEVEL w.operation) in
    let line : within 1 (last_line r.op) r.line ≡ true =
    rw (le-leb 1 r.line w.line.0) (le-leb r.line (last_line r.op) w.line.1) in
    inr (rw op line)

-- the numbers near its line are in bounds
pub near-bounded : (s : Store) → Sound s → (t : ℕ) → t < s.threads → (r : Thread) → Working s.numbers s.blocks r → NearBounded s t r
near-bounded s S t below r w =
    record {
      thread = below;
      few = S.sizes.t-high;
      n = w.n-low;
      p = w.p-low;
      q = w.q-low;
      h = w.h-low;
      map = S.map r.n w.n-low;
      header = S.header r.p w.p-low;
    }

-- ---- the area

abbrev pub Fitted : List ℕ → Type 0
Fitted a = length a ≡ size (word a t_at) (word a n_at) (word a p_at)

-- well-formedness of the area is soundness of the decoded store
pub well_formed-sound : (a : List ℕ) → (well_formed a ≡ true) ↔ (Fitted a × Sound (decode a))
unfolding well_formed
well_formed-sound a = (
  λ e. (eqb-true _ _ (and_left (fitted a) (sound (decode a)) e), sound-facts (decode a) (and_right (fitted a) (sound (decode a)) e)),
  λ f. and_both (eq-eqb _ _ f.0) (facts-sound (decode a) f.1),
)

-- its threads stand at lines of their operations
pub formed-stands : (a : List ℕ) → well_formed a ≡ true → (t : ℕ) → Stands ((decode a).thread t)
formed-stands a f t =
    either_way (ltb t (word a t_at)) (λ b. sound (((well_formed-sound a).0 f).1.thread t (ltb-true t (word a t_at) b))) (λ b. inl (rw b))
  where
    sound : SoundThread (word a n_at) (word a p_at) ((decode a).thread t) → Stands ((decode a).thread t)
    sound (inl e) = inl e
    sound (inr w) = working-stands w

-- an area's sizes, read
pub record Head (a : List ℕ) (t n p d : ℕ) : Type 0 where
  pub threads : t ≡ word a t_at
  pub numbers : n ≡ word a n_at
  pub blocks : p ≡ word a p_at
  pub distance : d ≡ word a d_at

head-limits : {a : List ℕ} {t n p d : ℕ} → Head a t n p d → in_limits t n p d ≡ in_limits (word a t_at) (word a n_at) (word a p_at) (word a d_at)
head-limits h = λ i. in_limits (h.threads i) (h.numbers i) (h.blocks i) (h.distance i)

head-size : {a : List ℕ} {t n p d : ℕ} → Head a t n p d → size t n p ≡ size (word a t_at) (word a n_at) (word a p_at)
head-size h = λ i. size (h.threads i) (h.numbers i) (h.blocks i)

-- the two ways in which an area is refused by its head
pub well_formed_misfit : (a : List ℕ) → (Fitted a → ⊥) → false ≡ well_formed a
unfolding well_formed
well_formed_misfit a h = rw (ne_eqb _ _ h)

pub well_formed_outside : {a : List ℕ} {t n p d : ℕ} → Head a t n p d → in_limits t n p d ≡ false → false ≡ well_formed a
unfolding well_formed
well_formed_outside {a} h e = rw (sym (head-limits h) ∙ e) (sym (and-false (fitted a)))

pub well_formed-long : {a : List ℕ} {t n p d : ℕ} → Head a t n p d → (length a ≡ size t n p → ⊥) → false ≡ well_formed a
well_formed-long {a} h l = well_formed_misfit a λ f. l (f ∙ sym (head-size h))

-- and what is left to test
pub well_formed-bounds :
    {a : List ℕ} {t n p d : ℕ} → Head a t n p d → in_limits t n p d ≡ true → length a ≡ size t n p → in_bounds (decode a) ≡ well_formed a
unfolding well_formed
well_formed-bounds h e f = rw (eq-eqb _ _ (f ∙ head-size h), sym (head-limits h) ∙ e)

pub live-head : {a : List ℕ} {t n p d : ℕ} → Head a t n p d → in_limits t n p d ≡ true → length a ≡ size t n p → Live a t n p
live-head {t = t} {n = n} {p = p} {d = d} h e f =
    let z = limits-sizes t n p d e in
    record {
      threads = sym h.threads;
      numbers = sym h.numbers;
      blocks = sym h.blocks;
      few = (z.t-high, z.n-high, z.p-high);
      fits = f;
    }
