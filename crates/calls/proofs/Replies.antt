-- What each call comes to, case by case, in the order of its refusals; and what an opened area gives the functions that it is handed to. Assumes
-- nothing.
use mathlib.Core.Path.{◌≡◌, refl, ◌∙◌, sym, ap, subst}
use mathlib.Core.Bool.{Bool, true, false, not, ◌&&◌, ◌||◌}
use mathlib.Core.List.{List}
use Prim.Native.Nat.{ℕ, suc, ◌+◌, ◌*◌, ◌<◌, ◌≤◌}
use native.Mathlib.Omega.{arith}
use lib.Dec.{eqb, ltb, leb, leb-suc-suc}
use lib.ListN.{length}
use borrow.Author.Tests.{lt-ltb, le-ltb, lt-leb, le-leb, eq-eqb, ne_eqb, ltb-true, ltb-false}
use Rattle.meaning.specs.declared.Thread.{Thread}
use Rattle.meaning.specs.declared.Effect.{Effect}
use Rattle.meaning.specs.declared.Verdict.{Verdict}
use Rattle.meaning.specs.declared.Verdict.TheVariants.{Go, Done}
use Rattle.meaning.specs.Numbers.{WENT, SHAPE, THREAD, BUSY, IDLE, LOGICAL, OPERATION, LIMITS, packed}
use Rattle.meaning.specs.Limits.{within, in_limits}
use Rattle.meaning.specs.Store.{Store, fresh}
use Rattle.meaning.specs.Programs.{WRITE, LEVEL, act_at}
use Rattle.meaning.specs.Step.{perform, apply, nothing}
use Rattle.meaning.specs.Call.{Reply, Entry, begin, step, reply, told, begun, is_idle}
use Rattle.meaning.proofs.Base.Schedules.{reply_of}
use Rattle.store.specs.Layout.{t_at, n_at, p_at, threads_at, thread_words, size}
use Rattle.store.specs.Area.{Bytes, word, thread_from, encode, decode, well_formed}
use Rattle.store.specs.Live.{Live, Within}
use Rattle.store.specs.Calls.{call_area, begin_area, format_area}
use Rattle.store.proofs.LastLines.{few_lines}
use Rattle.store.proofs.Sound.{Sound, Working, open-working, well_formed-sound, near-bounded}
use Rattle.store.proofs.Codec.{encode-decode}
use Rattle.machine.specs.Judging.{Steady, AtLine}
use Rattle.machine.specs.Settling.{EffectInside, Stored}
use Rattle.machine.proofs.Inside.{VerdictInside, perform-inside}
use Rattle.calls.specs.declared.Operation.{Operation}
use Rattle.calls.specs.declared.Operation.TheVariants as operations
use Rattle.calls.specs.declared.Opened.{Opened}
use Rattle.std.specs.Prelude.{Ok}
use Rattle.calls.specs.declared.Accepted.TheVariants.{Went}
use Rattle.calls.specs.Means.{Replied}
use Rattle.calls.specs.Answering.{answered, operation_number}
use Rattle.calls.specs.Opening.{Opens}

-- ---- from a reply to a contract

abbrev pub refusal : ℕ → List ℕ → Reply (List ℕ)
refusal number a = reply_of number 0 a

pub reply_meets : {y : Reply (List ℕ)} (number value : ℕ) {b : List ℕ} {r : ℕ} {x : List ℕ} → y ≡ reply_of number value b → r ≡ packed number value → x ≡ b → Replied y r x
reply_meets number value e q i = rw e (q, i)

-- ---- what the machine leaves is what its store encodes to

pub stored_encoded : {a b : List ℕ} {t n p : ℕ} {s : Store} → Stored a b t n p s → Bytes b → b ≡ encode s
stored_encoded {b = b} r h =
    sym (encode-decode b h (r.live.fits ∙ (λ i. size (sym r.live.threads i) (sym r.live.numbers i) (sym r.live.blocks i))))
    ∙ ap encode r.decoded

-- ---- a well-formed area

module _ (a : List ℕ) (well : well_formed a ≡ true) where
  facts : Sound (decode a)
  facts = ((well_formed-sound a).0 well).1

  pub live-formed : Live a (word a t_at) (word a n_at) (word a p_at)
  live-formed =
      let z = facts.sizes in
      record {
        threads = refl;
        numbers = refl;
        blocks = refl;
        few = (z.t-high, z.n-high, z.p-high);
        fits = ((well_formed-sound a).0 well).0;
      }

  pub long-formed : 24 ≤ length a
  long-formed = omega (arith, live-formed.fits)

pub within-thread : {a : List ℕ} {k t n p : ℕ} → Live a t n p → k < t → Within a (threads_at + thread_words * k + 6)
within-thread live low = omega (arith, low, live.fits)

-- ---- the tests of begin, with the numbers as they are given

leb-ltb : (a b : ℕ) → leb a b ≡ not (ltb b a)
leb-ltb a b = by_test (ltb b a) refl
  where
    by_test : (x : Bool) → ltb b a ≡ x → leb a b ≡ not x
    by_test true e = lt-leb a b (ltb-true b a e)
    by_test false e = le-leb a b (ltb-false b a e)

both-not : (x y : Bool) → not x && not y ≡ not (x || y)
both-not true y = refl
both-not false y = refl

either_not : (x y : Bool) → x || not y ≡ not (not x && y)
either_not true y = refl
either_not false y = refl

operation-tested : (op : ℕ) {b : Bool} → ltb op WRITE || ltb LEVEL op ≡ b → within WRITE LEVEL op ≡ not b
operation-tested op e =
    (λ i. leb-ltb WRITE op i && leb-ltb op LEVEL i) ∙ both-not (ltb op WRITE) (ltb LEVEL op) ∙ ap not e

logical-tested : (op n numbers : ℕ) {b : Bool} → not (eqb op LEVEL) && leb numbers n ≡ b → eqb op LEVEL || ltb n numbers ≡ not b
logical-tested op n numbers e =
    ap (λ x. eqb op LEVEL || x) (ltb-leb n numbers) ∙ either_not (eqb op LEVEL) (leb numbers n) ∙ ap not e
  where
    ltb-leb : (x y : ℕ) → ltb x y ≡ not (leb y x)
    ltb-leb x y = leb-ltb (suc x) y ∙ ap not (shifted x y)
      where
        shifted : (x y : ℕ) → ltb y (suc x) ≡ leb y x
        shifted x y = leb-suc-suc y x

-- ---- the calls, a refusal after the other

pub call_shape : (a : List ℕ) (e : Entry) → well_formed a ≡ false → call_area a e ≡ refusal SHAPE a
call_shape a e n = rw n

module _ (a : List ℕ) (well : well_formed a ≡ true) {t k : ℕ} (size : t ≡ word a t_at) (high : t ≤ k) where
  past : ltb k (word a t_at) ≡ false
  past = le-ltb k (word a t_at) (omega arith)

  pub step-thread : call_area a (step k) ≡ refusal THREAD a
  step-thread = rw (well, past)

  pub begin-thread : (op n c : ℕ) → call_area a (begin k op n c) ≡ refusal THREAD a
  begin-thread op n c = rw (well, past)

-- ---- an opened area

within-operations : (x : Operation) → within WRITE LEVEL (operation_number x) ≡ true
within-operations operations.Write = refl
within-operations operations.Read = refl
within-operations operations.Unmap = refl
within-operations operations.Level = refl

-- what is known of a verdict v that step has judged: the area is opened, the call tells it, and its effect is within its tables
pub record Judged (a : List ℕ) (k : ℕ) (o : Opened) (v : Verdict) : Type 0 where
  pub opened : Opens a k o
  pub telling : call_area a (step k) ≡ reply encode a (told (decode a) k v)
  pub inside : VerdictInside (decode a) o.z.n o.z.p v

module _ {a : List ℕ} {k : ℕ} {o : Opened} (is : Opens a k o) where
  low : k < word a t_at
  low = omega (arith, is.below, is.live.threads)

  below : ltb k (word a t_at) ≡ true
  below = lt-ltb k (word a t_at) low

  read : o.r ≡ (decode a).thread k
  read = rw below is.as_read

  rests : {b : Bool} → eqb o.r.op 0 ≡ b → is_idle (thread_from (word a) (threads_at + thread_words * k)) ≡ b
  rests e = ap is_idle (sym is.as_read) ∙ e

  pub step-idle : o.r.op ≡ 0 → call_area a (step k) ≡ refusal IDLE a
  step-idle e = rw (is.well, below, rests (eq-eqb _ _ e))

  module _ (op n c : ℕ) where
    pub begin-busy : (o.r.op ≡ 0 → ⊥) → call_area a (begin k op n c) ≡ refusal BUSY a
    begin-busy busy = rw (is.well, below, rests (ne_eqb _ _ busy))

    pub begin-operation : o.r.op ≡ 0 → ltb op WRITE || ltb LEVEL op ≡ true → call_area a (begin k op n c) ≡ refusal OPERATION a
    begin-operation e w = rw (is.well, below, rests (eq-eqb _ _ e), operation-tested op w)

    module _ (e : o.r.op ≡ 0) (w : ltb op WRITE || ltb LEVEL op ≡ false) where
      numbered : {b : Bool} → not (eqb op LEVEL) && leb o.z.n n ≡ b → eqb op LEVEL || ltb n (word a n_at) ≡ not b
      numbered l = rw is.live.numbers (logical-tested op n o.z.n l)

      pub begin-logical : not (eqb op LEVEL) && leb o.z.n n ≡ true → call_area a (begin k op n c) ≡ refusal LOGICAL a
      begin-logical l = rw (is.well, below, rests (eq-eqb _ _ e), operation-tested op w, numbered l)

      pub begin-reply :
          not (eqb op LEVEL) && leb o.z.n n ≡ false →
          call_area a (begin k op n c) ≡ reply_of WENT 0 (encode (apply (decode a) k (begun op n c) nothing))
      begin-reply l = rw (is.well, below, rests (eq-eqb _ _ e), operation-tested op w, numbered l)

  -- the record that begin writes, for an operation, and for a number below N but for a levelling
  pub begin-went :
      (x : Operation) {op : ℕ} (n c : ℕ) → operation_number x ≡ op → o.r.op ≡ 0 → eqb (operation_number x) LEVEL || ltb n o.z.n ≡ true →
      {b : List ℕ} → Stored a b o.z.t o.z.n o.z.p (apply (decode a) o.k (begun (operation_number x) n c) nothing) → Bytes b →
      answered (Ok Went) b ≡ begin_area a k op n c
  begin-went x n c is-op e l r h =
      ap (answered (Ok Went)) (stored_encoded r h)
      ∙ (rw (is.index, is.live.numbers, is.well, below, rests (eq-eqb _ _ e), ← is-op, within-operations x, l))

  -- a thread that works, and what is judged of it
  module _ (busy : o.r.op ≡ 0 → ⊥) where
    works : Working (word a n_at) (word a p_at) o.r
    works =
        subst (Working (word a n_at) (word a p_at)) (sym read)
        (open-working ((facts a is.well).thread k low) (ap is_idle (sym read) ∙ ne_eqb _ _ busy))

    pub judge_asks : Live a o.z.t o.z.n o.z.p × Steady k o.r × AtLine o.r
    judge_asks =
        let l = live-formed a is.well in
        let w = works in (
          is.live,
          record {
            thread = omega (arith, low, l.few);
            line = omega (arith, w.line, few_lines o.r.op w.operation);
            n = omega (arith, w.n-low, l.few);
            p = omega (arith, w.p-low, l.few);
            q = omega (arith, w.q-low, l.few);
          },
          record { op = w.operation; low = w.line.0; high = w.line.1 },
        )

    pub judges : {v : Verdict} → v ≡ perform (act_at o.r.op o.r.line) (decode a) k o.r → Judged a k o v
    judges {v} e =
        let act = perform (act_at o.r.op o.r.line) (decode a) k o.r in
        record {
          opened = is;
          telling =
              rw (is.well, below, rests (ne_eqb _ _ busy))
              (ap (λ x. reply encode a (told (decode a) k x))
              (sym (e ∙ ap (λ x. perform (act_at x.op x.line) (decode a) k x) is.as_read)));
          inside =
              subst (VerdictInside (decode a) o.z.n o.z.p) (sym e)
              (subst (λ (n : ℕ). VerdictInside (decode a) n o.z.p act) is.live.numbers
              (subst (λ (p : ℕ). VerdictInside (decode a) (word a n_at) p act) is.live.blocks
              (perform-inside (decode a) k o.r (near-bounded (decode a) (facts a is.well) k low o.r works) (act_at o.r.op o.r.line))));
        }

-- what was judged is a verdict x
module _ {a : List ℕ} {k : ℕ} {o : Opened} {v : Verdict} (j : Judged a k o v) where
  pub step-told : {x : Verdict} → v ≡ x → call_area a (step k) ≡ reply encode a (told (decode a) k x)
  step-told q = j.telling ∙ ap (λ x. reply encode a (told (decode a) k x)) q

  pub settle_go : {x : Thread} {e : Effect} → v ≡ Go x e → Live a o.z.t o.z.n o.z.p × (k < o.z.t) × EffectInside (decode a) o.z.n o.z.p e
  settle_go q = (j.opened.live, j.opened.below, subst (VerdictInside (decode a) o.z.n o.z.p) q j.inside)

  pub settle_done : {x : ℕ} {e : Effect} → v ≡ Done x e → Live a o.z.t o.z.n o.z.p × (k < o.z.t) × EffectInside (decode a) o.z.n o.z.p e
  settle_done q = (j.opened.live, j.opened.below, subst (VerdictInside (decode a) o.z.n o.z.p) q j.inside)

-- ---- format

module _ (a : List ℕ) (t n p d : ℕ) where
  pub format-limits : in_limits t n p d ≡ false → format_area a t n p d ≡ refusal LIMITS a
  format-limits e = rw e

  pub format-shape : in_limits t n p d ≡ true → (length a ≡ size t n p → ⊥) → format_area a t n p d ≡ refusal SHAPE a
  format-shape e h = rw (e, ne_eqb (length a) (size t n p) h)

  pub format-went : in_limits t n p d ≡ true → length a ≡ size t n p → format_area a t n p d ≡ reply_of WENT 0 (encode (fresh t n p d))
  format-went e h = rw (e, eq-eqb (length a) (size t n p) h)
