-- Whole, over stores: in the run of an order's operations, one after the other, each begin goes, some steps of it go, one finishes it and
-- those that are left find its thread idle (`serial-whole`). Where all but one thread rest, that one can step, by progress; each step
-- that goes leads to a later line, so that it comes to its end.
-- Assumes nothing.
use mathlib.Core.Path.{◌≡◌, refl, sym, ap, ◌∙◌, subst}
use mathlib.Core.Bool.{Bool, true, false, ◌&&◌, ◌||◌, or-true}
use mathlib.Core.List.{List, [], ◌∷◌}
use Prim.Native.Nat.{ℕ, zero, suc, ◌+◌, ◌<◌, ◌≤◌}
use native.Mathlib.Omega.{arith}
use lib.Dec.{eqb, ltb}
use borrow.Author.Tests.{eqb-true, eqb-false, ne_eqb, lt-ltb}
use Rattle.meaning.specs.declared.Thread.{Thread}
use Rattle.meaning.specs.declared.Effect.{Effect}
use Rattle.meaning.specs.declared.Verdict.{Verdict}
use Rattle.meaning.specs.Numbers.{WENT, FINISHED, IDLE}
use Rattle.meaning.specs.Limits.{within, in_limits}
use Rattle.meaning.specs.Store.{Store, idle, fresh}
use Rattle.meaning.specs.Programs.{WRITE, LEVEL, last_line}
use Rattle.meaning.specs.Step.{nothing, apply}
use Rattle.meaning.specs.Call.{Reply, Entry, begin, step, call_store, is_idle, begun}
use Rattle.meaning.specs.Schedule.{Operation, emit, takes_last, replies, placing, order, steps, longest, serial}
use Rattle.meaning.specs.Demands.{times, RunsWhole, none_left, begun_went_finished, one_by_one}
use Rattle.meaning.proofs.Base.Words.{either_way, clash, and_left, and_right, within_true, upd_same, upd_other}
use Rattle.meaning.proofs.Base.Schedules.{reply_of}
use Rattle.meaning.proofs.Invariant.{Inv}
use Rattle.meaning.proofs.Invariant.Keeping.{moves-inv}
use Rattle.meaning.proofs.Lines.EveryLine.{open-line, begins}
use Rattle.meaning.proofs.Progress.{inv-fresh, inv-call, CanStep, SomeSteps, progress}
use Rattle.meaning.proofs.Progress.Called as called
use Rattle.meaning.proofs.Progress.Called.{CallCases, stays, opens, call_cases}
use Rattle.meaning.proofs.EitherOrder.{Goes, goes, ends, Going, left_by, can-going, going-reply, going-moves}
use Rattle.meaning.proofs.OneAtATime.Places.{Went, went, over, Came, going-came}
use Rattle.meaning.proofs.OneAtATime.Alone.{lines_end}
use Rattle.meaning.proofs.OneAtATime.LastLock.{work}

-- ---- an operation of the order can be begun

-- a store with so many threads and numbers lets an idle thread begin it
record Askable (threads numbers : ℕ) (o : Operation) : Type 0 where
  below : o.thread < threads
  known : within WRITE LEVEL o.op ≡ true
  numbered : o.number < numbers

abbrev AllAskable : ℕ → ℕ → List Operation → Type 0
AllAskable threads numbers [] = Unit {0}
AllAskable threads numbers (o ∷ l) = Askable threads numbers o × AllAskable threads numbers l

emit-askable : (threads numbers : ℕ) (b : Bool) (o : Operation) (l : List Operation) → (b ≡ true → Askable threads numbers o) →
    AllAskable threads numbers l → AllAskable threads numbers (emit b o l)
emit-askable threads numbers true o l asks rest = (asks refl, rest)
emit-askable threads numbers false o l asks rest = rest

record SameCounts (s s' : Store) : Type 0 where
  threads : s'.threads ≡ s.threads
  numbers : s'.numbers ≡ s.numbers

called-counts : (s : Store) {e : Entry} → CallCases s e → SameCounts s (call_store s e).after
called-counts s (stays number _ _ x) = rw x (record { threads = refl; numbers = refl })
called-counts s (opens t op n c _ _ _ x) = rw x (record { threads = refl; numbers = refl })
called-counts s (called.goes t r' e _ _ _ x) = rw x (record { threads = refl; numbers = refl })
called-counts s (called.ends t value e _ _ _ x) = rw x (record { threads = refl; numbers = refl })

step-askable : (s : Store) → Inv s → (t : ℕ) → eqb (call_store s (step t)).number WENT ≡ true →
    Askable s.threads s.numbers (work t (s.thread t))
step-askable s I t w =
    let r = s.thread t in
    let g = can-going s t (rw (eqb-true (call_store s (step t)).number WENT w)) in
    let n = (I.facts t).n-below in
    record {
      below = g.below;
      known = and_left (within WRITE LEVEL r.op) _ (open-line r (I.stands t) g.busy);
      numbered = either_way (eqb r.op LEVEL) (λ x. rw x (omega arith)) (λ x. rw x n);
    }

order-askable : (w : List Entry) (s : Store) → Inv s → AllAskable s.threads s.numbers (order call_store (λ s. s) s w)
order-askable [] s I = tt
order-askable (e ∷ w) s I =
    let s' = (call_store s e).after in
    let c = called-counts s (call_cases s I e) in
    let l = order call_store (λ s. s) s' w in
    go e l
    (subst (λ (k : ℕ). AllAskable k s.numbers l) c.threads
    (subst (λ (k : ℕ). AllAskable s'.threads k l) c.numbers (order-askable w s' (inv-call s I e))))
  where
    go : (e : Entry) (l : List Operation) → AllAskable s.threads s.numbers l →
        AllAskable s.threads s.numbers (placing call_store (λ s. s) s e l)
    go (begin t op n c) l rest = rest
    go (step t) l rest =
        emit-askable s.threads s.numbers (eqb (call_store s (step t)).number WENT && takes_last s (s.thread t))
        (work t (s.thread t)) l (λ x. step-askable s I t (and_left (eqb (call_store s (step t)).number WENT) _ x)) rest

-- ---- a thread alone at work comes to its end

-- nobody but t is at work
abbrev AloneAtWork : Store → ℕ → Type 0
AloneAtWork s t = (v : ℕ) → (t ≡ v → ⊥) → is_idle (s.thread v) ≡ true

abbrev AllIdle : Store → Type 0
AllIdle s = (v : ℕ) → is_idle (s.thread v) ≡ true

alone-steps : (s : Store) → Inv s → (t : ℕ) → t < s.threads → is_idle (s.thread t) ≡ false → AloneAtWork s t → CanStep s t
alone-steps s I t below busy alone = go (progress s I t below busy)
  where
    go : SomeSteps s → CanStep s t
    go x =
        either_way (eqb t x.0) (λ e. rw (sym (eqb-true t x.0 e)) at x.3)
        (λ e. clash (alone x.0 (eqb-false t x.0 e)) x.2)

-- steps of an idle thread
idle-replies : (k : ℕ) (s : Store) (t : ℕ) → t < s.threads → is_idle (s.thread t) ≡ true → (w : List Entry) →
    replies call_store s (steps k t w) ≡ times k (IDLE, 0) (replies call_store s w)
idle-replies zero s t below rests w = refl
idle-replies (suc k) s t below rests w =
    rw (lt-ltb t s.threads below, rests) (ap (λ (l : List (ℕ × ℕ)). (IDLE, 0) ∷ l) (idle-replies k s t below rests w))

-- k steps of t, alone at work: some go, one finishes, and the others find it idle; all are idle then
record Ended (s : Store) (t k : ℕ) : Type 0 where
  going : ℕ
  value : ℕ
  left : ℕ
  lines : going + (s.thread t).line ≤ last_line (s.thread t).op
  all : going + 1 + left ≡ k
  after : Store
  inv : Inv after
  rest : AllIdle after
  counts : SameCounts s after
  replied : (w : List Entry) → replies call_store s (steps k t w) ≡
      times going (WENT, 0) ((FINISHED, value) ∷ times left (IDLE, 0) (replies call_store after w))

-- a step that goes and doesn't finish has the value 0
went-value : {v : Verdict} {n x : ℕ} {r : Thread} {e : Effect} → Goes v n x r e → n ≡ WENT → x ≡ 0
went-value goes w = refl
went-value ends w = absurd (omega arith)

module _ (s : Store) (I : Inv s) (t : ℕ) (alone : AloneAtWork s t) (g : Going s t) where
  abbrev next : Store
  next = left_by s t g

  next-inv : Inv next
  next-inv = moves-inv s I t g.becomes g.effect (going-moves s t I g) g.below

  now : next.thread t ≡ g.becomes
  now = upd_same s.thread t g.becomes

  next-alone : AloneAtWork next t
  next-alone v apart = rw (upd_other s.thread t v g.becomes apart) (alone v apart)

  -- the first of the replies, and the others
  next-replies : (w : List Entry) → replies call_store s (step t ∷ w) ≡ (g.number, g.value) ∷ replies call_store next w
  next-replies w = ap (λ (x : Reply Store). (x.number, x.value) ∷ replies call_store x.after w) (going-reply s t g)

  on_line : (s.thread t).line ≤ last_line (s.thread t).op
  on_line =
      (within_true 1 (last_line (s.thread t).op) (s.thread t).line
      (and_right (within WRITE LEVEL (s.thread t).op) _ (open-line (s.thread t) (I.stands t) g.busy))).1

  stops : (k : ℕ) → g.number ≡ FINISHED → g.becomes ≡ idle → Ended s t (suc k)
  stops k w is =
      let rests : is_idle (next.thread t) ≡ true = rw (now, is) in
      record {
        going = 0;
        value = g.value;
        left = k;
        lines = let x = on_line in omega arith;
        all = omega arith;
        after = next;
        inv = next-inv;
        rest = λ v. either_way (eqb t v) (λ e. rw (sym (eqb-true t v e)) rests) (λ e. next-alone v (eqb-false t v e));
        counts = record { threads = refl; numbers = refl };
        replied =
            λ v. next-replies (steps k t v) ∙ rw w (ap (λ (l : List (ℕ × ℕ)). (FINISHED, g.value) ∷ l)
            (idle-replies k next t g.below rests v));
      }

  goes_on : (k : ℕ) → g.number ≡ WENT → Went s t g.becomes g.effect → Ended next t k → Ended s t (suc k)
  goes_on k w W E =
      let up = W.up in
      let lines : E.going + g.becomes.line ≤ last_line (s.thread t).op = rw (now, W.op) at E.lines in
      record {
        going = suc E.going;
        value = E.value;
        left = E.left;
        lines = omega arith;
        all = let x = E.all in omega arith;
        after = E.after;
        inv = E.inv;
        rest = E.rest;
        counts = record { threads = E.counts.threads; numbers = E.counts.numbers };
        replied =
            λ v. next-replies (steps k t v)
            ∙ rw (w, went-value g.told' w) (ap (λ (l : List (ℕ × ℕ)). (WENT, 0) ∷ l) (E.replied v));
      }

  -- it ends now, or later if it ends from the next line on
  came-ends : (k : ℕ) → longest < (s.thread t).line + suc k →
      (is_idle (next.thread t) ≡ false → longest < (next.thread t).line + k → Ended next t k) →
      Came s t g.number g.becomes g.effect → Ended s t (suc k)
  came-ends k b later (over w is _) = stops k w is
  came-ends k b later (went w W) =
      let up = W.up in
      goes_on k w W (later (rw (now, W.op) g.busy) (rw now (omega arith)))

alone-ends : (k : ℕ) (s : Store) → Inv s → (t : ℕ) → t < s.threads → is_idle (s.thread t) ≡ false → AloneAtWork s t →
    longest < (s.thread t).line + k → Ended s t k
alone-ends zero s I t below busy alone b = absurd (let x = lines_end s I t in omega arith)
alone-ends (suc k) s I t below busy alone b =
    let g = can-going s t (alone-steps s I t below busy alone) in
    came-ends s I t alone g k b
    (λ busy' b'. alone-ends k (left_by s t g) (next-inv s I t alone g) t below busy' (next-alone s I t alone g) b')
    (going-came s I t g)

-- ---- one after the other

module _ (s : Store) (I : Inv s) (rest : AllIdle s) (o : Operation) (A : Askable s.threads s.numbers o) where
  abbrev opened : Store
  opened = apply s o.thread (begun o.op o.number o.word) nothing

  logical : (eqb o.op LEVEL || ltb o.number s.numbers) ≡ true
  logical = rw (lt-ltb o.number s.numbers A.numbered) (or-true (eqb o.op LEVEL))

  opened-inv : Inv opened
  opened-inv =
      moves-inv s I o.thread (begun o.op o.number o.word) nothing
      (begins s I o.thread (rest o.thread) o.op o.number o.word A.known logical) A.below

  begin-goes : call_store s (begin o.thread o.op o.number o.word) ≡ reply_of WENT 0 opened
  begin-goes = rw (lt-ltb o.thread s.threads A.below, rest o.thread, A.known, logical)

  opened-ends : Ended opened o.thread longest
  opened-ends =
      let is : opened.thread o.thread ≡ begun o.op o.number o.word = upd_same s.thread o.thread _ in
      let op = within_true WRITE LEVEL o.op A.known in
      alone-ends longest opened opened-inv o.thread A.below (rw is (ne_eqb o.op 0 (λ e. omega arith)))
      (λ v apart. rw (upd_other s.thread o.thread v (begun o.op o.number o.word) apart) (rest v))
      (rw is (omega arith))

whole_from : (l : List Operation) (s : Store) → Inv s → AllIdle s → AllAskable s.threads s.numbers l →
    RunsWhole l (replies call_store s (serial l))
whole_from [] s I rest all = none_left
whole_from (o ∷ l) s I rest all =
    let E = opened-ends s I rest o all.0 in
    let is : (opened s I rest o all.0).thread o.thread ≡ begun o.op o.number o.word = upd_same s.thread o.thread _ in
    let lines : E.going + 1 ≤ last_line o.op = rw is at E.lines in
    subst (RunsWhole (o ∷ l))
    (sym (ap (λ (x : Reply Store). (x.number, x.value) ∷ replies call_store x.after (steps longest o.thread (serial l)))
    (begin-goes s I rest o all.0)
    ∙ ap (λ (m : List (ℕ × ℕ)). (WENT, 0) ∷ m) (E.replied (serial l))))
    (begun_went_finished E.going E.value E.left (omega arith) E.all
    (whole_from l E.after E.inv E.rest
    (subst (λ (k : ℕ). AllAskable k E.after.numbers l) (sym E.counts.threads)
    (subst (λ (k : ℕ). AllAskable s.threads k l) (sym E.counts.numbers) all.1))))

pub serial-whole : (t n p d : ℕ) → in_limits t n p d ≡ true → (w : List Entry) →
    RunsWhole (order call_store (λ s. s) (fresh t n p d) w)
    (replies call_store (fresh t n p d) (one_by_one call_store (λ s. s) (fresh t n p d) w))
serial-whole t n p d limits w =
    let I = inv-fresh t n p d limits in
    whole_from (order call_store (λ s. s) (fresh t n p d) w) (fresh t n p d) I (λ v. refl) (order-askable w (fresh t n p d) I)
