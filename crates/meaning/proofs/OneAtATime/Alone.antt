-- A thread alone: the store in which nobody but t is at work, `alone t s`. A step of t does there what it does in s; so a thread that has
-- its place comes there to what it comes to in s, and within as many steps as the longest program has lines.
-- Assumes nothing.
use Rattle.std.specs.Prelude.{Option, Some, None}
use mathlib.Core.Path.{◌≡◌, refl, sym, ap, ◌∙◌, subst, fun_ext}
use mathlib.Core.Bool.{Bool, true, false, cond, or-true}
use mathlib.Core.List.{List, [], ◌∷◌}
use Prim.Native.Nat.{ℕ, zero, suc, ◌+◌, ◌-◌, ◌<◌}
use native.Mathlib.Omega.{arith}
use lib.Dec.{eqb, ltb, leb}
use borrow.Author.Tests.{not-false, eqb-true, eqb-false, leb-true}
use Rattle.meaning.specs.declared.Kind.{Kind}
use Rattle.meaning.specs.declared.Kind.TheVariants.{Reader, Writer}
use Rattle.meaning.specs.declared.Act.{Act}
use Rattle.meaning.specs.declared.Thread.{Thread}
use Rattle.meaning.specs.declared.Pass.{Pass}
use Rattle.meaning.specs.declared.Effect.{Effect}
use Rattle.meaning.specs.declared.Verdict.TheVariants.{Blocked, Fault}
use Rattle.meaning.specs.Table.{upd}
use Rattle.meaning.specs.Store.{Store, idle}
use Rattle.meaning.specs.Holding.{none, free, by, held_by, mark, held, admits}
use Rattle.meaning.specs.Programs.{act_at}
use Rattle.meaning.specs.Step.{block, perform, verdict, become, put, came, apply}
use Rattle.meaning.specs.Needs.{Need, holds-h, holds-n, unowned_headers, ownable, owns-headers, owns, owns_either, headed, some-free, met, all_met, Asks, takes-h, takes-n, needs, no_line, asks, fails, waits}
use Rattle.meaning.specs.Call.{Reply, step, call_store, is_idle}
use Rattle.meaning.specs.Schedule.{Answered, placed, run, finished_by, steps, longest}
use Rattle.meaning.proofs.Base.Words.{same, either_way, and_left, and_right, or_way, by_held, held_is, none-held, upd_same, upd_other}
use Rattle.meaning.proofs.Base.Sets.{kind_same, admits-lacks, joins_self, quits_self, mark-held, writer-writes, free-admits}
use Rattle.meaning.proofs.Base.Schedules.{reply_of}
use Rattle.meaning.proofs.Invariant.{holds_h, holds_lock, owns_headers, owns_block, takes_h, takes_lock, Passes, takes, gives_up, Joins, leaves_all, joins, quits, Becomes, Guards, Inv}
use Rattle.meaning.proofs.Invariant.Keeping.{everywhere}
use Rattle.meaning.proofs.Acts.{Sight, map_of_n, headers, all-wear, content_of_p, shape, was_ready, SameSights, same_deed}
use Rattle.meaning.proofs.Lines.EveryLine.{idle_is}
use Rattle.meaning.proofs.Progress.{inv-call, no_fault}
use Rattle.meaning.proofs.EitherOrder.{Going, left_by, going-reply, going-moves, goes-unblocked}
use Rattle.meaning.proofs.OneAtATime.Places.{went, over, Came, going-came, placed-going, placed-kept}
use Rattle.meaning.proofs.OneAtATime.Settles.{cleared, stepped, stepped_is, answering, SettlesTo, rest, more}

-- ---- what is said

-- H's word or the headers' owner, if it is t's
abbrev mine : ℕ → ℕ → ℕ
mine t w = cond (held_by t w) w none

-- what t adds to a word that has readers or a writer
abbrev share : ℕ → ℕ → ℕ
share t w = cond (held Reader t w) (mark Reader t) (cond (held Writer t w) (mark Writer t) none)

abbrev pub alone : ℕ → Store → Store
alone t s =
    record {
      threads = s.threads;
      numbers = s.numbers;
      blocks = s.blocks;
      distance = s.distance;
      lock = mine t s.lock;
      owner = mine t s.owner;
      thread = λ v. cond (eqb t v) (s.thread v) idle;
      map = s.map;
      locks = λ k. share t (s.locks k);
      header = s.header;
      content = s.content;
      wear = s.wear;
      own = λ m. share t (s.own m);
    }

-- ---- a step of a thread alone

mine-held : (t w : ℕ) → held_by t (mine t w) ≡ held_by t w
mine-held t w = either_way (held_by t w) (λ h. rw (h, h)) (λ h. rw (h, none-held t))

mine-free : (t w : ℕ) → free w ≡ true → free (mine t w) ≡ true
mine-free t w f = either_way (held_by t w) (λ h. rw h f) (λ h. rw h)

share_is : (κ : Kind) (t w : ℕ) → held κ t w ≡ true → share t w ≡ mark κ t
share_is Reader t w h = rw h
share_is Writer t w h = rw (writer-writes t w h, h)

share-none : (t w : ℕ) → ((κ : Kind) → held κ t w ≡ false) → share t w ≡ none
share-none t w lacks = rw (lacks Reader, lacks Writer)

share-held : (κ : Kind) (t w : ℕ) → held κ t w ≡ true → held κ t (share t w) ≡ true
share-held κ t w h = ap (held κ t) (share_is κ t w h) ∙ mark-held κ t w h

share-admits : (κ : Kind) (t w : ℕ) → admits κ t w ≡ true → admits κ t (share t w) ≡ true
share-admits κ t w a = rw (share-none t w (λ κ'. admits-lacks κ κ' t w a)) (free-admits κ t none refl)

-- what an act needs, t has alone too, and sees the same
module _ (s : Store) (t : ℕ) (r : Thread) where
  met-alone : (x : Need) → met s t r x ≡ true → met (alone t s) t r x ≡ true
  met-alone holds-h m = mine-held t s.lock ∙ m
  met-alone (holds-n κ) m = share-held κ t (s.locks r.n) m
  met-alone unowned_headers m = mine-free t s.owner m
  met-alone (ownable κ b) m = share-admits κ t (s.own (block b r)) m
  met-alone owns-headers m = mine-held t s.owner ∙ m
  met-alone (owns κ b) m = share-held κ t (s.own (block b r)) m
  met-alone (owns_either b) m =
      let w = s.own (block b r) in
      or_way (held Reader t w) (held Writer t w) m (λ h. rw (share-held Reader t w h))
      (λ h. rw (share-held Writer t w h) (or-true (held Reader t (share t w))))
  met-alone (headed b) m = m
  met-alone some-free m = m

  all-alone : (l : List Need) → all_met s t r l ≡ true → all_met (alone t s) t r l ≡ true
  all-alone [] m = refl
  all-alone (x ∷ l) m =
      rw (met-alone x (and_left (met s t r x) _ m)) (all-alone l (and_right (met s t r x) _ m))

  fails-alone : (a : Asks) → fails s t r a ≡ false → fails (alone t s) t r a ≡ false
  fails-alone takes-h m = m
  fails-alone (takes-n κ) m = m
  fails-alone (needs l) m = rw (all-alone l (not-false (all_met s t r l) m))
  fails-alone no_line m = m

  waits-alone : (a : Asks) → waits s t r a ≡ false → waits (alone t s) t r a ≡ false
  waits-alone takes-h w = rw (mine-free t s.lock (not-false (free s.lock) w))
  waits-alone (takes-n κ) w = rw (share-admits κ t (s.locks r.n) (not-false (admits κ t (s.locks r.n)) w))
  waits-alone (needs l) w = w
  waits-alone no_line w = w

  sights_alone : (l : List Sight) → SameSights s (alone t s) r l
  sights_alone [] = tt
  sights_alone (map_of_n ∷ l) = (refl, sights_alone l)
  sights_alone (headers ∷ l) = (refl, sights_alone l)
  sights_alone (all-wear ∷ l) = (refl, sights_alone l)
  sights_alone (content_of_p ∷ l) = (refl, sights_alone l)

  perform-alone : (a : Act) → (perform a s t r ≡ Blocked → ⊥) → (perform a s t r ≡ Fault → ⊥) →
      perform a (alone t s) t r ≡ perform a s t r
  perform-alone a b x =
      let ready = was_ready a s t r b x in
      same_deed s (alone t s) t r refl refl a (sights_alone (shape a).looks) ready
      (record { met = fails-alone (asks a) ready.met; unblocked = waits-alone (asks a) ready.unblocked })

passes-mine : {about : Type 0} (t w w' : ℕ) → Passes about t w w' → w' ≡ mine t w'
passes-mine t w w' (takes _ _ e) = rw (e, by_held t)
passes-mine t w w' (gives_up _ e) = rw (e, none-held t)

word-alone : (about : Type 0) (t : ℕ) (c : Option ℕ) (w : ℕ) → Becomes c (Passes about t w) → become c (mine t w) ≡ mine t (become c w)
word-alone about t None w x = refl
word-alone about t (Some w') w x = passes-mine t w w' x

entry-alone : (about : Kind → ℕ → Type 0) (t : ℕ) (c : Pass) (f : ℕ → ℕ) → Joins about t f c →
    put (came (λ k. share t (f k)) c) (λ k. share t (f k)) ≡ (λ k. share t (put (came f c) f k))
entry-alone about t c f leaves_all = refl
entry-alone about t c f (joins κ i b a _) =
    let w = f i in
    let before = share-none t w (λ κ'. admits-lacks κ κ' t w a) in
    let after = share_is κ t (w + mark κ t) (joins_self κ κ t w b a ∙ kind_same κ) in
    fun_ext (λ k. either_way (eqb i k) (λ e. rw (e, after) (ap (λ x. x + mark κ t) before ∙ omega arith)) (λ e. rw e))
entry-alone about t c f (quits κ i h) =
    let w = f i in
    let before = share_is κ t w h in
    let after = share-none t (w - mark κ t) (λ κ'. quits_self κ κ' t w h) in
    fun_ext (λ k. either_way (eqb i k) (λ e. rw (e, after) (ap (λ x. x - mark κ t) before ∙ omega arith)) (λ e. rw e))

-- t's new record, where nobody else is at work
pub threads-alone : (t : ℕ) (f g : ℕ → Thread) (r' : Thread) → g t ≡ r' →
    upd (λ v. cond (eqb t v) (f v) idle) t r' ≡ (λ v. cond (eqb t v) (g v) idle)
threads-alone t f g r' is =
    fun_ext (λ v. either_way (eqb t v) (λ e. rw (e, ← eqb-true t v e) (sym is)) (λ e. rw e))

apply-alone : (s : Store) (t : ℕ) (r r' : Thread) (e : Effect) → Guards s t r e →
    apply (alone t s) t r' e ≡ alone t (apply s t r' e)
apply-alone s t r r' e G =
    λ i. record {
      threads = s.threads;
      numbers = s.numbers;
      blocks = s.blocks;
      distance = s.distance;
      lock = word-alone (takes_h r ≡ true) t e.lock s.lock G.lock i;
      owner = word-alone Unit t e.owner s.owner G.owner i;
      thread = threads-alone t s.thread (upd s.thread t r') r' (upd_same s.thread t r') i;
      map = put e.map s.map;
      locks = entry-alone (λ κ k. takes_lock κ r k ≡ true) t e.locks s.locks G.locks i;
      header = put e.header s.header;
      content = put e.content s.content;
      wear = put e.wear s.wear;
      own = entry-alone (λ κ m. Unit) t e.own s.own G.own i;
    }

module _ (s : Store) (I : Inv s) (t : ℕ) (g : Going s t) where
  abbrev going-alone : Going (alone t s) t
  going-alone =
      record {
        below = g.below;
        busy = rw (same t) g.busy;
        number = g.number;
        value = g.value;
        becomes = g.becomes;
        effect = g.effect;
        told' =
            rw (
              same t,
              perform-alone s t (s.thread t) (act_at (s.thread t).op (s.thread t).line)
                  (goes-unblocked s t (verdict s t) g.number g.value g.becomes g.effect g.told')
                  (no_fault s I t g.below g.busy),
            ) g.told';
      }

  pub step-alone : call_store (alone t s) (step t) ≡
      reply_of g.number g.value (alone t (left_by s t g))
  step-alone =
      going-reply (alone t s) t going-alone
      ∙ ap (reply_of g.number g.value)
      (apply-alone s t (s.thread t) g.becomes g.effect (going-moves s t I g).guards)

  -- the answer is the same
  pub answering-alone : (u : ℕ) (l : List Answered) → answering (alone t s) t u l ≡ answering s t u l
  answering-alone u l = rw (step-alone, going-reply s t g, same t)

  pub stepped-alone : stepped (alone t s) t ≡ alone t (stepped s t)
  stepped-alone =
      ap (λ (x : Reply Store). x.after) step-alone
      ∙ sym (ap (alone t) (stepped_is s t g))

-- ---- a thread at rest

-- its steps are refused
pub idle-steps : (x : Store) (t : ℕ) → is_idle (x.thread t) ≡ true →
    (call_store x (step t)).after ≡ x
idle-steps x t rests = either_way (ltb t x.threads) (λ b. rw (b, rests)) (λ b. rw b)

idle_unanswered : (x : Store) (t : ℕ) → is_idle (x.thread t) ≡ true → (u : ℕ) (l : List Answered) → answering x t u l ≡ l
idle_unanswered x t rests u l = either_way (ltb t x.threads) (λ b. rw (b, rests)) (λ b. rw b)

idle-run : (k : ℕ) (x : Store) (t : ℕ) → is_idle (x.thread t) ≡ true → run call_store x (steps k t []) ≡ x
idle-run zero x t rests = refl
idle-run (suc k) x t rests = ap (λ (y : Store). run call_store y (steps k t [])) (idle-steps x t rests) ∙ idle-run k x t rests

idle-answers : (k : ℕ) (x : Store) (t : ℕ) → is_idle (x.thread t) ≡ true → (u : ℕ) →
    finished_by call_store (λ s. s) x u (steps k t []) ≡ []
idle-answers zero x t rests u = refl
idle-answers (suc k) x t rests u = idle_unanswered x t rests u _
    ∙ ap (λ (y : Store). finished_by call_store (λ s. s) y u (steps k t [])) (idle-steps x t rests) ∙ idle-answers k x t rests u

-- t alone is at work, and has no number's lock and no block
abbrev pub with-threads : Store → (ℕ → Thread) → ℕ → ℕ → Store
with-threads s f l o =
    record {
      threads = s.threads;
      numbers = s.numbers;
      blocks = s.blocks;
      distance = s.distance;
      lock = l;
      owner = o;
      thread = f;
      map = s.map;
      locks = λ _. none;
      header = s.header;
      content = s.content;
      wear = s.wear;
      own = λ _. none;
    }

abbrev pub solo : Store → ℕ → Thread → ℕ → ℕ → Store
solo s t r l o = with-threads s (λ v. cond (eqb t v) r idle) l o

-- t's words, from what its record says
mine-if : (t w : ℕ) (flag : Bool) → held_by t w ≡ flag → mine t w ≡ cond flag (by t) none
mine-if t w true h = rw h (held_is t w h)
mine-if t w false h = rw h

pub alone-solo : (s : Store) → Inv s → (t : ℕ) (r : Thread) → s.thread t ≡ r → ((κ : Kind) (k : ℕ) → holds_lock κ r k ≡ false) →
    ((κ : Kind) (m : ℕ) → owns_block κ r m ≡ false) →
    alone t s ≡ solo s t r (cond (holds_h r) (by t) none) (cond (owns_headers r) (by t) none)
alone-solo s I t r is locks own =
    λ i. record {
      threads = s.threads;
      numbers = s.numbers;
      blocks = s.blocks;
      distance = s.distance;
      lock = mine-if t s.lock (holds_h r) ((I.holds t).lock ∙ ap holds_h is) i;
      owner = mine-if t s.owner (owns_headers r) ((I.holds t).owner ∙ ap owns_headers is) i;
      thread = threads i;
      map = s.map;
      locks = λ k. share-none t (s.locks k) (λ κ. (I.holds t).locks κ k ∙ ap (λ (r : Thread). holds_lock κ r k) is ∙ locks κ k) i;
      header = s.header;
      content = s.content;
      wear = s.wear;
      own = λ m. share-none t (s.own m) (λ κ. (I.holds t).own κ m ∙ ap (λ (r : Thread). owns_block κ r m) is ∙ own κ m) i;
    }
  where
    threads : ◌≡◌ {A = ℕ → Thread} (λ v. cond (eqb t v) (s.thread v) idle) (λ v. cond (eqb t v) r idle)
    threads = fun_ext (λ v. either_way (eqb t v) (λ e. rw (e, ← eqb-true t v e) is) (λ e. rw e))

alone-idle : (s : Store) → Inv s → (t : ℕ) → s.thread t ≡ idle → alone t s ≡ cleared s
alone-idle s I t is =
    alone-solo s I t idle is (λ κ k. refl) (λ κ m. refl)
    ∙ ap (λ (f : ℕ → Thread). with-threads s f none none)
    (fun_ext (λ v. either_way (eqb t v) (λ e. rw e) (λ e. rw e)))

-- ---- a thread that has its place runs to its end

-- t is at rest, or has its place and no more lines before it than k
pub data EndsWithin (t k : ℕ) (s : Store) : Type 0 where
  resting : is_idle (s.thread t) ≡ true → EndsWithin t k s
  going : placed s (s.thread t) ≡ true → longest < (s.thread t).line + k → EndsWithin t k s

-- nobody but t has a place
abbrev pub NobodyBut : ℕ → Store → Type 0
NobodyBut t s = (v : ℕ) → (t ≡ v → ⊥) → placed s (s.thread v) ≡ false

-- what a thread alone comes to in k steps, and answers
abbrev pub ends_as : ℕ → ℕ → Store → Store
ends_as k t x = run call_store x (steps k t [])

abbrev pub ends_with : ℕ → ℕ → Store → ℕ → List Answered
ends_with k t x u = finished_by call_store (λ s. s) x u (steps k t [])

pub lines_end : (s : Store) → Inv s → (t : ℕ) → (s.thread t).line < longest + 1
lines_end s I t =
    let b = leb-true (s.thread t).line longest (everywhere (λ op line. leb line longest) refl (s.thread t) (I.stands t)) in
    omega arith

idle-settles : (k : ℕ) (s : Store) → Inv s → (t : ℕ) → NobodyBut t s → is_idle (s.thread t) ≡ true →
    SettlesTo s (ends_as k t (alone t s)) (ends_with k t (alone t s))
idle-settles k s I t nobody rests =
    let is = idle_is (s.thread t) (I.stands t) rests in
    let rests' : is_idle ((alone t s).thread t) ≡ true = rw (same t) rests in
    let nobody' : (v : ℕ) → placed s (s.thread v) ≡ false =
    λ v. either_way (eqb t v) (λ e. rw (← eqb-true t v e, is)) (λ e. nobody v (eqb-false t v e)) in
    rest nobody'
    (idle-run k (alone t s) t rests' ∙ alone-idle s I t is)
    (idle-answers k (alone t s) t rests')

-- one step more
step-settles : (k : ℕ) (s : Store) → Inv s → (t : ℕ) → placed s (s.thread t) ≡ true →
    SettlesTo (stepped s t) (ends_as k t (alone t (stepped s t))) (ends_with k t (alone t (stepped s t))) →
    SettlesTo s (ends_as (suc k) t (alone t s)) (ends_with (suc k) t (alone t s))
step-settles k s I t has S =
    let g = placed-going s I t has in
    more t has (subst (λ (x : Store). SettlesTo (stepped s t) (ends_as k t x) (ends_with k t x)) (sym (stepped-alone s I t g)) S)
    (λ u. answering-alone s I t g u (ends_with k t (stepped (alone t s) t) u))

-- after its step it is at rest, or has a line less before it
next-within : (k : ℕ) (s : Store) (t : ℕ) → placed s (s.thread t) ≡ true → longest < (s.thread t).line + suc k → (g : Going s t) →
    Came s t g.number g.becomes g.effect → EndsWithin t k (left_by s t g)
next-within k s t has b g (went _ w) =
    going (rw (upd_same s.thread t g.becomes) (w.place ∙ rw has))
    (rw (upd_same s.thread t g.becomes) (let up = w.up in omega arith))
next-within k s t has b g (over _ is _) = resting (rw (upd_same s.thread t g.becomes, is))

pub next-nobody : (s : Store) → Inv s → (t : ℕ) (g : Going s t) → NobodyBut t s → NobodyBut t (left_by s t g)
next-nobody s I t g nobody v apart =
    rw (upd_other s.thread t v g.becomes apart)
    (placed-kept s I t g.becomes g.effect (going-moves s t I g) v apart ∙ nobody v apart)

pub placed-settles : (k : ℕ) (s : Store) → Inv s → (t : ℕ) → NobodyBut t s → EndsWithin t k s →
    SettlesTo s (ends_as k t (alone t s)) (ends_with k t (alone t s))
placed-settles zero s I t nobody (resting x) = idle-settles zero s I t nobody x
placed-settles zero s I t nobody (going has b) = absurd (let e = lines_end s I t in omega arith)
placed-settles (suc k) s I t nobody (resting x) = idle-settles (suc k) s I t nobody x
placed-settles (suc k) s I t nobody (going has b) =
    let g = placed-going s I t has in
    let to : left_by s t g ≡ stepped s t = sym (stepped_is s t g) in
    step-settles k s I t has (placed-settles k (stepped s t) (inv-call s I (step t)) t
    (subst (NobodyBut t) to (next-nobody s I t g nobody))
    (subst (EndsWithin t k) to (next-within k s t has b g (going-came s I t g))))
