-- Either order, over stores: two threads that can both step, and whose next lines don't take the same lock, unless both take it for reading, may
-- step in either order. Each answers the same, and the store is the same at the end.
-- What a step changes, its thread has what guards it (`Guards`), so two steps change no common word but where both come to one set or go from it,
-- which is adding and taking off; what a step looks at, its thread has what guards it too, or a reader's place (tested at each line), so it comes to
-- the same after the other one.
-- Assumes nothing.
use Rattle.std.specs.Prelude.{Option, Some, None}
use mathlib.Core.Path.{◌≡◌, refl, sym, ap, ◌∙◌, subst, fun_ext}
use mathlib.Core.Bool.{Bool, true, false, not, ◌&&◌, ◌||◌, or-true, and_comm}
use mathlib.Core.List.{List, [], ◌∷◌}
use Prim.Native.Nat.{ℕ, ◌+◌, ◌-◌, ◌<◌}
use native.Mathlib.Omega.{arith}
use lib.Dec.{eqb, leb}
use borrow.Author.Tests.{not-false, eqb-true, eqb-false, ne_eqb, lt-ltb}
use Rattle.meaning.specs.declared.Kind.{Kind}
use Rattle.meaning.specs.declared.Kind.TheVariants.{Reader, Writer}
use Rattle.meaning.specs.declared.Act.{Act}
use Rattle.meaning.specs.declared.Act.TheVariants.{TakeH, TakeN}
use Rattle.meaning.specs.declared.Thread.{Thread}
use Rattle.meaning.specs.declared.Pass.{Pass}
use Rattle.meaning.specs.declared.Pass.TheVariants.{Plus}
use Rattle.meaning.specs.declared.Effect.{Effect}
use Rattle.meaning.specs.declared.Verdict.{Verdict}
use Rattle.meaning.specs.declared.Verdict.TheVariants.{Blocked, Fault, Go, Done}
use Rattle.meaning.specs.Table.{upd}
use Rattle.meaning.specs.Numbers.{WENT, FINISHED, BLOCKED}
use Rattle.meaning.specs.Store.{Store, idle}
use Rattle.meaning.specs.Holding.{free, by, held_by, mark, held, admits}
use Rattle.meaning.specs.Programs.{act_at}
use Rattle.meaning.specs.Step.{on_lock, on_locks, take, next, perform, verdict, become, put, came, apply}
use Rattle.meaning.specs.Needs.{Asks, takes-h, takes-n, needs, no_line, asks, waits}
use Rattle.meaning.specs.Schedule.{next_act}
use Rattle.meaning.specs.Call.{Reply, step, call_store, told, reply, is_idle}
use Rattle.meaning.proofs.Base.Words.{same, eqb_swap, either_way, by_held, clash, and_left, and_right, by_other, held_once, held_not_free, upd_same, upd_other, upd_each}
use Rattle.meaning.proofs.Base.Schedules.{reply_of, by_step}
use Rattle.meaning.proofs.Base.Sets.{same_kind, kind_is, both_read, held-mark, writer-alone, joins-admits, quits-admits, joins_bars}
use Rattle.meaning.proofs.Invariant.{takes_h, takes_n, kind, takes_lock, holds_h, owns_headers, owns_p, Passes, takes, gives_up, Joins, leaves_all, joins, quits, Becomes, Puts, Guards, GuardsMap, GuardsHeader, GuardsContent, GuardsWear, Inv}
use Rattle.meaning.proofs.Invariant.Keeping.{reads-map, every_line, everywhere, standing, p-owned, Moves, moves-inv, map-kept, header-kept, wear-kept, content-kept}
use Rattle.meaning.proofs.Acts.{Sight, map_of_n, headers, all-wear, content_of_p, shape, Ready, was_ready, unfaulted, Same, SameSights, same_deed}
use Rattle.meaning.proofs.Lines.{Fine}
use Rattle.meaning.proofs.Lines.EveryLine.{fine}
use Rattle.meaning.proofs.Progress.{no_fault, CanStep}

-- ---- what is said

-- both are about to take H, or the lock of one number unless both take it for reading
abbrev pub same_take : Thread → Thread → Bool
same_take r q = takes_h r && takes_h q || takes_n q && takes_n r && eqb r.n q.n && not (both_read (kind r) (kind q))

pub record Swaps (s : Store) (t u : ℕ) : Type 0 where
  pub number : (call_store (call_store s (step u)).after (step t)).number ≡ (call_store s (step t)).number
  pub value : (call_store (call_store s (step u)).after (step t)).value ≡ (call_store s (step t)).value
  pub other_number : (call_store (call_store s (step t)).after (step u)).number ≡ (call_store s (step u)).number
  pub other_value : (call_store (call_store s (step t)).after (step u)).value ≡ (call_store s (step u)).value
  pub after : (call_store (call_store s (step t)).after (step u)).after ≡ (call_store (call_store s (step u)).after (step t)).after

-- ---- what a step looks at

-- the flag of a thread that has what guards it, or reads
abbrev guarded : Thread → Sight → Bool
guarded r map_of_n = reads-map r
guarded r headers = owns_headers r
guarded r all-wear = holds_h r
guarded r content_of_p = owns_p r

abbrev all_guarded : Thread → List Sight → Bool
all_guarded r [] = true
all_guarded r (x ∷ l) = guarded r x && all_guarded r l

-- the flag of a thread that takes a lock
abbrev taking : Thread → Asks → Bool
taking r takes-h = takes_h r
taking r (takes-n κ) = takes_n r && same_kind κ (kind r)
taking r (needs l) = true
taking r no_line = true

-- at each line, the thread has what keeps writers from the words that its act looks at, and is about to take the lock that the act takes
looks-everywhere : every_line (λ op line. all_guarded (standing op line) (shape (act_at op line)).looks) ≡ true
looks-everywhere = refl

takes-everywhere : every_line (λ op line. taking (standing op line) (asks (act_at op line))) ≡ true
takes-everywhere = refl

-- a free lock that t is not about to take stays free
free-kept : (about : Type 0) (t : ℕ) (c : Option ℕ) (w : ℕ) → Becomes c (Passes about t w) → (about → ⊥) → free w ≡ true →
    free (become c w) ≡ true
free-kept about t None w x never f = f
free-kept about t (Some w') w (takes _ y _) never f = absurd (never y)
free-kept about t (Some w') w (gives_up _ e) never f = rw e

-- a lock that lets u in lets it in after t's coming or going, unless t is about to take it and not both read
entry_admits_kept : (about : Kind → ℕ → Type 0) (t u : ℕ) → (t ≡ u → ⊥) → (c : Pass) (f : ℕ → ℕ) → Joins about t f c → (κ : Kind) (k : ℕ) →
    ((κ' : Kind) → about κ' k → both_read κ' κ ≡ true) → admits κ u (f k) ≡ true → admits κ u (put (came f c) f k) ≡ true
entry_admits_kept about t u apart c f leaves_all κ k = λ _ a. a
entry_admits_kept about t u apart c f (joins κ' i b y x) κ k =
    upd_each (λ k w. ((κ' : Kind) → about κ' k → both_read κ' κ ≡ true) → admits κ u (f k) ≡ true → admits κ u w ≡ true) f i (f i + mark κ' t)
    (λ beside a. joins-admits κ' κ t u (f i) b apart y a (beside κ' x)) (λ k _ _ a. a) k
entry_admits_kept about t u apart c f (quits κ' i h) κ k =
    upd_each (λ k w. ((κ' : Kind) → about κ' k → both_read κ' κ ≡ true) → admits κ u (f k) ≡ true → admits κ u w ≡ true) f i (f i - mark κ' t)
    (λ _ a. quits-admits κ' κ t u (f i) apart h a) (λ k _ _ a. a) k

-- where two threads are none of the exception, a number's lock that both are about to take they take for reading
beside : (r q : Thread) (κ κ' : Kind) → same_take r q ≡ false → takes_lock κ r q.n ≡ true → (takes_n q && same_kind κ' (kind q)) ≡ true →
    both_read κ κ' ≡ true
beside r q κ κ' others x y =
    let mine = and_left (takes_n r && same_kind κ (kind r)) _ x in
    let e = kind_is κ (kind r) (and_right (takes_n r) _ mine) in
    let e' = kind_is κ' (kind q) (and_right (takes_n q) _ y) in
    either_way (both_read κ κ') (λ z. z)
    (λ z.
    let not_both : both_read (kind r) (kind q) ≡ false = sym (λ i. both_read (e i) (e' i)) ∙ z in
    clash (rw (and_left (takes_n r) _ mine, and_left (takes_n q) _ y, and_right (takes_n r && same_kind κ (kind r)) _ x, not_both)
    (or-true (takes_h r && takes_h q))) others)

module _ (s : Store) (I : Inv s) (t : ℕ) (r' : Thread) (e : Effect) (M : Moves s t (s.thread t) r' e) (u : ℕ)
    (apart : t ≡ u → ⊥) (others : same_take (s.thread t) (s.thread u) ≡ false) where
  -- after t's step what u looks at is what it was
  map-alike : reads-map (s.thread u) ≡ true → put e.map s.map (s.thread u).n ≡ s.map (s.thread u).n
  map-alike = map-kept s I t (s.thread t) e M.guards u apart

  header-alike : owns_headers (s.thread u) ≡ true → put e.header s.header ≡ s.header
  header-alike = header-kept s I t (s.thread t) e M.guards u apart

  wear-alike : holds_h (s.thread u) ≡ true → put e.wear s.wear ≡ s.wear
  wear-alike = wear-kept s I t (s.thread t) e M.guards u apart

  content-alike : owns_p (s.thread u) ≡ true → put e.content s.content (s.thread u).p ≡ s.content (s.thread u).p
  content-alike l = content-kept s I t (s.thread t) e M.guards u apart (s.thread u).p (p-owned (s.thread u) l)

  -- a lock that u takes still lets it in
  lock-free : takes_h (s.thread u) ≡ true → free s.lock ≡ true → free (become e.lock s.lock) ≡ true
  lock-free l =
      free-kept (takes_h (s.thread t) ≡ true) t e.lock s.lock M.guards.lock (λ z. clash (rw (z, l)) others)

  locks_admit : (κ : Kind) → (takes_n (s.thread u) && same_kind κ (kind (s.thread u))) ≡ true → admits κ u (s.locks (s.thread u).n) ≡ true →
      admits κ u (put (came s.locks e.locks) s.locks (s.thread u).n) ≡ true
  locks_admit κ l =
      entry_admits_kept (λ κ k. takes_lock κ (s.thread t) k ≡ true) t u apart e.locks s.locks M.guards.locks κ (s.thread u).n
      (λ κ' z. beside (s.thread t) (s.thread u) κ' κ others z l)

  -- so what its act looks at is the same, and what it takes lets it in
  sight-alike : (x : Sight) → guarded (standing (s.thread u).op (s.thread u).line) x ≡ true →
      Same s (apply s t r' e) (s.thread u) x
  sight-alike map_of_n = map-alike
  sight-alike headers = header-alike
  sight-alike all-wear = wear-alike
  sight-alike content_of_p = content-alike

  sights_alike : (l : List Sight) → all_guarded (standing (s.thread u).op (s.thread u).line) l ≡ true →
      SameSights s (apply s t r' e) (s.thread u) l
  sights_alike [] g = tt
  sights_alike (x ∷ l) g = (
    sight-alike x (and_left (guarded (standing (s.thread u).op (s.thread u).line) x) _ g),
    sights_alike l (and_right (guarded (standing (s.thread u).op (s.thread u).line) x) _ g),
  )

  still-unblocked : (a : Asks) → taking (standing (s.thread u).op (s.thread u).line) a ≡ true → waits s u (s.thread u) a ≡ false →
      waits (apply s t r' e) u (s.thread u) a ≡ false
  still-unblocked takes-h g w = rw (lock-free g (not-false (free s.lock) w))
  still-unblocked (takes-n κ) g w = rw (locks_admit κ g (not-false (admits κ u (s.locks (s.thread u).n)) w))
  still-unblocked (needs l) g w = w
  still-unblocked no_line g w = w

  -- and u's step comes to the same
  pub verdict-alike : t < s.threads → u < s.threads → is_idle (s.thread u) ≡ false → (verdict s u ≡ Blocked → ⊥) →
      verdict (apply s t r' e) u ≡ verdict s u
  verdict-alike below u-below busy goes =
      let other : eqb t u ≡ false = ne_eqb t u apart in
      let r = s.thread u in
      let a = act_at r.op r.line in
      let after = apply s t r' e in
      let ready = was_ready a s u r goes (no_fault s I u u-below busy) in
      let still : Ready after u r a = record {
        met =
            unfaulted a after u r
            (λ f. no_fault after (moves-inv s I t r' e M below) u u-below (rw other busy) (rw other f));
        unblocked =
            still-unblocked (asks a) (everywhere (λ op line. taking (standing op line) (asks (act_at op line))) takes-everywhere r (I.stands u))
            ready.unblocked;
      } in
      rw other (same_deed s after u r refl refl a
      (sights_alike (shape a).looks
      (everywhere (λ op line. all_guarded (standing op line) (shape (act_at op line)).looks) looks-everywhere r (I.stands u)))
      ready still)

-- ---- two threads' effects change no common word

upds_commute : {A : Type 0} (f : ℕ → A) (i j : ℕ) (v w : A) → (i ≡ j → ⊥) → upd (upd f i v) j w ≡ upd (upd f j w) i v
upds_commute f i j v w apart =
    fun_ext (upd_each (λ k x. x ≡ upd (upd f j w) i v k) (upd f i v) j w
    (sym (upd_other (upd f j w) i j v apart ∙ upd_same f j w)) (λ k others. rw (ne_eqb j k others)))

-- entries changed by two functions, which commute at an entry that both change
changes_commute : (f : ℕ → ℕ) (i j : ℕ) (g h : ℕ → ℕ) → (i ≡ j → h (g (f i)) ≡ g (h (f i))) →
    upd (upd f i (g (f i))) j (h (upd f i (g (f i)) j)) ≡ upd (upd f j (h (f j))) i (g (upd f j (h (f j)) i))
changes_commute f i j g h same-entry =
    either_way (eqb i j)
    (λ x.
    let e = eqb-true i j x in
    rw (← e, same i) (fun_ext (λ k. either_way (eqb i k) (λ y. rw y (same-entry e)) (λ y. rw y))))
    (λ x.
    let apart = eqb-false i j x in
    rw (x, ne_eqb j i (λ e. apart (sym e))) (upds_commute f i j (g (f i)) (h (f j)) apart))

module _ (t u : ℕ) (apart : t ≡ u → ⊥) where
  -- no word passes from both: a, b and b' are what they were about to take
  passes-apart : {a b b' : Type 0} (w v v' : ℕ) → Passes a t w v → Passes b u w v' → Passes b' u v v' → ⊥
  passes-apart w v v' (takes f _ e) y (takes g _ _) = clash g (rw e (held_not_free t (by t) (by_held t)))
  passes-apart w v v' (takes f _ e) y (gives_up h _) = clash h (rw e (by_other t u apart))
  passes-apart w v v' (gives_up h _) (takes f _ _) z = clash f (held_not_free t w h)
  passes-apart w v v' (gives_up h _) (gives_up g _) z = apart (held_once t u w h g)

  words_commute : (a b : Type 0) (c d : Option ℕ) (w : ℕ) → Becomes c (Passes a t w) → Becomes d (Passes b u w) →
      Becomes d (Passes b u (become c w)) → become d (become c w) ≡ become c (become d w)
  words_commute a b None d w x y z = refl
  words_commute a b (Some v) None w x y z = refl
  words_commute a b (Some v) (Some v') w x y z = absurd (passes-apart w v v' x y z)

  -- of locks or owners an amount is added and one taken off that is there: in either order it comes to the same word
  pub entries_commute : (a b : Kind → ℕ → Type 0) (c d : Pass) (f : ℕ → ℕ) → Joins a t f c → Joins b u f d →
      put (came (put (came f c) f) d) (put (came f c) f) ≡ put (came (put (came f d) f) c) (put (came f d) f)
  entries_commute a b c d f leaves_all y = refl
  entries_commute a b c d f (joins κ i _ _ _) leaves_all = refl
  entries_commute a b c d f (quits κ i _) leaves_all = refl
  entries_commute a b c d f (joins κ i _ _ _) (joins κ' j _ _ _) = changes_commute f i j (λ w. w + mark κ t) (λ w. w + mark κ' u) (λ e. omega arith)
  entries_commute a b c d f (joins κ i _ _ _) (quits κ' j h) =
      changes_commute f i j (λ w. w + mark κ t) (λ w. w - mark κ' u) (λ e. let m = held-mark κ' u (f j) h in rw e (omega arith))
  entries_commute a b c d f (quits κ i h) (joins κ' j _ _ _) =
      changes_commute f i j (λ w. w - mark κ t) (λ w. w + mark κ' u) (λ e. let m = held-mark κ t (f i) h in omega arith)
  entries_commute a b c d f (quits κ i _) (quits κ' j _) = changes_commute f i j (λ w. w - mark κ t) (λ w. w - mark κ' u) (λ e. omega arith)

  -- g and h guard the entries, and nobody has both
  tables_commute : (g h : ℕ → Type 0) → ((k : ℕ) → g k → h k → ⊥) → (c d : Option (ℕ × ℕ)) (f : ℕ → ℕ) → Puts c (λ k _. g k) →
      Puts d (λ k _. h k) → put d (put c f) ≡ put c (put d f)
  tables_commute g h both None d f x y = refl
  tables_commute g h both (Some (i, v)) None f x y = refl
  tables_commute g h both (Some (i, v)) (Some (j, w)) f x y = upds_commute f i j v w (λ e. both i x (subst h (sym e) y))

  pub applies_commute : (s : Store) (r q r' q' : Thread) (c d : Effect) → Guards s t r c → Guards s u q d →
      Guards (apply s t r' c) u q d → apply (apply s t r' c) u q' d ≡ apply (apply s u q' d) t r' c
  applies_commute s r q r' q' c d G K L =
      let H-once : held_by t s.lock ≡ true → held_by u s.lock ≡ true → ⊥ = λ x y. apart (held_once t u s.lock x y) in
      let headers-once : held_by t s.owner ≡ true → held_by u s.owner ≡ true → ⊥ =
      λ x y. apart (held_once t u s.owner x y) in
      let block-once : (m : ℕ) → held Writer t (s.own m) ≡ true → held Writer u (s.own m) ≡ true → ⊥ =
      λ m x y. apart (writer-alone Writer t u (s.own m) x y) in
      λ i. record {
        threads = s.threads;
        numbers = s.numbers;
        blocks = s.blocks;
        distance = s.distance;
        lock = words_commute (takes_h r ≡ true) (takes_h q ≡ true) c.lock d.lock s.lock G.lock K.lock L.lock i;
        owner = words_commute Unit Unit c.owner d.owner s.owner G.owner K.owner L.owner i;
        thread = upds_commute s.thread t u r' q' apart i;
        map =
            tables_commute (GuardsMap s t) (GuardsMap s u) (λ k x y. headers-once x.owner y.owner) c.map d.map
            s.map
            G.map K.map i;
        locks =
            entries_commute (λ κ k. takes_lock κ r k ≡ true) (λ κ k. takes_lock κ q k ≡ true) c.locks d.locks s.locks
            G.locks K.locks i;
        header =
            tables_commute (GuardsHeader s t) (GuardsHeader s u) (λ m x y. headers-once x.owner y.owner) c.header
            d.header s.header G.header K.header i;
        content =
            tables_commute (GuardsContent s t) (GuardsContent s u) (λ m x y. block-once m x.own y.own) c.content
            d.content s.content G.content K.content i;
        wear =
            tables_commute (GuardsWear s t) (GuardsWear s u) (λ m x y. H-once x.lock y.lock) c.wear d.wear s.wear
            G.wear K.wear i;
        own = entries_commute (λ κ m. Unit) (λ κ m. Unit) c.own d.own s.own G.own K.own i;
      }

-- ---- a step that goes

-- a verdict that is no refusal: its number and value, the next record and the effect
pub data Goes : Verdict → ℕ → ℕ → Thread → Effect → Type 0 where
  goes : {r : Thread} {e : Effect} → Goes (Go r e) WENT 0 r e
  ends : {a : ℕ} {e : Effect} → Goes (Done a e) FINISHED a idle e

-- thread t is open, and its verdict goes
pub record Going (s : Store) (t : ℕ) : Type 0 where
  pub below : t < s.threads
  pub busy : is_idle (s.thread t) ≡ false
  pub number : ℕ
  pub value : ℕ
  pub becomes : Thread
  pub effect : Effect
  pub told' : Goes (verdict s t) number value becomes effect

abbrev pub left_by : (s : Store) (t : ℕ) → Going s t → Store
left_by s t g = apply s t g.becomes g.effect

-- what its call replies
abbrev pub reply_by : (s : Store) (t : ℕ) → Going s t → Reply Store
reply_by s t g = reply_of g.number g.value (left_by s t g)

module _ (s : Store) (t : ℕ) where
  pub told-going : t < s.threads → is_idle (s.thread t) ≡ false → (v : Verdict) → v ≡ verdict s t →
      leb (reply (λ s'. s') s (told s t v)).number FINISHED ≡ true → Going s t
  told-going below busy Blocked e c = clash c refl
  told-going below busy Fault e c = clash c refl
  told-going below busy (Go r' f) e c =
      record {
        below = below;
        busy = busy;
        number = WENT;
        value = 0;
        becomes = r';
        effect = f;
        told' = subst (λ (v : Verdict). Goes v WENT 0 r' f) e goes;
      }
  told-going below busy (Done a f) e c =
      record {
        below = below;
        busy = busy;
        number = FINISHED;
        value = a;
        becomes = idle;
        effect = f;
        told' = subst (λ (v : Verdict). Goes v FINISHED a idle f) e ends;
      }

  pub can-going : CanStep s t → Going s t
  can-going c =
      by_step (λ o. leb (reply (λ s'. s') s o).number FINISHED ≡ true → Going s t) s t (λ number x y. clash y x)
      (λ b x y. told-going b x (verdict s t) refl y) c

  goes-reply : (v : Verdict) (n a : ℕ) (r : Thread) (e : Effect) → Goes v n a r e →
      reply (λ s'. s') s (told s t v) ≡ reply_of n a (apply s t r e)
  goes-reply v n a r e goes = refl
  goes-reply v n a r e ends = refl

  pub going-reply : (g : Going s t) → call_store s (step t) ≡ reply_by s t g
  going-reply g =
      rw (lt-ltb t s.threads g.below, g.busy)
      (goes-reply (verdict s t) g.number g.value g.becomes g.effect g.told')

  goes-moves : (v : Verdict) (n a : ℕ) (q r : Thread) (e : Effect) → Goes v n a r e → Fine s t q v → Moves s t q r e
  goes-moves v n a q r e goes f = f.moves
  goes-moves v n a q r e ends f = f.moves

  pub going-moves : Inv s → (g : Going s t) → Moves s t (s.thread t) g.becomes g.effect
  going-moves I g =
      goes-moves (verdict s t) g.number g.value (s.thread t) g.becomes g.effect g.told'
      (fine s I t g.busy)

  pub goes-unblocked : (v : Verdict) (n a : ℕ) (r : Thread) (e : Effect) → Goes v n a r e → v ≡ Blocked → ⊥
  goes-unblocked v n a r e goes x = let z : ◌≡◌ {A = ℕ} 0 1 = cc in omega arith
  goes-unblocked v n a r e ends x = let z : ◌≡◌ {A = ℕ} 0 1 = cc in omega arith

-- thread t moves on with record r' and an effect; u's step goes then as it did before
module _ (s : Store) (I : Inv s) (t : ℕ) (r' : Thread) (e : Effect) (M : Moves s t (s.thread t) r' e) (below : t < s.threads)
    (u : ℕ) (apart : t ≡ u → ⊥) (others : same_take (s.thread t) (s.thread u) ≡ false) (k : Going s u) where
  abbrev pub still : Going (apply s t r' e) u
  still =
      record {
        below = k.below;
        busy = rw (ne_eqb t u apart) k.busy;
        number = k.number;
        value = k.value;
        becomes = k.becomes;
        effect = k.effect;
        told' =
            rw (verdict-alike s I t r' e M u apart others below k.below k.busy
            (goes-unblocked s u (verdict s u) k.number k.value k.becomes k.effect k.told')) k.told';
      }

  pub still-left : left_by (apply s t r' e) u still ≡ apply (left_by s u k) t r' e
  still-left =
      applies_commute t u apart s (s.thread t) (s.thread u) r' k.becomes e k.effect M.guards (going-moves s u I k).guards
      (subst (λ (r : Thread). Guards (apply s t r' e) u r k.effect) (upd_other s.thread t u r' apart)
      (going-moves (apply s t r' e) u (moves-inv s I t r' e M below) still).guards)

-- ---- either order

pub same_take_sym : (r q : Thread) → same_take r q ≡ false → same_take q r ≡ false
same_take_sym r q x =
    rw (
      and_comm (takes_h q) (takes_h r),
      and_comm (takes_n r) (takes_n q),
      eqb_swap q.n r.n,
      and_comm (same_kind (kind q) Reader) (same_kind (kind r) Reader),
    ) x

pub either_order : (s : Store) → Inv s → (t u : ℕ) → (t ≡ u → ⊥) → CanStep s t → CanStep s u →
    same_take (s.thread t) (s.thread u) ≡ false → Swaps s t u
either_order s I t u apart steps steps' others =
    let g = can-going s t steps in
    let k = can-going s u steps' in
    let M = going-moves s t I g in
    let others' = same_take_sym (s.thread t) (s.thread u) others in
    let u-after = still s I t g.becomes g.effect M g.below u apart others k in
    let t-after = still s I u k.becomes k.effect (going-moves s u I k) k.below t (λ e. apart (sym e)) others' g in
    let u-second : call_store (call_store s (step t)).after (step u) ≡ reply_by (left_by s t g) u u-after =
    rw (going-reply s t g) (going-reply (left_by s t g) u u-after) in
    let t-second : call_store (call_store s (step u)).after (step t) ≡ reply_by (left_by s u k) t t-after =
    rw (going-reply s u k) (going-reply (left_by s u k) t t-after) in
    record {
      number = ap (λ (x : Reply Store). x.number) t-second ∙ sym (ap (λ (x : Reply Store). x.number) (going-reply s t g));
      value = ap (λ (x : Reply Store). x.value) t-second ∙ sym (ap (λ (x : Reply Store). x.value) (going-reply s t g));
      other_number = ap (λ (x : Reply Store). x.number) u-second ∙ sym (ap (λ (x : Reply Store). x.number) (going-reply s u k));
      other_value = ap (λ (x : Reply Store). x.value) u-second ∙ sym (ap (λ (x : Reply Store). x.value) (going-reply s u k));
      after =
          ap (λ (x : Reply Store). x.after) u-second
          ∙ still-left s I t g.becomes g.effect M g.below u apart others k
          ∙ sym (ap (λ (x : Reply Store). x.after) t-second);
    }

-- ---- the exception is needed: whoever comes second is blocked

-- the effect of a take that goes
take-effect : (lets : Bool) (r₁ : Thread) (e₁ : Effect) {v : Verdict} {n a : ℕ} {r : Thread} {e : Effect} → Goes v n a r e →
    v ≡ take lets (next r₁ e₁) → (lets ≡ true) × (e ≡ e₁)
take-effect true r₁ e₁ goes x = (refl, cc)
take-effect true r₁ e₁ ends x = absurd (let z : ◌≡◌ {A = ℕ} 0 1 = cc in omega arith)
take-effect false r₁ e₁ goes x = absurd (let z : ◌≡◌ {A = ℕ} 0 1 = cc in omega arith)
take-effect false r₁ e₁ ends x = absurd (let z : ◌≡◌ {A = ℕ} 0 1 = cc in omega arith)

module _ (s : Store) (t u : ℕ) (apart : t ≡ u → ⊥) (steps : CanStep s t) (steps' : CanStep s u) where
  -- t's step, u's record, and the store that t leaves
  abbrev g : Going s t
  g = can-going s t steps

  abbrev q : Thread
  q = s.thread u

  abbrev after_t : Store
  after_t = left_by s t g

  second-blocked : perform (next_act q) after_t u q ≡ Blocked → (call_store (call_store s (step t)).after (step u)).number ≡ BLOCKED
  second-blocked x =
      let k = can-going s u steps' in
      let same-record : after_t.thread u ≡ q = upd_other s.thread t u g.becomes apart in
      rw (going-reply s t g, lt-ltb u s.threads k.below, same-record, k.busy, x)

  pub same_h_blocks : next_act (s.thread t) ≡ TakeH → next_act q ≡ TakeH →
      (call_store (call_store s (step t)).after (step u)).number ≡ BLOCKED
  same_h_blocks e e' =
      let r = s.thread t in
      let x = take-effect (free s.lock) r (on_lock (by t)) g.told' (ap (λ (a : Act). perform a s t r) e) in
      let lock : after_t.lock ≡ by t = ap (λ (y : Effect). become y.lock s.lock) x.1 in
      second-blocked
      (ap (λ (a : Act). perform a after_t u q) e'
      ∙ ap (λ w. take (free w) (next q (on_lock (by u)))) lock
      ∙ ap (λ b. take b (next q (on_lock (by u)))) (held_not_free t (by t) (by_held t)))

  pub same_n_blocks : (κ κ' : Kind) → next_act (s.thread t) ≡ TakeN κ → next_act q ≡ TakeN κ' → (s.thread t).n ≡ q.n →
      both_read κ κ' ≡ false → (call_store (call_store s (step t)).after (step u)).number ≡ BLOCKED
  same_n_blocks κ κ' e e' n x =
      let r = s.thread t in
      let w = s.locks r.n in
      let came-to = w + mark κ t in
      let y = take-effect (admits κ t w) r (on_locks (Plus r.n (mark κ t))) g.told' (ap (λ (a : Act). perform a s t r) e) in
      let word : after_t.locks q.n ≡ came-to =
      ap (λ (z : Effect). put (came s.locks z.locks) s.locks q.n) y.1
      ∙ subst (λ (k : ℕ). upd s.locks r.n came-to k ≡ came-to) n (upd_same s.locks r.n came-to) in
      let goes_on = next q (on_locks (Plus q.n (mark κ' u))) in
      second-blocked
      (ap (λ (a : Act). perform a after_t u q) e'
      ∙ ap (λ w. take (admits κ' u w) goes_on) word
      ∙ ap (λ b. take b goes_on) (joins_bars κ κ' t u w y.0 x))
