-- A step of one thread keeps what the others hold and know. What a step's effect changes, its thread has what guards it (`Guards`);
-- what another thread knows of a word, that thread has what guards it, or reads beside it (the table, tested at each line by computation). So one
-- law for each kind of fact is enough, and no two lines or acts are compared.
-- Assumes nothing.
use Rattle.std.specs.Prelude.{Option, Some, None}
use mathlib.Core.Path.{◌≡◌, refl, sym, ap, ◌∙◌, subst, fun_ext}
use mathlib.Core.Bool.{Bool, true, false, not, cond, ◌&&◌, ◌||◌, or-true}
use mathlib.Core.Logic.{inl, inr}
use Prim.Native.Nat.{ℕ, ◌+◌, ◌-◌, ◌<◌, ◌≤◌}
use native.Mathlib.Omega.{arith}
use lib.Dec.{eqb}
use borrow.Author.Tests.{eqb-true, eqb-false}
use Rattle.meaning.specs.declared.Kind.{Kind}
use Rattle.meaning.specs.declared.Kind.TheVariants.{Writer}
use Rattle.meaning.specs.declared.Thread.{Thread}
use Rattle.meaning.specs.declared.Pass.{Pass}
use Rattle.meaning.specs.declared.Effect.{Effect}
use Rattle.meaning.specs.Table.{every}
use Rattle.meaning.specs.Limits.{least, most_threads, most_numbers, most_blocks, most_distance, within, in_limits}
use Rattle.meaning.specs.Store.{Store, idle}
use Rattle.meaning.specs.Holding.{free, held_by, mark, held, admits, proper, naming, named}
use Rattle.meaning.specs.Programs.{WRITE, LEVEL, last_line}
use Rattle.meaning.specs.Step.{become, put, came, apply}
use Rattle.meaning.specs.Demands.{kept}
use Rattle.meaning.proofs.Base.Words.{same, either_way, every_at, and_left, and_right, or_way, within_true, by_other, none-held, free-held, held_is, held_once, naming-named, upd_other, upd_each}
use Rattle.meaning.proofs.Base.Sets.{kind_same, joins_other, quits_other, writer-alone, joins-proper, quits-proper}
use Rattle.meaning.proofs.Invariant.{takes_h, takes_n, kind, takes_lock, takes, gives_up, Joins, leaves_all, joins, quits, holds_h, holds_n, holds_lock, owns_headers, owns_p, owns_q, n-unmapped, n_on_p, n_on_q, p-free, q-free, p-headed, q-headed, h_heads_p, chosen_now, c_of_p, q_has_c, c_of_n, If, owns_block, leads_astray, Holds, Facts, Stands, Becomes, Puts, Passes, GuardsMap, GuardsHeader, GuardsContent, GuardsWear, Guards, Agrees, Back, Astray, Inv}
use Rattle.meaning.proofs.Manager.View.{status, leaves, promised}

-- ---- a rule of the table, tested at every line

abbrev pub standing : ℕ → ℕ → Thread
standing op line = record { op = op; line = line; n = 0; c = 0; p = 0; q = 0; h = 0 }

-- the test at idle and at each line of each operation
abbrev pub every_line : (ℕ → ℕ → Bool) → Bool
every_line test = test 0 0 && every LEVEL (λ k. every (last_line (k + 1)) (λ l. test (k + 1) (l + 1)))

pub everywhere : (test : ℕ → ℕ → Bool) → every_line test ≡ true → (r : Thread) → Stands r → test r.op r.line ≡ true
everywhere test all r (inl i) = rw i (and_left (test 0 0) _ all)
everywhere test all r (inr o) =
    let op = within_true WRITE LEVEL r.op (and_left _ (within 1 (last_line r.op) r.line) o) in
    let line = within_true 1 (last_line r.op) r.line (and_right (within WRITE LEVEL r.op) _ o) in
    let op-is : r.op - 1 + 1 ≡ r.op = omega arith in
    let line-is : r.line - 1 + 1 ≡ r.line = omega arith in
    let each =
    every_at LEVEL (λ k. every (last_line (k + 1)) (λ l. test (k + 1) (l + 1))) (and_right (test 0 0) _ all) (r.op - 1)
    (omega arith) in
    rw line-is at (every_at (last_line r.op) (λ l. test r.op (l + 1)) (rw op-is at each) (r.line - 1) (omega arith))

-- where the one flag is up, so is the other
abbrev pub implies : (Thread → Bool) → (Thread → Bool) → Bool
implies a b = every_line (λ op line. not (a (standing op line)) || b (standing op line))

pub up : (a b : Thread → Bool) → implies a b ≡ true → (r : Thread) → Stands r →
    a (standing r.op r.line) ≡ true → b (standing r.op r.line) ≡ true
up a b all r st x = rw x at (everywhere (λ op line. not (a (standing op line)) || b (standing op line)) all r st)

-- there are at most 16 threads, more blocks than numbers, and some number
pub limits_say : (t n p d : ℕ) → in_limits t n p d ≡ true → (t ≤ most_threads) × (n < p) × (0 < n)
limits_say t n p d l =
    let three = and_left _ (within least most_distance d) l in
    let two = and_left _ (within (n + 1) most_blocks p) three in
    let blocks =
    within_true (n + 1) most_blocks p (and_right (within least most_threads t && within least most_numbers n) _ three) in
    let numbers = within_true least most_numbers n (and_right (within least most_threads t) _ two) in
    let threads = within_true least most_threads t (and_left (within least most_threads t) _ two) in
    omega arith

-- ---- words and tables that another thread keeps

passes_other : {about : Type 0} (t v w w' : ℕ) → (t ≡ v → ⊥) → Passes about t w w' → held_by v w' ≡ held_by v w
passes_other t v w w' apart (takes f _ e) = rw e (by_other t v apart ∙ sym (free-held v w f))
passes_other t v w w' apart (gives_up h e) = rw (e, held_is t w h) (none-held v ∙ sym (by_other t v apart))

pub word_kept : (about : Type 0) (t v : ℕ) → (t ≡ v → ⊥) → (c : Option ℕ) (w : ℕ) →
    Becomes c (Passes about t w) → held_by v (become c w) ≡ held_by v w
word_kept about t v apart None w x = refl
word_kept about t v apart (Some w') w x = passes_other t v w w' apart x

-- what t's coming and going makes of a word of locks or owners
pub data Became (t w w' : ℕ) : Type 0 where
  stayed : w' ≡ w → Became t w w'
  joined : (κ : Kind) → t < most_threads → admits κ t w ≡ true → w' ≡ w + mark κ t → Became t w w'
  left : (κ : Kind) → held κ t w ≡ true → w' ≡ w - mark κ t → Became t w w'

pub entry-became : (about : Kind → ℕ → Type 0) (t : ℕ) (c : Pass) (f : ℕ → ℕ) → Joins about t f c → (k : ℕ) → Became t (f k) (put (came f c) f k)
entry-became about t c f leaves_all k = stayed refl
entry-became about t c f (joins κ i b a _) k = upd_each (λ k w. Became t (f k) w) f i (f i + mark κ t) (joined κ b a refl) (λ k _. stayed refl) k
entry-became about t c f (quits κ i h) k = upd_each (λ k w. Became t (f k) w) f i (f i - mark κ t) (left κ h refl) (λ k _. stayed refl) k

-- it leaves others what they have
became-kept : (t v w w' : ℕ) → (t ≡ v → ⊥) → Became t w w' → (κ : Kind) → held κ v w' ≡ held κ v w
became-kept t v w w' apart (stayed e) κ = ap (held κ v) e
became-kept t v w w' apart (joined κ' b a e) κ = ap (held κ v) e ∙ joins_other κ' κ t v w b apart a
became-kept t v w w' apart (left κ' h e) κ = ap (held κ v) e ∙ quits_other κ' κ t v w apart h

pub entry_kept : (about : Kind → ℕ → Type 0) (t v : ℕ) → (t ≡ v → ⊥) → (c : Pass) (f : ℕ → ℕ) → Joins about t f c → (κ : Kind) (k : ℕ) →
    held κ v (put (came f c) f k) ≡ held κ v (f k)
entry_kept about t v apart c f x κ k = became-kept t v (f k) (put (came f c) f k) apart (entry-became about t c f x k) κ

-- and the word proper
became-proper : (t threads : ℕ) → t < threads → threads ≤ most_threads → (w w' : ℕ) → Became t w w' → proper threads w ≡ true →
    proper threads w' ≡ true
became-proper t threads below few w w' (stayed e) is = rw e is
became-proper t threads below few w w' (joined κ b a e) is = rw e (joins-proper threads few w is κ t below a)
became-proper t threads below few w w' (left κ h e) is = rw e (quits-proper threads few w is κ t h)

-- an entry whose guard its writer can't have stays as it was
pub put-kept : (c : Option (ℕ × ℕ)) (f : ℕ → ℕ) (guard : ℕ → ℕ → Type 0) → Puts c guard → (k : ℕ) →
    ((w : ℕ) → guard k w → ⊥) → put c f k ≡ f k
put-kept None f guard g k lacks = refl
put-kept (Some (i, w)) f guard g k lacks = upd_other f i k w (λ e. lacks w (subst (λ (j : ℕ). guard j w) e g))

-- to show what counts where a flag is up, take it to be up
where_up : (b : Bool) (A : Type 0) → (b ≡ true → If b A) → If b A
where_up true A f = f refl
where_up false A f = tt

-- a thread that knows a map entry holds the number's lock or owns the headers
abbrev pub reads-map : Thread → Bool
reads-map r = holds_n r || owns_headers r

pub n_locked : (r : Thread) → holds_n r ≡ true → holds_lock (kind r) r r.n ≡ true
n_locked r x = rw (x, kind_same (kind r), same r.n)

pub p-owned : (r : Thread) → owns_p r ≡ true → owns_block (kind r) r r.p ≡ true
p-owned r x = rw (x, kind_same (kind r), same r.p) (or-true (owns_q r && true && eqb r.q r.p))

pub q-owned : (r : Thread) → owns_q r ≡ true → owns_block (kind r) r r.q ≡ true
q-owned r x = rw (x, kind_same (kind r), same r.q)

-- ---- a step of t, seen by another thread v

-- whether a number is mapped and what its block holds stays as it is where t doesn't write the number's lock
pub unheld_status : (s : Store) (t : ℕ) (r : Thread) (e : Effect) → Guards s t r e → (r' : Thread) (k : ℕ) →
    (held Writer t (s.locks k) ≡ true → ⊥) → status (apply s t r' e) k ≡ status s k
unheld_status s t r e G r' k lacks =
    rw (put-kept e.map s.map (λ k w. GuardsMap s t k) G.map k (λ w g. lacks g.locks))
    (either_way (free (s.map k)) (λ f. rw f)
    (λ f. rw (
      f,
      put-kept e.content s.content (λ m w. GuardsContent s t m) G.content (named (s.map k))
          (λ w g. lacks (g.locks k (naming-named (s.map k) f))),
    )))

pub unheld_kept : (s : Store) (t : ℕ) (r : Thread) (e : Effect) → Guards s t r e → (r' : Thread) (k : ℕ) →
    (held Writer t (s.locks k) ≡ true → ⊥) → kept (apply s t r' e) k ≡ kept s k
unheld_kept s t r e G r' k lacks = ap (λ x. x.content) (unheld_status s t r e G r' k lacks)

module _ (s : Store) (I : Inv s) (t : ℕ) (r : Thread) (e : Effect) (G : Guards s t r e) (v : ℕ) (apart : t ≡ v → ⊥) where
  -- t doesn't have what v has, nor does it write there
  lock-lacks : holds_h (s.thread v) ≡ true → held_by t s.lock ≡ true → ⊥
  lock-lacks x h = apart (held_once t v s.lock h ((I.holds v).lock ∙ x))

  owner-lacks : owns_headers (s.thread v) ≡ true → held_by t s.owner ≡ true → ⊥
  owner-lacks x h = apart (held_once t v s.owner h ((I.holds v).owner ∙ x))

  locks-lacks : holds_n (s.thread v) ≡ true → held Writer t (s.locks (s.thread v).n) ≡ true → ⊥
  locks-lacks x h =
      let r = s.thread v in
      apart (writer-alone (kind r) t v (s.locks r.n) h ((I.holds v).locks (kind r) r.n ∙ n_locked r x))

  own_lacks : (m : ℕ) → owns_block (kind (s.thread v)) (s.thread v) m ≡ true → held Writer t (s.own m) ≡ true → ⊥
  own_lacks m x h = let κ = kind (s.thread v) in apart (writer-alone κ t v (s.own m) h ((I.holds v).own κ m ∙ x))

  -- so what v knows stays
  pub map-kept : reads-map (s.thread v) ≡ true → put e.map s.map (s.thread v).n ≡ s.map (s.thread v).n
  map-kept x =
      put-kept e.map s.map (λ k w. GuardsMap s t k) G.map (s.thread v).n
      (λ w g. or_way (holds_n (s.thread v)) (owns_headers (s.thread v)) x (λ y. locks-lacks y g.locks)
      (λ y. owner-lacks y g.owner))

  pub header-kept : owns_headers (s.thread v) ≡ true → put e.header s.header ≡ s.header
  header-kept x =
      fun_ext (λ m. put-kept e.header s.header (λ m w. GuardsHeader s t m) G.header m (λ w g. owner-lacks x g.owner))

  pub wear-kept : holds_h (s.thread v) ≡ true → put e.wear s.wear ≡ s.wear
  wear-kept x =
      fun_ext (λ m. put-kept e.wear s.wear (λ m w. GuardsWear s t m) G.wear m (λ w g. lock-lacks x g.lock))

  pub content-kept : (m : ℕ) → owns_block (kind (s.thread v)) (s.thread v) m ≡ true → put e.content s.content m ≡ s.content m
  content-kept m x =
      put-kept e.content s.content (λ m w. GuardsContent s t m) G.content m (λ w g. own_lacks m x g.own)

  seen-kept : (r' : Thread) → holds_n (s.thread v) ≡ true → kept (apply s t r' e) (s.thread v).n ≡ kept s (s.thread v).n
  seen-kept r' x = unheld_kept s t r e G r' (s.thread v).n (locks-lacks x)

  holds_kept : (r' : Thread) → Holds (apply s t r' e) v (s.thread v)
  holds_kept r' =
      record {
        lock = word_kept (takes_h r ≡ true) t v apart e.lock s.lock G.lock ∙ (I.holds v).lock;
        owner = word_kept Unit t v apart e.owner s.owner G.owner ∙ (I.holds v).owner;
        locks =
            λ κ k. entry_kept (λ κ k. takes_lock κ r k ≡ true) t v apart e.locks s.locks G.locks κ k ∙ (I.holds v).locks κ k;
        own = λ κ m. entry_kept (λ κ m. Unit) t v apart e.own s.own G.own κ m ∙ (I.holds v).own κ m;
      }

  facts-kept : (r' : Thread) → Facts (apply s t r' e) (s.thread v)
  facts-kept r' =
      let r = s.thread v in
      let f = I.facts v in
      let st = I.stands v in
      record {
        n-below = f.n-below;
        p-below = f.p-below;
        q-below = f.q-below;
        h-below = f.h-below;
        unmapped = where_up (n-unmapped r) _ (λ x. rw (map-kept (up n-unmapped reads-map refl r st x)) f.unmapped);
        on_p = where_up (n_on_p r) _ (λ x. rw (map-kept (up n_on_p reads-map refl r st x)) f.on_p);
        on_q = where_up (n_on_q r) _ (λ x. rw (map-kept (up n_on_q reads-map refl r st x)) f.on_q);
        free-p = where_up (p-free r) _ (λ x. rw (header-kept (up p-free owns_headers refl r st x)) f.free-p);
        free-q = where_up (q-free r) _ (λ x. rw (header-kept (up q-free owns_headers refl r st x)) f.free-q);
        headed-p = where_up (p-headed r) _ (λ x. rw (header-kept (up p-headed owns_headers refl r st x)) f.headed-p);
        headed-q = where_up (q-headed r) _ (λ x. rw (header-kept (up q-headed owns_headers refl r st x)) f.headed-q);
        names-n = f.names-n;
        heads-p = where_up (h_heads_p r) _ (λ x. rw (header-kept (up h_heads_p owns_headers refl r st x)) f.heads-p);
        apart = f.apart;
        chosen =
            where_up (chosen_now r) _
            (λ x. rw (header-kept (up chosen_now owns_headers refl r st x), wear-kept (up chosen_now holds_h refl r st x))
            f.chosen);
        copied =
            where_up (c_of_p r) _ (λ x. rw (content-kept r.p (p-owned r (up c_of_p owns_p refl r st x))) f.copied);
        pasted =
            where_up (q_has_c r) _ (λ x. rw (content-kept r.q (q-owned r (up q_has_c owns_q refl r st x))) f.pasted);
        seen = where_up (c_of_n r) _ (λ x. rw (seen-kept r' (up c_of_n holds_n refl r st x)) f.seen);
        unset_n = f.unset_n;
        unset_c = f.unset_c;
        unset_p = f.unset_p;
        unset_q = f.unset_q;
        unset_h = f.unset_h;
      }

-- ---- what a step must show, and that it keeps the invariant

-- Thread t with record r goes on with record r' and an effect. A line's own part: what it has that guards what it changes, and what the
-- table's rows say of it at its next line. Whatever else is to be known of each step becomes a field here.
pub record Moves (s : Store) (t : ℕ) (r r' : Thread) (e : Effect) : Type 0 where
  pub guards : Guards s t r e
  pub stands : Stands r'
  pub holds : Holds (apply s t r' e) t r'
  pub facts : Facts (apply s t r' e) r'
  pub agrees : Agrees (put e.map s.map) (put e.header s.header) s.numbers s.blocks
  -- a header that pointed to its number, or was t's own astray, does so afterwards
  pub mapped : (m k : ℕ) → put e.header s.header m ≡ naming k →
      (s.header m ≡ naming k → Back s.map m k (leads_astray r m ≡ true)) →
      Back (put e.map s.map) m k (leads_astray r' m ≡ true)
  -- what will become of t's number stays as it is, but where t takes the number's lock: there it becomes what t's operation leaves
  pub promise : promised r' (status (apply s t r' e) r.n) ≡
      cond (takes_n r) (leaves r.op r.c (status s r.n)) (promised r (status s r.n))
  pub same_n : If (holds_n r') (r'.n ≡ r.n)
  pub taken : If (takes_n r) (holds_n r' ≡ true)
  -- who changes a wear holds H afterwards too
  pub still-h : Puts e.wear (λ m w. holds_h r' ≡ true)

module _ (s : Store) (I : Inv s) (t : ℕ) (r' : Thread) (e : Effect) (M : Moves s t (s.thread t) r' e) where
  mapped-kept : (m k : ℕ) → put e.header s.header m ≡ naming k →
      Back (put e.map s.map) m k (Astray (apply s t r' e) m)
  mapped-kept m k x =
      either_way (eqb (s.header m) (naming k)) (λ y. old (I.mapped m k (eqb-true (s.header m) (naming k) y)))
      (λ y. mine (λ z. absurd (eqb-false (s.header m) (naming k) y z)))
    where
      -- t's own part
      after : Back (put e.map s.map) m k (leads_astray r' m ≡ true) →
          Back (put e.map s.map) m k (Astray (apply s t r' e) m)
      after (inl y) = inl y
      after (inr y) = inr (record { who = t; leads = rw (same t) y })

      mine : (s.header m ≡ naming k → Back s.map m k (leads_astray (s.thread t) m ≡ true)) →
          Back (put e.map s.map) m k (Astray (apply s t r' e) m)
      mine was = after (M.mapped m k x was)

      old : Back s.map m k (Astray s m) → Back (put e.map s.map) m k (Astray (apply s t r' e) m)
      old (inl y) = mine (λ _. inl y)
      old (inr a) =
          either_way (eqb t a.who) (λ y. mine (λ _. inr (rw (eqb-true t a.who y) a.leads)))
          (λ y. inr (record { who = a.who; leads = rw y a.leads }))

  pub moves-inv : t < s.threads → Inv (apply s t r' e)
  moves-inv below =
      let few = (limits_say s.threads s.numbers s.blocks s.distance I.limits).0 in
      record {
        limits = I.limits;
        stands = upd_each (λ v r. Stands r) s.thread t r' M.stands (λ v _. I.stands v);
        past =
            upd_each (λ v r. s.threads ≤ v → r ≡ idle) s.thread t r' (λ above. absurd (omega arith)) (λ v _. I.past v);
        holds =
            upd_each (λ v r. Holds (apply s t r' e) v r) s.thread t r' M.holds
            (λ v apart. holds_kept s I t (s.thread t) e M.guards v apart r');
        locks =
            λ k. became-proper t s.threads below few (s.locks k) _
            (entry-became (λ κ k. takes_lock κ (s.thread t) k ≡ true) t e.locks s.locks M.guards.locks k) (I.locks k);
        own =
            λ m. became-proper t s.threads below few (s.own m) _
            (entry-became (λ κ m. Unit) t e.own s.own M.guards.own m) (I.own m);
        facts =
            upd_each (λ v r. Facts (apply s t r' e) r) s.thread t r' M.facts
            (λ v apart. facts-kept s I t (s.thread t) e M.guards v apart r');
        agrees = M.agrees;
        mapped = mapped-kept;
      }
