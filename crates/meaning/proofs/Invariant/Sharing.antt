-- What the invariant says of who shares what: who is let in where a line owns, where headers and map agree, and that W5 and L3 find
-- the free block that they ask for.
-- Assumes nothing.
use Rattle.std.specs.Prelude.{Some}
use mathlib.Core.Path.{◌≡◌, refl, sym, ◌∙◌, subst}
use mathlib.Core.Bool.{Bool, true, false, ◌&&◌, ◌||◌, and-true}
use mathlib.Core.Logic.{inl, inr}
use Prim.Native.Nat.{ℕ, ◌<◌, ◌≤◌}
use lib.Dec.{eqb}
use borrow.Author.Tests.{eqb-true}
use Rattle.meaning.specs.declared.Kind.{Kind}
use Rattle.meaning.specs.declared.Kind.TheVariants.{Reader, Writer}
use Rattle.meaning.specs.Limits.{most_threads}
use Rattle.meaning.specs.Store.{Store}
use Rattle.meaning.specs.Holding.{none, free, held_by, held, admits, naming}
use Rattle.meaning.specs.Choosing.{lowest_free, to_block}
use Rattle.meaning.proofs.Base.Words.{same, clash, and_left, and_right, or_way, free-held, held_once, alone-free, free-none, naming_once, naming_not_none}
use Rattle.meaning.proofs.Base.Sets.{same_kind, both_read, writer-alone, admits-unless}
use Rattle.meaning.proofs.Invariant.{kind, holds_h, holds_n, owns_headers, owns_p, owns_q, n_on_p, n_on_q, p-free, q-free, p-headed, q-headed, p-astray, q-astray, If, leads_astray, GuardsContent, Back, Astray, Inv}
use Rattle.meaning.proofs.Invariant.Keeping.{limits_say, up}
use Rattle.meaning.proofs.Base.Searches.{crowded, finds, finds-nobody, Lowest, lowest-finds, To, to_finds}

-- the fact of a row whose flag is up
pub fact : (b : Bool) (A : Type 0) → b ≡ true → If b A → A
fact true A x f = f
fact false A x f = clash x refl

-- why v may own block m as κ: its header is free and v owns the headers, or it names a number whose lock v holds as κ
data Owned (s : Store) (κ : Kind) (v m : ℕ) : Type 0 where
  as_free : s.header m ≡ none → held_by v s.owner ≡ true → Owned s κ v m
  as_headed : (k : ℕ) → s.header m ≡ naming k → held κ v (s.locks k) ≡ true → Owned s κ v m

module _ (s : Store) (I : Inv s) where
  pub numbers-blocks : (s.numbers < s.blocks) × (0 < s.numbers)
  numbers-blocks = let x = limits_say s.threads s.numbers s.blocks s.distance I.limits in (x.1, x.2)

  -- ---- blocks

  -- through register p or q: f, d and o are the flags for "its header is free", "its header names n" and "n is mapped to it"
  owned-through : (κ : Kind) (v n m : ℕ) (f d o : Bool) → If f (s.header m ≡ none) → If d (s.header m ≡ naming n) →
      If o (s.map n ≡ naming m) → (f && held_by v s.owner || (d || o) && held κ v (s.locks n)) ≡ true → Owned s κ v m
  owned-through κ v n m f d o empty headed on x =
      or_way (f && held_by v s.owner) _ x (λ y. as_free (fact f _ (and_left f _ y) empty) (and_right f _ y))
      (λ y. as_headed n
      (or_way d o (and_left (d || o) _ y) (λ z. fact d _ z headed) (λ z. I.agrees.headed n m (fact o _ z on)))
      (and_right (d || o) _ y))

  owned : (κ : Kind) (v m : ℕ) → held κ v (s.own m) ≡ true → Owned s κ v m
  owned κ v m x =
      let r = s.thread v in
      let f = I.facts v in
      let locks : same_kind κ (kind r) ≡ true → held κ v (s.locks r.n) ≡ holds_n r =
      λ k. (I.holds v).locks κ r.n ∙ rw (k, same r.n, and-true (holds_n r)) (and-true (holds_n r)) in
      or_way (owns_q r && same_kind κ (kind r) && eqb r.q m) (owns_p r && same_kind κ (kind r) && eqb r.p m)
      (sym ((I.holds v).own κ m) ∙ x)
      (λ y.
      let own = and_left (owns_q r && same_kind κ (kind r)) _ y in
      let mine = locks (and_right (owns_q r) _ own) in
      subst (Owned s κ v) (eqb-true r.q m (and_right (owns_q r && same_kind κ (kind r)) _ y))
      (owned-through κ v r.n r.q (q-free r) (q-headed r) (n_on_q r) f.free-q f.headed-q f.on_q
      (rw ((I.holds v).owner, mine)
      (up owns_q (λ r. q-free r && owns_headers r || (q-headed r || n_on_q r) && holds_n r) refl r (I.stands v)
      (and_left (owns_q r) _ own)))))
      (λ y.
      let own = and_left (owns_p r && same_kind κ (kind r)) _ y in
      let mine = locks (and_right (owns_p r) _ own) in
      subst (Owned s κ v) (eqb-true r.p m (and_right (owns_p r && same_kind κ (kind r)) _ y))
      (owned-through κ v r.n r.p (p-free r) (p-headed r) (n_on_p r) f.free-p f.headed-p f.on_p
      (rw ((I.holds v).owner, mine)
      (up owns_p (λ r. p-free r && owns_headers r || (p-headed r || n_on_p r) && holds_n r) refl r (I.stands v)
      (and_left (owns_p r) _ own)))))

  -- ---- who may own

  pub few : s.threads ≤ most_threads
  few = (limits_say s.threads s.numbers s.blocks s.distance I.limits).0

  -- t, which doesn't own block m, may own it where it has the lock of the number mapped to it, as the same kind
  pub mapped_block_admits : (κ : Kind) (t n m : ℕ) → s.map n ≡ naming m → held κ t (s.locks n) ≡ true →
      ((κ' : Kind) → held κ' t (s.own m) ≡ false) → admits κ t (s.own m) ≡ true
  mapped_block_admits κ t n m on lock own =
      admits-unless s.threads few (s.own m) (I.own m) κ t (own Reader) (λ κ' v x. beside κ κ' v lock x (owned κ' v m x))
    where
      -- v has the same lock
      same_lock : (κ' : Kind) (v : ℕ) → Owned s κ' v m → held κ' v (s.locks n) ≡ true
      same_lock κ' v (as_free f _) = naming_not_none n (s.header m) (I.agrees.headed n m on) f
      same_lock κ' v (as_headed k h l) = rw (naming_once n k (sym (I.agrees.headed n m on) ∙ h)) l

      not_me : {A : Type 0} (κ' : Kind) (v : ℕ) → held κ' v (s.own m) ≡ true → t ≡ v → A
      not_me κ' v x e = clash x (rw (sym e) (own κ'))

      beside : (κ κ' : Kind) (v : ℕ) → held κ t (s.locks n) ≡ true → held κ' v (s.own m) ≡ true → Owned s κ' v m → both_read κ κ' ≡ true
      beside Reader Reader v lock x o = refl
      beside Reader Writer v lock x o = not_me Writer v x (sym (writer-alone Reader v t (s.locks n) (same_lock Writer v o) lock))
      beside Writer κ' v lock x o = not_me κ' v x (writer-alone κ' t v (s.locks n) lock (same_lock κ' v o))

  -- and where its header is free and t owns the headers
  pub free_block_admits : (κ : Kind) (t m : ℕ) → s.header m ≡ none → held_by t s.owner ≡ true →
      ((κ' : Kind) → held κ' t (s.own m) ≡ false) → admits κ t (s.own m) ≡ true
  free_block_admits κ t m empty owner own =
      admits-unless s.threads few (s.own m) (I.own m) κ t (own Reader) (λ κ' v x. nobody κ' v x (owned κ' v m x))
    where
      nobody : (κ' : Kind) (v : ℕ) → held κ' v (s.own m) ≡ true → Owned s κ' v m → both_read κ κ' ≡ true
      nobody κ' v x (as_free _ o) = clash x (rw (sym (held_once t v s.owner owner o)) (own κ'))
      nobody κ' v x (as_headed k h _) = naming_not_none k (s.header m) h empty

  -- who writes a block that is headed by a number whose lock it writes may write its content
  pub content-guarded : (t n m : ℕ) → s.header m ≡ naming n → held Writer t (s.locks n) ≡ true → held Writer t (s.own m) ≡ true →
      GuardsContent s t m
  content-guarded t n m headed lock own =
      record {
        own = own;
        locks = λ k on. rw (naming_once k n (sym (I.agrees.headed k m on) ∙ headed)) lock;
        heads = λ k head. rw (naming_once k n (sym head ∙ headed)) lock;
      }

  -- ---- headers

  -- whoever holds H and doesn't own the headers finds them free
  pub owner-free : (t : ℕ) → held_by t s.lock ≡ true → held_by t s.owner ≡ false → free s.owner ≡ true
  owner-free t lock owner =
      alone-free t s.owner owner
      (λ v x. held_once t v s.lock lock
      ((I.holds v).lock ∙ up owns_headers holds_h refl (s.thread v) (I.stands v) (sym (I.holds v).owner ∙ x)))

  -- only the headers' owner leads a block astray
  astray-owner : (v m : ℕ) → leads_astray (s.thread v) m ≡ true → held_by v s.owner ≡ true
  astray-owner v m x =
      let r = s.thread v in
      (I.holds v).owner ∙
      or_way (q-astray r && eqb r.q m) (p-astray r && eqb r.p m) x
      (λ y. up q-astray owns_headers refl r (I.stands v) (and_left (q-astray r) _ y))
      (λ y. up p-astray owns_headers refl r (I.stands v) (and_left (p-astray r) _ y))

  -- headers and map agree where no block is astray
  settled : (m k : ℕ) → (Astray s m → ⊥) → s.header m ≡ naming k → s.map k ≡ naming m
  settled m k straight x = go (I.mapped m k x)
    where
      go : Back s.map m k (Astray s m) → s.map k ≡ naming m
      go (inl y) = y
      go (inr a) = absurd (straight a)

  -- so where nobody owns the headers
  pub settled-free : free s.owner ≡ true → (m k : ℕ) → s.header m ≡ naming k → s.map k ≡ naming m
  settled-free f m k = settled m k (λ a. clash (astray-owner a.who m a.leads) (free-held a.who s.owner f))

  -- and where their owner leads none astray
  pub settled-owner : (t : ℕ) → held_by t s.owner ≡ true → ((m : ℕ) → leads_astray (s.thread t) m ≡ false) →
      (m k : ℕ) → s.header m ≡ naming k → s.map k ≡ naming m
  settled-owner t owner straight m k =
      settled m k
      (λ a.
      let z : a.who ≡ t = held_once a.who t s.owner (astray-owner a.who m a.leads) owner in
      clash (rw z at a.leads) (straight m))

  -- ---- what W5 and L3 find

  module _ (t : ℕ) (owner : held_by t s.owner ≡ true) (straight : (m : ℕ) → leads_astray (s.thread t) m ≡ false) where
    not_full : ((m : ℕ) → m < s.blocks → free (s.header m) ≡ false) → ⊥
    not_full =
        crowded s.map s.header s.numbers s.blocks numbers-blocks.0 I.agrees.header-below
        (settled-owner t owner straight)

    pub lowest-free : (lowest_free s.header s.blocks < s.blocks) × (s.header (lowest_free s.header s.blocks) ≡ none)
    lowest-free = go (lowest-finds s.header s.blocks)
      where
        go : Lowest s.header s.blocks →
            (lowest_free s.header s.blocks < s.blocks) × (s.header (lowest_free s.header s.blocks) ≡ none)
        go (finds m b f e) = rw e (b, free-none (s.header m) f)
        go (finds-nobody all _) = absurd (not_full all)

    pub to_found : (m : ℕ) × (to_block s.header s.wear s.blocks ≡ Some m) × (m < s.blocks) × (s.header m ≡ none)
    to_found = go (to_finds s.header s.wear s.blocks)
      where
        go : To s.header s.wear s.blocks →
            (m : ℕ) × (to_block s.header s.wear s.blocks ≡ Some m) × (m < s.blocks) × (s.header m ≡ none)
        go (finds m b f e) = (m, e, b, free-none (s.header m) f)
        go (finds-nobody all _) = absurd (not_full all)
