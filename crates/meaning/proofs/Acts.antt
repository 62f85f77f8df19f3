-- What is so of every act, in two walks over the acts: what `perform` comes to of an act (`lands`), and when it comes to the same at two
-- stores (`same_deed`). All else that is proved of every act, here and in other crates, is read off these two; so a change of an act is paid
-- here, and at the lines that have it.
--  * An act is BLOCKED and meets FAULT exactly where specs/Needs says.
--  * Else its line has the act's row, `shape`: what it may do to its thread's record beside going on to the next line, whether it ends and
--    with what, to which tables it writes, which block it wears and what it looks at.
--  * Where the numbers and words near the line are in bounds, so are those of its next record, its effect and its answer.
-- Assumes nothing.
use Rattle.std.specs.Prelude.{Option, Some, None}
use mathlib.Core.Path.{◌≡◌, refl, sym, subst}
use mathlib.Core.Bool.{Bool, true, false, not, cond, ◌&&◌}
use mathlib.Core.List.{List, [], ◌∷◌}
use mathlib.Core.Logic.{◌⊎◌, inl, inr, ◌↔◌}
use Prim.Native.Nat.{ℕ, ◌+◌, ◌-◌, ◌<◌, ◌≤◌}
use native.Mathlib.Omega.{arith}
use borrow.Author.Tests.{not-false, lt-ltb, le-ltb}
use Rattle.meaning.specs.declared.Kind.{Kind}
use Rattle.meaning.specs.declared.Kind.TheVariants.{Writer}
use Rattle.meaning.specs.declared.Reg.{Reg}
use Rattle.meaning.specs.declared.Reg.TheVariants.{P, Q}
use Rattle.meaning.specs.declared.Answer.{Answer}
use Rattle.meaning.specs.declared.Answer.TheVariants.{Zero, C, Moved}
use Rattle.meaning.specs.declared.Act.{Act}
use Rattle.meaning.specs.declared.Act.TheVariants.{Nothing, TakeH, ReleaseH, FinishH, TakeN, ReleaseN, FinishN, OwnHeaders, LetGoHeaders, Own, LetGo, GoIfMapped, GoIfUnmapped, EmptyIfUnmapped, GoIfFree, PickFree, Choose, ReadHeader, WriteHeaderN, WriteHeaderH, FreeHeader, EmptyContent, ReadContent, WriteContent, MapTo, Unmap}
use Rattle.meaning.specs.declared.Thread.{Thread}
use Rattle.meaning.specs.declared.Pass.{Pass}
use Rattle.meaning.specs.declared.Pass.TheVariants.{Leave, Plus, Minus}
use Rattle.meaning.specs.declared.Effect.{Effect}
use Rattle.meaning.specs.declared.Verdict.{Verdict}
use Rattle.meaning.specs.declared.Verdict.TheVariants.{Blocked, Fault, Go, Done}
use Rattle.meaning.specs.Table.{every}
use Rattle.meaning.specs.Limits.{most_threads, most_word}
use Rattle.meaning.specs.Store.{Store, idle}
use Rattle.meaning.specs.Holding.{free, held_by, mark, held, admits, proper, named}
use Rattle.meaning.specs.Step.{onward, set_c, block, nothing, on_locks, on_own, worn, answer, sees as sees_content, touches, heads, perform}
use Rattle.meaning.specs.Needs.{Need, met, all_met, Asks, takes-h, takes-n, needs, no_line, asks, fails, waits}
use Rattle.meaning.proofs.Base.Words.{either_way, clash, every_at, all-every, and_left, and_right, named-below}
use Rattle.meaning.proofs.Base.Searches.{finds, finds-nobody, Lowest, lowest-finds, To, to_finds, from-below}
use Rattle.meaning.proofs.Base.Sets.{joins-word, joins-proper, held-mark, quits-proper}
use Rattle.meaning.proofs.Invariant.{If, Becomes, Puts}

-- ---- shapes

-- what an act's line looks at beside lock and owner words: the map's entry of n, the headers, the wear of all blocks, the content of p
pub data Sight : Type 0 where
  map_of_n : Sight
  headers : Sight
  all-wear : Sight
  content_of_p : Sight

-- which block it wears; block_of_n is the one that n is mapped to, if there is one
pub data Wears : Type 0 where
  no_block : Wears
  block-p : Wears
  block_of_n : Wears

-- what that does to wear, of store s and a thread with record r
abbrev pub wearing : Wears → Store → Thread → Option (ℕ × ℕ)
wearing no_block s r = None
wearing block-p s r = Some (r.p, worn (s.wear r.p))
wearing block_of_n s r = cond (free (s.map r.n)) None (Some (named (s.map r.n), worn (s.wear (named (s.map r.n)))))

pub record Shape : Type 0 where
  -- its line ends the operation, with this answer
  pub ends? : Bool
  pub answers : Answer
  -- it changes locks and owners alone; it keeps the registers n and c
  pub quiet? : Bool
  pub keeps_n : Bool
  pub keeps_c : Bool
  pub wears : Wears
  -- the line to which it may go from a line, if not to the next
  pub jump : ℕ → ℕ
  pub looks : List Sight

-- of a line that goes on: quiet?, keeps_n, keeps_c and the rest
abbrev shaped : Bool → Bool → Bool → Wears → (ℕ → ℕ) → List Sight → Shape
shaped quiet n c wears jump looks =
    record { ends? = false; answers = Zero; quiet? = quiet; keeps_n = n; keeps_c = c; wears = wears; jump = jump; looks = looks }

abbrev sees : List Sight → Shape
sees looks = shaped true true true no_block (λ line. line + 1) looks

abbrev onwards : Shape
onwards = sees []

abbrev stops : Answer → Shape
stops a =
    record { ends? = true; answers = a; quiet? = true; keeps_n = true; keeps_c = true; wears = no_block; jump = λ line. line + 1; looks = [] }

abbrev alters : Shape
alters = shaped false true true no_block (λ line. line + 1) []

abbrev frees : Shape
frees = shaped false true true block-p (λ line. line + 1) (all-wear ∷ [])

abbrev reads : Shape
reads = shaped true true false no_block (λ line. line + 1) (content_of_p ∷ [])

abbrev jumps : ℕ → Shape
jumps l = shaped true true true no_block (λ line. l) (map_of_n ∷ [])

abbrev rewrites : ℕ → Shape
rewrites l = shaped false true true block_of_n (λ line. l) (map_of_n ∷ all-wear ∷ [])

abbrev empties : ℕ → Shape
empties l = shaped true true false no_block (λ line. l) (map_of_n ∷ [])

abbrev names : ℕ → Shape
names l = shaped true false true no_block (λ line. l) []

abbrev pub shape : Act → Shape
shape Nothing = onwards
shape TakeH = onwards
shape ReleaseH = onwards
shape (FinishH a) = stops a
shape (TakeN κ) = onwards
shape ReleaseN = onwards
shape (FinishN κ a) = stops a
shape OwnHeaders = onwards
shape LetGoHeaders = onwards
shape (Own κ b) = onwards
shape (LetGo κ b) = onwards
shape (GoIfMapped l) = rewrites l
shape (GoIfUnmapped l) = jumps l
shape (EmptyIfUnmapped l) = empties l
shape (GoIfFree l) = names l
shape PickFree = sees (headers ∷ [])
shape Choose = sees (headers ∷ all-wear ∷ [])
shape ReadHeader = sees (headers ∷ [])
shape WriteHeaderN = alters
shape WriteHeaderH = alters
shape FreeHeader = frees
shape EmptyContent = alters
shape ReadContent = reads
shape (WriteContent b) = alters
shape (MapTo b) = alters
shape Unmap = alters

-- an effect on locks and owners alone
pub record Quiet (e : Effect) : Type 0 where
  pub map : e.map ≡ None
  pub header : e.header ≡ None
  pub content : e.content ≡ None
  pub wear : e.wear ≡ None

-- ---- bounds

-- an amount m may be added to word w at entry k of so many, or taken off it: it stays a word, and proper for so many threads
pub record Added (size threads k w m : ℕ) : Type 0 where
  pub low : k < size
  pub fits : w + m ≤ most_word
  pub stays : proper threads w ≡ true → proper threads (w + m) ≡ true

pub record TakenOff (size threads k w m : ℕ) : Type 0 where
  pub low : k < size
  pub fits : m ≤ w
  pub stays : proper threads w ≡ true → proper threads (w - m) ≡ true

abbrev pub Passable : ℕ → ℕ → (ℕ → ℕ) → Pass → Type 0
Passable size threads f Leave = Unit {0}
Passable size threads f (Plus k m) = Added size threads k (f k) m
Passable size threads f (Minus k m) = TakenOff size threads k (f k) m

-- thread t is one of the store's, and the numbers near its line are in bounds: its registers n, p, q and h, n's entry of the map and p's header
pub record NearBounded (s : Store) (t : ℕ) (r : Thread) : Type 0 where
  pub thread : t < s.threads
  pub few : s.threads ≤ most_threads
  pub n : r.n < s.numbers
  pub p : r.p < s.blocks
  pub q : r.q < s.blocks
  pub h : r.h ≤ s.numbers
  pub map : s.map r.n ≤ s.blocks
  pub header : s.header r.p ≤ s.numbers

-- so are the registers of the next record, and what the effect puts and where, but for wear
pub record Bounded (s : Store) (r : Thread) (e : Effect) : Type 0 where
  pub n : r.n < s.numbers
  pub p : r.p < s.blocks
  pub q : r.q < s.blocks
  pub h : r.h ≤ s.numbers
  pub lock : Becomes e.lock (λ w. w ≤ s.threads)
  pub owner : Becomes e.owner (λ w. w ≤ s.threads)
  pub map : Puts e.map (λ k w. (k < s.numbers) × (w ≤ s.blocks))
  pub locks : Passable s.numbers s.threads s.locks e.locks
  pub header : Puts e.header (λ m w. (m < s.blocks) × (w ≤ s.numbers))
  pub content : Puts e.content (λ m w. m < s.blocks)
  pub own : Passable s.blocks s.threads s.own e.own

-- register c, the contents and what wear comes to are at most a word
pub record NearWords (s : Store) (r : Thread) (most : ℕ) : Type 0 where
  pub some : 1 ≤ most
  pub c : r.c ≤ most
  pub content : (m : ℕ) → s.content m ≤ most
  pub wear : (m : ℕ) → worn (s.wear m) ≤ most

-- so are those of the next record and of the effect
pub record LowWords (most : ℕ) (r : Thread) (e : Effect) : Type 0 where
  pub c : r.c ≤ most
  pub content : Puts e.content (λ m w. w ≤ most)

-- what wearing does is in bounds too
pub wearing-bounded : (w : Wears) (s : Store) (t : ℕ) (r : Thread) → NearBounded s t r → Puts (wearing w s r) (λ m x. m < s.blocks)
wearing-bounded no_block s t r N = tt
wearing-bounded block-p s t r N = N.p
wearing-bounded block_of_n s t r N =
    either_way (free (s.map r.n)) (λ f. rw f tt) (λ f. rw f (named-below (s.map r.n) s.blocks f N.map))

pub wearing-low : (w : Wears) (s : Store) (r : Thread) (most : ℕ) → NearWords s r most → Puts (wearing w s r) (λ m x. x ≤ most)
wearing-low no_block s r most N = tt
wearing-low block-p s r most N = N.wear r.p
wearing-low block_of_n s r most N =
    either_way (free (s.map r.n)) (λ f. rw f tt) (λ f. rw f (N.wear (named (s.map r.n))))

-- ---- what an act comes to

-- no need of the act is unmet, and it doesn't wait
pub record Ready (s : Store) (t : ℕ) (r : Thread) (a : Act) : Type 0 where
  pub met : fails s t r (asks a) ≡ false
  pub unblocked : waits s t r (asks a) ≡ false

-- thread t with record r goes on with r' and an effect, by act a
pub record Onto (a : Act) (s : Store) (t : ℕ) (r r' : Thread) (e : Effect) : Type 0 where
  pub ready : Ready s t r a
  pub goes : (shape a).ends? ≡ false
  pub op : r'.op ≡ r.op
  pub line : (r'.line ≡ r.line + 1) ⊎ (r'.line ≡ (shape a).jump r.line)
  pub branch : If (not (shape a).keeps_n) (r'.line ≡ cond (free r.h) ((shape a).jump r.line) (r.line + 1))
  pub n : If (shape a).keeps_n (r'.n ≡ r.n)
  pub c : If (shape a).keeps_c (r'.c ≡ r.c)
  pub quiet : If (shape a).quiet? (Quiet e)
  pub wear : e.wear ≡ wearing (shape a).wears s r
  pub bounded : NearBounded s t r → Bounded s r' e
  pub words : (most : ℕ) → NearWords s r most → LowWords most r' e

-- and ends with a value
pub record Stops (a : Act) (s : Store) (t : ℕ) (r : Thread) (value : ℕ) (e : Effect) : Type 0 where
  pub ready : Ready s t r a
  pub ends : (shape a).ends? ≡ true
  pub answers : value ≡ answer (shape a).answers r
  pub wear : e.wear ≡ None
  pub bounded : NearBounded s t r → Bounded s idle e
  pub words : (most : ℕ) → NearWords s r most → LowWords most idle e
  pub low : (most : ℕ) → NearWords s r most → value ≤ most

abbrev pub Lands : Act → Store → ℕ → Thread → Verdict → Type 0
Lands a s t r Blocked = (fails s t r (asks a) ≡ false) × (waits s t r (asks a) ≡ true)
Lands a s t r Fault = (fails s t r (asks a) ≡ true) × (waits s t r (asks a) ≡ false)
Lands a s t r (Go r' e) = Onto a s t r r' e
Lands a s t r (Done value e) = Stops a s t r value e

-- ---- the first walk

-- so it is with the mark of who is let in, and of who has its place
joins-added : (κ : Kind) (s : Store) (t : ℕ) (r : Thread) (size k w : ℕ) → NearBounded s t r → k < size → admits κ t w ≡ true →
    Added size s.threads k w (mark κ t)
joins-added κ s t r size k w N low a =
    record {
      low = low;
      fits = joins-word κ t w (omega (arith, N.thread, N.few)) a;
      stays = λ is. joins-proper s.threads N.few w is κ t N.thread a;
    }

quits_taken_off : (κ : Kind) (s : Store) (t : ℕ) (r : Thread) (size k w : ℕ) → NearBounded s t r → k < size → held κ t w ≡ true →
    TakenOff size s.threads k w (mark κ t)
quits_taken_off κ s t r size k w N low h =
    record { low = low; fits = held-mark κ t w h; stays = λ is. quits-proper s.threads N.few w is κ t h }

block-low : (b : Reg) (s : Store) (t : ℕ) (r : Thread) → NearBounded s t r → block b r < s.blocks
block-low P s t r N = N.p
block-low Q s t r N = N.q

-- so those lines stay in bounds that take, release, own and let go as either kind
module _ (κ : Kind) (s : Store) (t : ℕ) (r r' : Thread) (stays : NearBounded s t r → Bounded s r' nothing) where
  locks-bounded : (c : Pass) → (NearBounded s t r → Passable s.numbers s.threads s.locks c) → NearBounded s t r → Bounded s r' (on_locks c)
  locks-bounded c fits N = let B = stays N in let x = fits N in search arith

  own_bounded : (c : Pass) → (NearBounded s t r → Passable s.blocks s.threads s.own c) → NearBounded s t r → Bounded s r' (on_own c)
  own_bounded c fits N = let B = stays N in let x = fits N in search arith

  lock-taken : admits κ t (s.locks r.n) ≡ true → NearBounded s t r → Bounded s r' (on_locks (Plus r.n (mark κ t)))
  lock-taken a = locks-bounded _ (λ N. joins-added κ s t r s.numbers r.n (s.locks r.n) N N.n a)

  lock-given : held κ t (s.locks r.n) ≡ true → NearBounded s t r → Bounded s r' (on_locks (Minus r.n (mark κ t)))
  lock-given h = locks-bounded _ (λ N. quits_taken_off κ s t r s.numbers r.n (s.locks r.n) N N.n h)

  block-taken : (b : Reg) → admits κ t (s.own (block b r)) ≡ true → NearBounded s t r → Bounded s r' (on_own (Plus (block b r) (mark κ t)))
  block-taken b a = own_bounded _ (λ N. joins-added κ s t r s.blocks (block b r) (s.own (block b r)) N (block-low b s t r N) a)

  block-given : (b : Reg) → held κ t (s.own (block b r)) ≡ true → NearBounded s t r → Bounded s r' (on_own (Minus (block b r) (mark κ t)))
  block-given b h = own_bounded _ (λ N. quits_taken_off κ s t r s.blocks (block b r) (s.own (block b r)) N (block-low b s t r N) h)

-- some block of the first k is free where the search finds one, and none where it finds nobody
some-free : (header : ℕ → ℕ) (k m : ℕ) → m < k → free (header m) ≡ true → every k (λ m. not (free (header m))) ≡ false
some-free header k m b f =
    either_way (every k (λ m. not (free (header m)))) (λ e. clash (every_at k (λ m. not (free (header m))) e m b) (rw f)) (λ e. e)

none_free : (header : ℕ → ℕ) (k : ℕ) → ((m : ℕ) → m < k → free (header m) ≡ false) → every k (λ m. not (free (header m))) ≡ true
none_free header k all = all-every k (λ m. not (free (header m))) (λ m b. rw (all m b))

answer-low : (a : Answer) (s : Store) (r : Thread) (most : ℕ) → NearWords s r most → answer a r ≤ most
answer-low Zero s r most N = omega arith
answer-low C s r most N = N.c
answer-low Moved s r most N = either_way (free r.h) (λ f. rw f (omega arith)) (λ f. rw f (omega (arith, N.some)))

read_low : (s : Store) (r : Thread) (most : ℕ) → NearWords s r most → LowWords most (onward (set_c (s.content r.p) r)) nothing
read_low s r most N = record { c = N.content r.p; content = tt }

-- two needs are met where both tests hold
both-met : (x y : Bool) → x && y ≡ true → not (x && (y && true)) ≡ false
both-met true true e = refl
both-met true false e = sym e
both-met false y e = sym e

both_unmet : (x y : Bool) → x && y ≡ false → not (x && (y && true)) ≡ true
both_unmet true true e = sym e
both_unmet true false e = refl
both_unmet false y e = refl

picks : (s : Store) (t : ℕ) (r : Thread) → held_by t s.owner ≡ true → Lands PickFree s t r (perform PickFree s t r)
picks s t r f = go (lowest-finds s.header s.blocks)
  where
    go : Lowest s.header s.blocks → Lands PickFree s t r (perform PickFree s t r)
    go (finds m b x e) =
        let met : fails s t r (asks PickFree) ≡ false = rw (f, some-free s.header s.blocks m b x) in
        rw (f, e, lt-ltb m s.blocks b) (search (inl, arith))
    go (finds-nobody all e) =
        let unmet : fails s t r (asks PickFree) ≡ true = rw (f, none_free s.header s.blocks all) in
        rw (f, e, le-ltb s.blocks s.blocks (omega arith)) (unmet, refl)

chooses : (s : Store) (t : ℕ) (r : Thread) → held_by t s.owner ≡ true → Lands Choose s t r (perform Choose s t r)
chooses s t r f = go (to_finds s.header s.wear s.blocks)
  where
    go : To s.header s.wear s.blocks → Lands Choose s t r (perform Choose s t r)
    go (finds m b x e) =
        let low = from-below s.header s.wear s.distance s.blocks m b in
        let met : fails s t r (asks Choose) ≡ false = rw (f, some-free s.header s.blocks m b x) in
        rw (f, e) (search (inl, arith))
    go (finds-nobody all e) =
        let unmet : fails s t r (asks Choose) ≡ true = rw (f, none_free s.header s.blocks all) in
        rw (f, e) (unmet, refl)

pub lands : (a : Act) (s : Store) (t : ℕ) (r : Thread) → Lands a s t r (perform a s t r)
lands Nothing s t r = search
lands TakeH s t r = either_way (free s.lock) (λ f. rw f (search (inl, arith))) (λ f. rw f search)
lands ReleaseH s t r = either_way (held_by t s.lock) (λ f. rw f (search (inl, arith))) (λ f. rw f search)
lands (FinishH a) s t r = either_way (held_by t s.lock) (λ f. rw f (search (arith, answer-low a s r))) (λ f. rw f search)
lands (TakeN κ) s t r =
    either_way (admits κ t (s.locks r.n))
    (λ f. let x = lock-taken κ s t r (onward r) (search arith) f in rw f (search (inl, arith))) (λ f. rw f search)
lands ReleaseN s t r =
    either_way (held Writer t (s.locks r.n))
    (λ f. let x = lock-given Writer s t r (onward r) (search arith) f in rw f (search (inl, arith))) (λ f. rw f search)
lands (FinishN κ a) s t r =
    either_way (held κ t (s.locks r.n))
    (λ f. let x = lock-given κ s t r idle (search arith) f in rw f (search (arith, answer-low a s r))) (λ f. rw f search)
lands OwnHeaders s t r = either_way (free s.owner) (λ f. rw f (search (inl, arith))) (λ f. rw f search)
lands LetGoHeaders s t r = either_way (held_by t s.owner) (λ f. rw f (search (inl, arith))) (λ f. rw f search)
lands (Own κ P) s t r =
    either_way (admits κ t (s.own (block P r)))
    (λ f. let x = block-taken κ s t r (onward r) (search arith) P f in rw f (search (inl, arith))) (λ f. rw f search)
lands (Own κ Q) s t r =
    either_way (admits κ t (s.own (block Q r)))
    (λ f. let x = block-taken κ s t r (onward r) (search arith) Q f in rw f (search (inl, arith))) (λ f. rw f search)
lands (LetGo κ P) s t r =
    either_way (held κ t (s.own (block P r)))
    (λ f. let x = block-given κ s t r (onward r) (search arith) P f in rw f (search (inl, arith))) (λ f. rw f search)
lands (LetGo κ Q) s t r =
    either_way (held κ t (s.own (block Q r)))
    (λ f. let x = block-given κ s t r (onward r) (search arith) Q f in rw f (search (inl, arith))) (λ f. rw f search)
lands (GoIfMapped l) s t r = either_way (free (s.map r.n)) (λ f. rw f (search (inl, arith))) (λ f. rw f (search (inr, arith, named-below)))
lands (GoIfUnmapped l) s t r = either_way (free (s.map r.n)) (λ f. rw f (search (inr, arith))) (λ f. rw f (search (inl, arith, named-below)))
lands (EmptyIfUnmapped l) s t r = either_way (free (s.map r.n)) (λ f. rw f (search (inr, arith))) (λ f. rw f (search (inl, arith, named-below)))
lands (GoIfFree l) s t r =
    either_way (free r.h) (λ f. let x : l ≡ cond (free r.h) l (r.line + 1) = rw f in rw f (search (inr, arith)))
    (λ f. let x : r.line + 1 ≡ cond (free r.h) l (r.line + 1) = rw f in rw f (search (inl, arith, named-below)))
lands PickFree s t r = either_way (held_by t s.owner) (λ f. picks s t r f) (λ f. rw f search)
lands Choose s t r = either_way (held_by t s.owner) (λ f. chooses s t r f) (λ f. rw f search)
lands ReadHeader s t r = either_way (held_by t s.owner) (λ f. rw f (search (inl, arith))) (λ f. rw f search)
lands WriteHeaderN s t r = either_way (heads s t r.p) (λ f. rw f (search (inl, arith, both-met))) (λ f. rw f (search both_unmet))
lands WriteHeaderH s t r = either_way (heads s t r.q) (λ f. rw f (search (inl, arith, both-met))) (λ f. rw f (search both_unmet))
lands FreeHeader s t r = either_way (heads s t r.p) (λ f. rw f (search (inl, arith, both-met))) (λ f. rw f (search both_unmet))
lands EmptyContent s t r = either_way (touches s t r.p) (λ f. rw f (search (inl, arith, both-met))) (λ f. rw f (search both_unmet))
lands ReadContent s t r = either_way (sees_content s t r.p) (λ f. rw f (search (inl, arith, both-met, read_low))) (λ f. rw f (search both_unmet))
lands (WriteContent P) s t r = either_way (touches s t (block P r)) (λ f. rw f (search (inl, arith, both-met))) (λ f. rw f (search both_unmet))
lands (WriteContent Q) s t r = either_way (touches s t (block Q r)) (λ f. rw f (search (inl, arith, both-met))) (λ f. rw f (search both_unmet))
lands (MapTo P) s t r = search (inl, arith)
lands (MapTo Q) s t r = search (inl, arith)
lands Unmap s t r = search (inl, arith)

-- so FAULT comes exactly where a need of specs/Needs fails, and BLOCKED exactly where a take's lock doesn't let it in
module _ (a : Act) (s : Store) (t : ℕ) (r : Thread) where
  pub faults-exactly : (perform a s t r ≡ Fault) ↔ (fails s t r (asks a) ≡ true)
  faults-exactly = (λ x. (subst (Lands a s t r) x (lands a s t r)).0, faults (perform a s t r) (lands a s t r))
    where
      faults : (v : Verdict) → Lands a s t r v → fails s t r (asks a) ≡ true → v ≡ Fault
      faults Blocked l f = clash f l.0
      faults Fault l f = refl
      faults (Go r' e) l f = clash f l.ready.met
      faults (Done value e) l f = clash f l.ready.met

  pub blocks-exactly : (perform a s t r ≡ Blocked) ↔ (waits s t r (asks a) ≡ true)
  blocks-exactly = (λ x. (subst (Lands a s t r) x (lands a s t r)).1, blocks (perform a s t r) (lands a s t r))
    where
      blocks : (v : Verdict) → Lands a s t r v → waits s t r (asks a) ≡ true → v ≡ Blocked
      blocks Blocked l w = refl
      blocks Fault l w = clash w l.1
      blocks (Go r' e) l w = clash w l.ready.unblocked
      blocks (Done value e) l w = clash w l.ready.unblocked

  pub unfaulted : (perform a s t r ≡ Fault → ⊥) → fails s t r (asks a) ≡ false
  unfaulted x = either_way (fails s t r (asks a)) (λ f. absurd (x (faults-exactly.1 f))) (λ f. f)

  pub was_ready : (perform a s t r ≡ Blocked → ⊥) → (perform a s t r ≡ Fault → ⊥) → Ready s t r a
  was_ready b x =
      record {
        met = unfaulted x;
        unblocked = either_way (waits s t r (asks a)) (λ f. absurd (b (blocks-exactly.1 f))) (λ f. f);
      }

-- it takes a lock; who waits is about to
abbrev pub is_take : Asks → Bool
is_take takes-h = true
is_take (takes-n κ) = true
is_take (needs l) = false
is_take no_line = false

pub waits-take : (s : Store) (t : ℕ) (r : Thread) (a : Asks) → waits s t r a ≡ true → is_take a ≡ true
waits-take s t r takes-h w = refl
waits-take s t r (takes-n κ) w = refl
waits-take s t r (needs l) w = w
waits-take s t r no_line w = w

-- ---- the second walk

-- what the act looks at is the same at both stores
abbrev pub Same : Store → Store → Thread → Sight → Type 0
Same s s' r map_of_n = s'.map r.n ≡ s.map r.n
Same s s' r headers = s'.header ≡ s.header
Same s s' r all-wear = s'.wear ≡ s.wear
Same s s' r content_of_p = s'.content r.p ≡ s.content r.p

abbrev pub SameSights : Store → Store → Thread → List Sight → Type 0
SameSights s s' r [] = Unit {0}
SameSights s s' r (x ∷ l) = Same s s' r x × SameSights s s' r l

-- what an act asks for is granted, a fact each
abbrev AllGranted : Store → ℕ → Thread → List Need → Type 0
AllGranted s t r [] = Unit {0}
AllGranted s t r (x ∷ l) = (met s t r x ≡ true) × AllGranted s t r l

abbrev Granted : Store → ℕ → Thread → Asks → Type 0
Granted s t r takes-h = free s.lock ≡ true
Granted s t r (takes-n κ) = admits κ t (s.locks r.n) ≡ true
Granted s t r (needs l) = AllGranted s t r l
Granted s t r no_line = ⊥

all-granted : (s : Store) (t : ℕ) (r : Thread) (l : List Need) → all_met s t r l ≡ true → AllGranted s t r l
all-granted s t r [] e = tt
all-granted s t r (x ∷ l) e = (and_left (met s t r x) _ e, all-granted s t r l (and_right (met s t r x) _ e))

granted : (s : Store) (t : ℕ) (r : Thread) (a : Asks) → fails s t r a ≡ false → waits s t r a ≡ false → Granted s t r a
granted s t r takes-h m f = not-false (free s.lock) f
granted s t r (takes-n κ) m f = not-false (admits κ t (s.locks r.n)) f
granted s t r (needs l) m f = all-granted s t r l (not-false (all_met s t r l) m)
granted s t r no_line m f = clash refl m

-- so is what it does, where it is ready at both; the stores are of the same size
module _ (s s' : Store) (t : ℕ) (r : Thread) (blocks : s'.blocks ≡ s.blocks) (distance : s'.distance ≡ s.distance) where
  deeds : (a : Act) → SameSights s s' r (shape a).looks → Granted s t r (asks a) → Granted s' t r (asks a) →
      perform a s' t r ≡ perform a s t r
  deeds Nothing l g g' = refl
  deeds TakeH l g g' = rw (g, g')
  deeds ReleaseH l g g' = rw (g.0, g'.0)
  deeds (FinishH a) l g g' = rw (g.0, g'.0)
  deeds (TakeN κ) l g g' = rw (g, g')
  deeds ReleaseN l g g' = rw (g.0, g'.0)
  deeds (FinishN κ a) l g g' = rw (g.0, g'.0)
  deeds OwnHeaders l g g' = rw (g.0, g'.0)
  deeds LetGoHeaders l g g' = rw (g.0, g'.0)
  deeds (Own κ b) l g g' = rw (g.0, g'.0)
  deeds (LetGo κ b) l g g' = rw (g.0, g'.0)
  deeds (GoIfMapped k) l g g' = rw (l.0, l.1.0)
  deeds (GoIfUnmapped k) l g g' = rw l.0
  deeds (EmptyIfUnmapped k) l g g' = rw l.0
  deeds (GoIfFree k) l g g' = refl
  deeds PickFree l g g' = rw (g.0, g'.0, blocks, l.0)
  deeds Choose l g g' = rw (g.0, g'.0, blocks, distance, l.0, l.1.0)
  deeds ReadHeader l g g' = rw (g.0, g'.0, l.0)
  deeds WriteHeaderN l g g' = rw (g.0, g.1.0, g'.0, g'.1.0)
  deeds WriteHeaderH l g g' = rw (g.0, g.1.0, g'.0, g'.1.0)
  deeds FreeHeader l g g' = rw (g.0, g.1.0, g'.0, g'.1.0, l.0)
  deeds EmptyContent l g g' = rw (g.0, g.1.0, g'.0, g'.1.0)
  deeds ReadContent l g g' = rw (g.0, g.1.0, g'.0, g'.1.0, l.0)
  deeds (WriteContent b) l g g' = rw (g.0, g.1.0, g'.0, g'.1.0)
  deeds (MapTo b) l g g' = refl
  deeds Unmap l g g' = refl

  pub same_deed : (a : Act) → SameSights s s' r (shape a).looks → Ready s t r a → Ready s' t r a → perform a s' t r ≡ perform a s t r
  same_deed a l g g' =
      deeds a l (granted s t r (asks a) g.met g.unblocked) (granted s' t r (asks a) g'.met g'.unblocked)
