-- Which open operation has its place, `placed`, and what a step does to that: a step that takes a last lock
-- gives its own thread a place, a step that ends takes it away, and no other step gives or takes one, of its own thread or another.
-- What a line does to its thread's record and to the tables is said by the shape of its act (Acts); the rest is tests at every line.
-- Assumes nothing.
use Rattle.std.specs.Prelude.{Some}
use mathlib.Core.Path.{◌≡◌, refl, sym, ap, ◌∙◌, subst, fun_ext}
use mathlib.Core.Bool.{Bool, true, false, not, ◌&&◌, ◌||◌}
use mathlib.Core.Logic.{◌⊎◌, inl, inr}
use Prim.Native.Nat.{ℕ, ◌+◌, ◌<◌}
use native.Mathlib.Omega.{arith}
use lib.Dec.{eqb, ltb}
use borrow.Author.Tests.{eqb-true, eqb-false, eq-eqb, ltb-true, not-true}
use Rattle.meaning.specs.declared.Act.{Act}
use Rattle.meaning.specs.declared.Thread.{Thread}
use Rattle.meaning.specs.declared.Effect.{Effect}
use Rattle.meaning.specs.declared.Verdict.{Verdict}
use Rattle.meaning.specs.declared.Verdict.TheVariants.{Blocked, Fault, Go, Done}
use Rattle.meaning.specs.Numbers.{WENT, FINISHED}
use Rattle.meaning.specs.Store.{Store, idle}
use Rattle.meaning.specs.Holding.{none, free}
use Rattle.meaning.specs.Programs.{WRITE, LEVEL, act_at, last_take, unmoved_take}
use Rattle.meaning.specs.Choosing.{to_block, least_worn, from_block, moves}
use Rattle.meaning.specs.Step.{verdict, put, apply}
use Rattle.meaning.specs.Needs.{asks}
use Rattle.meaning.specs.Call.{is_idle, stored_n, stored_c}
use Rattle.meaning.specs.Schedule.{AtTake, takes_last, past_last, may_move, placed, operation}
use Rattle.meaning.proofs.Base.Words.{either_way, clash, alike, alike_is, and_left, and_right, or_way, free-held, held_once}
use Rattle.meaning.proofs.Invariant.{h_heads_p, chosen_now, q-free, holds_h, owns_headers, takes_h, takes_n, Stands, GuardsHeader, GuardsWear, Inv}
use Rattle.meaning.proofs.Invariant.Keeping.{standing, every_line, everywhere, up, put-kept, Moves}
use Rattle.meaning.proofs.Lines.{Fine}
use Rattle.meaning.proofs.Lines.EveryLine.{fine}
use Rattle.meaning.proofs.Progress.{up_busy}
use Rattle.meaning.proofs.EitherOrder.{Goes, goes, ends, Going, told-going, goes-unblocked}
use Rattle.meaning.proofs.Acts.{Shape, shape, Quiet, Onto, Lands, lands, is_take, waits-take}
use Rattle.meaning.proofs.Base.Searches.{LeastWorn, least_worn_finds, finds, finds-nobody}

-- ---- what is said

-- a levelling that chooses now moves a block
abbrev pub moves_now : Store → Bool
moves_now s = moves s.header s.wear s.blocks s.distance

-- `placed` and `takes_last`, by whether a levelling that chooses now moves a block
abbrev placed_where : Bool → Thread → Bool
placed_where m r = past_last r || may_move r && not m

abbrev last_where : Bool → Thread → Bool
last_where m r = eqb r.line (last_take r.op) || eqb r.op LEVEL && eqb r.line unmoved_take && not m

-- ---- rules of the table

abbrev shape_at : ℕ → ℕ → Shape
shape_at op line = shape (act_at op line)

-- L5, where what follows depends on the header that was read
abbrev branches : ℕ → ℕ → Bool
branches op line = h_heads_p (standing op line)

-- who ends has its place
abbrev ends-rule : ℕ → ℕ → Bool
ends-rule op line = not (shape_at op line).ends? || past_last (standing op line)

-- who goes on has a place next if it had one, or took its last lock
abbrev next-rule : Bool → ℕ → ℕ → Bool
next-rule m op line =
    eqb op 0 || (shape_at op line).ends? || branches op line ||
    alike (placed_where m (standing op (line + 1))) (placed_where m (standing op line) || last_where m (standing op line))
    && alike (placed_where m (standing op ((shape_at op line).jump line)))
    (placed_where m (standing op line) || last_where m (standing op line))

-- who branches has its place if nothing is moved; then it has it where it jumps, and else not at the next line
abbrev branch-rule : Bool → ℕ → ℕ → Bool
branch-rule m op line =
    not (branches op line)
    || not (shape_at op line).keeps_n
    && (alike (placed_where m (standing op line) || last_where m (standing op line)) (not m)
    && (past_last (standing op ((shape_at op line).jump line)) && not (placed_where m (standing op (line + 1)))))

-- who writes to a table has its place, and keeps it
abbrev write-rule : ℕ → ℕ → Bool
write-rule op line =
    (shape_at op line).quiet?
    || past_last (standing op line)
    && (past_last (standing op (line + 1)) && past_last (standing op ((shape_at op line).jump line)))

-- who has its place takes nothing more
abbrev take-rule : Bool → ℕ → ℕ → Bool
take-rule m op line =
    not (placed_where m (standing op line))
    || not (is_take (asks (act_at op line))) && (not (takes_h (standing op line)) && not (takes_n (standing op line)))

-- who takes its last lock has no place yet
abbrev last_rule : Bool → ℕ → ℕ → Bool
last_rule m op line = not (placed_where m (standing op line) && last_where m (standing op line))

-- the number and the word of an operation stay
abbrev work-rule : ℕ → ℕ → Bool
work-rule op line = (not (eqb op WRITE) || (shape_at op line).keeps_c) && (eqb op LEVEL || (shape_at op line).keeps_n)

-- nobody has a place at its first line
abbrev first_rule : Bool → ℕ → ℕ → Bool
first_rule m op line = not (eqb line 1) || not (placed_where m (standing op line))

-- lines only go up
abbrev up_rule : ℕ → ℕ → Bool
up_rule op line = ltb line ((shape_at op line).jump line)

abbrev both : (Bool → ℕ → ℕ → Bool) → ℕ → ℕ → Bool
both rule op line = rule true op line && rule false op line

at_both : (rule : Bool → ℕ → ℕ → Bool) (m : Bool) (op line : ℕ) → both rule op line ≡ true → rule m op line ≡ true
at_both rule true op line x = and_left (rule true op line) _ x
at_both rule false op line x = and_right (rule true op line) _ x

record Rules : Type 0 where
  ends : every_line ends-rule ≡ true
  next : every_line (both next-rule) ≡ true
  branch : every_line (both branch-rule) ≡ true
  write : every_line write-rule ≡ true
  take : every_line (both take-rule) ≡ true
  last : every_line (both last_rule) ≡ true
  work : every_line work-rule ≡ true
  first : every_line (both first_rule) ≡ true
  up : every_line up_rule ≡ true

rules : Rules
rules =
    record {
      ends = refl;
      next = refl;
      branch = refl;
      write = refl;
      take = refl;
      last = refl;
      work = refl;
      first = refl;
      up = refl;
    }

-- ---- where levelling branches

-- what it chose moves a block exactly where the header of `from` isn't free
chosen-moves : (s : Store) (p q : ℕ) → to_block s.header s.wear s.blocks ≡ Some q →
    from_block s.wear s.distance q (least_worn s.header s.wear s.blocks) ≡ p → s.header q ≡ none →
    moves_now s ≡ not (free (s.header p))
chosen-moves s p q to from empty =
    rw (to, from) (either_way (eqb p q)
    (λ e. let z : s.header p ≡ none = rw (eqb-true p q e) empty in rw (e, z))
    (λ e. rw e (sym (go (eqb-false p q e)
    (least_worn_finds s.header s.wear s.blocks)))))
  where
    go : (p ≡ q → ⊥) → LeastWorn s.header s.wear s.blocks →
        not (free (s.header p)) ≡ true
    go apart (finds m b f e) =
        either_way (ltb (s.wear q) (s.wear m + s.distance)) (λ x. absurd (apart (sym (rw (e, x) at from))))
        (λ x. subst (λ (k : ℕ). not (free (s.header k)) ≡ true) (rw (e, x) at from) f)
    go apart (finds-nobody all e) = absurd (apart (sym (rw e at from)))

module _ (s : Store) (I : Inv s) (t : ℕ) where
  branch-moves : branches (s.thread t).op (s.thread t).line ≡ true → moves_now s ≡ not (free (s.thread t).h)
  branch-moves x =
      let r = s.thread t in
      let c = rw (up h_heads_p chosen_now refl r (I.stands t) x) at (I.facts t).chosen in
      let f = rw (up h_heads_p q-free refl r (I.stands t) x) at (I.facts t).free-q in
      let h = rw x at (I.facts t).heads-p in
      rw h (chosen-moves s r.p r.q c.to c.from f)

-- ---- what a step does

-- thread t went on with record r' and an effect
pub record Went (s : Store) (t : ℕ) (r' : Thread) (e : Effect) : Type 0 where
  -- it has its place if it had it, or took its last lock
  pub place : placed (apply s t r' e) r' ≡ (placed s (s.thread t) || takes_last s (s.thread t))
  pub work : operation t r'.op r'.n r'.c ≡ operation t (s.thread t).op (s.thread t).n (s.thread t).c
  pub op : r'.op ≡ (s.thread t).op
  pub up : (s.thread t).line < r'.line
  pub quiet : placed s (s.thread t) ≡ false → Quiet e

pub data Came (s : Store) (t number : ℕ) (r' : Thread) (e : Effect) : Type 0 where
  went : number ≡ WENT → Went s t r' e → Came s t number r' e
  over : number ≡ FINISHED → r' ≡ idle → placed s (s.thread t) ≡ true → Came s t number r' e

placed_at : (m : Bool) (r : Thread) (op line : ℕ) → r.op ≡ op → r.line ≡ line →
    placed_where m r ≡ placed_where m (standing op line)
placed_at m r op line o l = rw (o, l)

moves-quiet : (s : Store) (t : ℕ) (r' : Thread) (e : Effect) → Quiet e → moves_now (apply s t r' e) ≡ moves_now s
moves-quiet s t r' e q = rw (q.header, q.wear)

module _ (s : Store) (I : Inv s) (t : ℕ) (busy : is_idle (s.thread t) ≡ false) where
  abbrev op : ℕ
  op = (s.thread t).op

  abbrev line : ℕ
  line = (s.thread t).line

  abbrev a : Shape
  a = shape_at op line

  -- whether it has its place next
  abbrev then_placed : Bool
  then_placed = placed s (s.thread t) || takes_last s (s.thread t)

  rule : (test : ℕ → ℕ → Bool) → every_line test ≡ true → test op line ≡ true
  rule test all = everywhere test all (s.thread t) (I.stands t)

  module _ (r' : Thread) (e : Effect) (O : Onto (act_at op line) s t (s.thread t) r' e) where
    -- what holds of both lines to which it may go holds of the one
    at_next : (P : ℕ → Type 0) → P (line + 1) → P (a.jump line) → P r'.line
    at_next P x y = go O.line
      where
        go : (r'.line ≡ line + 1) ⊎ (r'.line ≡ a.jump line) → P r'.line
        go (inl z) = subst P (sym z) x
        go (inr z) = subst P (sym z) y

    went_up : line < r'.line
    went_up = at_next (λ l. line < l) (omega arith) (ltb-true line _ (rule up_rule rules.up))

    went-work : operation t r'.op r'.n r'.c ≡ operation t op (s.thread t).n (s.thread t).c
    went-work =
        let keeps = rule work-rule rules.work in
        let n : stored_n r'.op r'.n ≡ stored_n op (s.thread t).n =
        rw O.op (either_way (eqb op LEVEL) (λ x. rw x)
        (λ x. rw x (rw (rw x at (and_right (not (eqb op WRITE) || a.keeps_c) _ keeps)) at O.n))) in
        let c : stored_c r'.op r'.c ≡ stored_c op (s.thread t).c =
        rw O.op (either_way (eqb op WRITE)
        (λ x. rw x (rw (rw x at (and_left (not (eqb op WRITE) || a.keeps_c) _ keeps)) at O.c))
        (λ x. rw x)) in
        λ i. record { thread = t; op = O.op i; number = n i; word = c i }

    went-quiet : placed s (s.thread t) ≡ false → Quiet e
    went-quiet x =
        or_way a.quiet? _ (rule write-rule rules.write) (λ q. rw q at O.quiet)
        (λ y. clash refl (rw (and_left (past_last (standing op line)) _ y) at x))

    went-place : placed (apply s t r' e) r' ≡ then_placed
    went-place =
        or_way a.quiet? _ (rule write-rule rules.write)
        (λ q. rw (
          moves-quiet s t r' e (rw q at O.quiet),
          placed_at (moves_now s) r' op r'.line O.op refl,
        ) (either_way (branches op line) branching straight))
        (λ y.
        let was = and_left (past_last (standing op line)) _ y in
        let next = and_right (past_last (standing op line)) _ y in
        let is : past_last (standing op r'.line) ≡ true =
        at_next (λ l. past_last (standing op l) ≡ true)
        (and_left (past_last (standing op (line + 1))) _ next)
        (and_right (past_last (standing op (line + 1))) _ next) in
        rw (O.op, is, was))
      where
        branching : branches op line ≡ true →
            placed_where (moves_now s) (standing op r'.line) ≡ then_placed
        branching b =
            let m = branch-moves s I t b in
            let x = rw b at (at_both branch-rule (moves_now s) op line (rule (both branch-rule) rules.branch)) in
            let y = and_right (not a.keeps_n) _ x in
            let z = and_right (alike then_placed (not (moves_now s))) _ y in
            let was = alike_is _ _ (and_left (alike then_placed (not (moves_now s))) _ y) in
            let to = rw (and_left (not a.keeps_n) _ x) at O.branch in
            either_way (free (s.thread t).h)
            (λ f.
            let l : r'.line ≡ a.jump line = to ∙ rw f in
            let is : placed_where (moves_now s) (standing op (a.jump line)) ≡ true =
            rw (and_left (past_last (standing op (a.jump line))) _ z) in
            ap (λ (k : ℕ). placed_where (moves_now s) (standing op k)) l ∙ is ∙ sym (was ∙ rw (m, f)))
            (λ f.
            let l : r'.line ≡ line + 1 = to ∙ rw f in
            ap (λ (k : ℕ). placed_where (moves_now s) (standing op k)) l
            ∙ not-true _ (and_right (past_last (standing op (a.jump line))) _ z) ∙ sym (was ∙ rw (m, f)))

        straight : branches op line ≡ false →
            placed_where (moves_now s) (standing op r'.line) ≡ then_placed
        straight b =
            let x =
            rw (busy, O.goes, b) at (at_both next-rule (moves_now s) op line (rule (both next-rule) rules.next)) in
            at_next (λ l. placed_where (moves_now s) (standing op l) ≡ then_placed)
            (alike_is _ _ (and_left (alike (placed_where (moves_now s) (standing op (line + 1))) then_placed) _ x))
            (alike_is _ _ (and_right (alike (placed_where (moves_now s) (standing op (line + 1))) then_placed) _ x))

    went-all : Went s t r' e
    went-all = record { place = went-place; work = went-work; op = O.op; up = went_up; quiet = went-quiet }

  goes-came : (v : Verdict) (n x : ℕ) (r' : Thread) (e : Effect) → Goes v n x r' e → Lands (act_at op line) s t (s.thread t) v →
      Came s t n r' e
  goes-came v n x r' e goes O = went refl (went-all r' e O)
  goes-came v n x r' e ends d = over refl refl (rw (rw d.ends at (rule ends-rule rules.ends)))

pub going-came : (s : Store) → Inv s → (t : ℕ) → (g : Going s t) → Came s t g.number g.becomes g.effect
going-came s I t g =
    goes-came s I t g.busy (verdict s t) g.number g.value g.becomes g.effect g.told'
    (lands (act_at (s.thread t).op (s.thread t).line) s t (s.thread t))

-- who takes its last lock has no place yet
pub last_unplaced : (s : Store) → Inv s → (t : ℕ) → takes_last s (s.thread t) ≡ true → placed s (s.thread t) ≡ false
last_unplaced s I t x =
    either_way (placed s (s.thread t))
    (λ y. clash (rw (y, x) at (at_both last_rule (moves_now s) (s.thread t).op (s.thread t).line
    (everywhere (both last_rule) rules.last (s.thread t) (I.stands t)))) refl)
    (λ y. y)

-- who has just begun has none
pub first_unplaced : (s : Store) (r : Thread) → Stands r → r.line ≡ 1 → placed s r ≡ false
first_unplaced s r st l =
    not-true (placed s r)
    (rw (eq-eqb r.line 1 l) at (at_both first_rule (moves_now s) r.op r.line
    (everywhere (both first_rule) rules.first r st)))

-- ---- who has its place can step

module _ (s : Store) (I : Inv s) (t : ℕ) (has : placed s (s.thread t) ≡ true) where
  abbrev goes_on : Bool
  goes_on = not (is_take (asks (act_at (s.thread t).op (s.thread t).line)))

  abbrev takes_none : Bool
  takes_none = not (takes_h (s.thread t)) && not (takes_n (s.thread t))

  placed-takes : (goes_on && takes_none) ≡ true
  placed-takes =
      rw has at (at_both take-rule (moves_now s) (s.thread t).op (s.thread t).line
      (everywhere (both take-rule) rules.take (s.thread t) (I.stands t)))

  -- it is at no take
  pub placed_no_take : AtTake (s.thread t) → ⊥
  placed_no_take (inl x) = clash (ap (λ (a : Act). is_take (asks a)) x) (not-true _ (and_left goes_on takes_none placed-takes))
  placed_no_take (inr x) = clash (ap (λ (a : Act). is_take (asks a)) x.1) (not-true _ (and_left goes_on takes_none placed-takes))

  pub placed-takes_h : takes_h (s.thread t) ≡ false
  placed-takes_h = not-true _ (and_left (not (takes_h (s.thread t))) _ (and_right goes_on takes_none placed-takes))

  pub placed-takes_n : takes_n (s.thread t) ≡ false
  placed-takes_n = not-true _ (and_right (not (takes_h (s.thread t))) _ (and_right goes_on takes_none placed-takes))

  pub placed-busy : (t < s.threads) × (is_idle (s.thread t) ≡ false)
  placed-busy = up_busy s I (placed s) refl t has

  verdict-going : (v : Verdict) → v ≡ verdict s t → Fine s t (s.thread t) v →
      Lands (act_at (s.thread t).op (s.thread t).line) s t (s.thread t) v → Going s t
  verdict-going Blocked e f l =
      clash (waits-take s t (s.thread t) (asks (act_at (s.thread t).op (s.thread t).line)) l.1)
      (not-true _ (and_left goes_on takes_none placed-takes))
  verdict-going Fault e f l = absurd f
  verdict-going (Go r' x) e f l = told-going s t placed-busy.0 placed-busy.1 (Go r' x) e refl
  verdict-going (Done v x) e f l = told-going s t placed-busy.0 placed-busy.1 (Done v x) e refl

  pub placed-going : Going s t
  placed-going =
      verdict-going (verdict s t) refl (fine s I t placed-busy.1)
      (lands (act_at (s.thread t).op (s.thread t).line) s t (s.thread t))

-- ---- another thread's step leaves places as they are

module _ (s : Store) (I : Inv s) (t : ℕ) (r' : Thread) (e : Effect) (M : Moves s t (s.thread t) r' e) where
  -- headers and wear change only under H
  moves-kept : holds_h (s.thread t) ≡ false → moves_now (apply s t r' e) ≡ moves_now s
  moves-kept x =
      let header : put e.header s.header ≡ s.header =
      fun_ext (λ m. put-kept e.header s.header (λ m w. GuardsHeader s t m) M.guards.header m
      (λ w g. clash (up owns_headers holds_h refl (s.thread t) (I.stands t) (sym (I.holds t).owner ∙ g.owner)) x)) in
      let wear : put e.wear s.wear ≡ s.wear =
      fun_ext (λ m. put-kept e.wear s.wear (λ m w. GuardsWear s t m) M.guards.wear m
      (λ w g. clash (sym (I.holds t).lock ∙ g.lock) x)) in
      rw (header, wear)

  module _ (v : ℕ) (apart : t ≡ v → ⊥) where
    pub placed-kept : placed (apply s t r' e) (s.thread v) ≡ placed s (s.thread v)
    placed-kept =
        either_way (may_move (s.thread v))
        (λ x.
        let holds = (I.holds v).lock ∙ up may_move holds_h refl (s.thread v) (I.stands v) x in
        rw (moves-kept (either_way (holds_h (s.thread t))
        (λ y. absurd (apart (held_once t v s.lock ((I.holds t).lock ∙ y) holds))) (λ y. y))))
        (λ x. rw x)

    -- where it can take it
    pub last_kept : Going s v → takes_last (apply s t r' e) (s.thread v) ≡ takes_last s (s.thread v)
    last_kept g =
        either_way (eqb (s.thread v).op LEVEL && eqb (s.thread v).line unmoved_take)
        (λ x.
        let o : (s.thread v).op ≡ LEVEL = eqb-true (s.thread v).op LEVEL (and_left (eqb (s.thread v).op LEVEL) _ x) in
        let l : (s.thread v).line ≡ 1 = eqb-true (s.thread v).line 1 (and_right (eqb (s.thread v).op LEVEL) _ x) in
        let f : free s.lock ≡ true =
        either_way (free s.lock) (λ y. y)
        (λ y. absurd (goes-unblocked s v (verdict s v) g.number g.value g.becomes g.effect g.told'
        (rw (o, l, y)))) in
        rw (moves-kept (sym (I.holds t).lock ∙ free-held t s.lock f)))
        (λ x. rw x)
