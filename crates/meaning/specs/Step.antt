-- What a line does. 01, "The lines", "A line's needs" and "Choosing", with readers and a writer as 02, §3, has them: a line is an act of
-- Programs; `perform` says what it would do, and `apply` does it. So a step that is refused or blocked does nothing.
use Rattle.std.specs.Prelude.{Bool, not, cond, ◌&&◌, ◌||◌, ℕ, ◌+◌, ◌-◌, ltb, Option, Some, None}
use Rattle.meaning.specs.declared.Kind.TheVariants.{Reader, Writer}
use Rattle.meaning.specs.declared.Reg.{Reg}
use Rattle.meaning.specs.declared.Reg.TheVariants.{P, Q}
use Rattle.meaning.specs.declared.Answer.{Answer}
use Rattle.meaning.specs.declared.Answer.TheVariants.{Zero, C, Moved}
use Rattle.meaning.specs.declared.Act.{Act}
use Rattle.meaning.specs.declared.Act.TheVariants.{Nothing, TakeH, ReleaseH, FinishH, TakeN, ReleaseN, FinishN, OwnHeaders, LetGoHeaders, Own, LetGo, GoIfMapped, GoIfUnmapped, EmptyIfUnmapped, GoIfFree, PickFree, Choose, ReadHeader, WriteHeaderN, WriteHeaderH, FreeHeader, EmptyContent, ReadContent, WriteContent, MapTo, Unmap}
use Rattle.meaning.specs.declared.Thread.{Thread}
use Rattle.meaning.specs.declared.Pass.{Pass}
use Rattle.meaning.specs.declared.Pass.TheVariants.{Leave, Plus, Minus}
use Rattle.meaning.specs.declared.Effect.{Effect}
use Rattle.meaning.specs.declared.Verdict.{Verdict}
use Rattle.meaning.specs.declared.Verdict.TheVariants.{Blocked, Fault, Go, Done}
use Rattle.meaning.specs.Table.{upd}
use Rattle.meaning.specs.Limits.{most_word}
use Rattle.meaning.specs.Store.{Store}
use Rattle.meaning.specs.Holding.{none, free, by, held_by, mark, held, admits, naming, named}
use Rattle.meaning.specs.Programs.{act_at}
use Rattle.meaning.specs.Choosing.{lowest_free, to_block, least_worn, from_block}

-- ---- the thread's record

abbrev pub goto : ℕ → Thread → Thread
goto l r = record { op = r.op; line = l; n = r.n; c = r.c; p = r.p; q = r.q; h = r.h }

-- to the following line, for lines that name no other
abbrev pub onward : Thread → Thread
onward r = goto (r.line + 1) r

abbrev pub set_n : ℕ → Thread → Thread
set_n x r = record { op = r.op; line = r.line; n = x; c = r.c; p = r.p; q = r.q; h = r.h }

abbrev pub set_c : ℕ → Thread → Thread
set_c x r = record { op = r.op; line = r.line; n = r.n; c = x; p = r.p; q = r.q; h = r.h }

abbrev pub set_p : ℕ → Thread → Thread
set_p x r = record { op = r.op; line = r.line; n = r.n; c = r.c; p = x; q = r.q; h = r.h }

abbrev pub set_q : ℕ → Thread → Thread
set_q x r = record { op = r.op; line = r.line; n = r.n; c = r.c; p = r.p; q = x; h = r.h }

abbrev pub set_h : ℕ → Thread → Thread
set_h x r = record { op = r.op; line = r.line; n = r.n; c = r.c; p = r.p; q = r.q; h = x }

abbrev pub block : Reg → Thread → ℕ
block P r = r.p
block Q r = r.q

-- ---- the effects that there are

-- what becomes of each word and table, in the area's order
abbrev pub effect : Option ℕ → Option ℕ → Option (ℕ × ℕ) → Pass → Option (ℕ × ℕ) → Option (ℕ × ℕ) → Option (ℕ × ℕ) → Pass → Effect
effect lock owner map locks header content wear own =
    record { lock = lock; owner = owner; map = map; locks = locks; header = header; content = content; wear = wear; own = own }

abbrev pub nothing : Effect
nothing = effect None None None Leave None None None Leave

abbrev pub on_lock : ℕ → Effect
on_lock w = effect (Some w) None None Leave None None None Leave

abbrev pub on_owner : ℕ → Effect
on_owner w = effect None (Some w) None Leave None None None Leave

abbrev pub on_map : ℕ → ℕ → Effect
on_map n w = effect None None (Some (n, w)) Leave None None None Leave

abbrev pub on_locks : Pass → Effect
on_locks c = effect None None None c None None None Leave

abbrev pub on_header : ℕ → ℕ → Effect
on_header m w = effect None None None Leave (Some (m, w)) None None Leave

abbrev pub on_content : ℕ → ℕ → Effect
on_content m w = effect None None None Leave None (Some (m, w)) None Leave

abbrev pub on_wear : ℕ → ℕ → Effect
on_wear m w = effect None None None Leave None None (Some (m, w)) Leave

-- a block freed, with its wear
abbrev pub on_freed : ℕ → ℕ → Effect
on_freed m w = effect None None None Leave (Some (m, none)) None (Some (m, w)) Leave

abbrev pub on_own : Pass → Effect
on_own c = effect None None None Leave None None None c

-- ---- verdicts

-- a line's need: FAULT where it isn't met
abbrev pub need : Bool → Verdict → Verdict
need met v = cond met v Fault

-- a take: BLOCKED where its lock doesn't let it in
abbrev pub take : Bool → Verdict → Verdict
take lets v = cond lets v Blocked

-- on to the next line with a record and an effect
abbrev pub next : Thread → Effect → Verdict
next r e = Go (onward r) e

-- to one record where the word is free, to another where it isn't
abbrev pub branch : ℕ → Thread → Thread → Verdict
branch w r r' = cond (free w) (Go r nothing) (Go r' nothing)

-- 01, "Choosing": the largest wear, 4,294,967,295, goes up no more
abbrev pub worn : ℕ → ℕ
worn w = cond (ltb w most_word) (w + 1) w

-- 0 where h is free, 1 where it isn't
abbrev pub moved : ℕ → ℕ
moved h = cond (free h) 0 1

abbrev pub answer : Answer → Thread → ℕ
answer Zero r = 0
answer C r = r.c
answer Moved r = moved r.h

-- t reads or writes the block, and its header isn't free: what reading a content needs
abbrev pub sees : Store → ℕ → ℕ → Bool
sees s t m = (held Reader t (s.own m) || held Writer t (s.own m)) && not (free (s.header m))

-- t writes the block, and its header isn't free: what writing a content needs
abbrev pub touches : Store → ℕ → ℕ → Bool
touches s t m = held Writer t (s.own m) && not (free (s.header m))

-- t owns the headers and writes the block: what writing a header needs
abbrev pub heads : Store → ℕ → ℕ → Bool
heads s t m = held_by t s.owner && held Writer t (s.own m)

-- W3, where w is n's word of the map and x the wear of the block that it names: on where n is unmapped, else p becomes that block and its wear
-- is up by one (document 02, §1: the chip can't overwrite, so that a rewrite is an erase)
abbrev pub to_rewrite : ℕ → ℕ → ℕ → Thread → Verdict
to_rewrite l w x r = cond (free w) (next r nothing) (Go (set_p (named w) (goto l r)) (on_wear (named w) (worn x)))

-- L3 where `to` and the least worn mapped block are found
abbrev pub choosing : (ℕ → ℕ) → ℕ → Thread → Option ℕ → Option ℕ → Verdict
choosing wear distance r None from = Fault
choosing wear distance r (Some to) from = next (set_q to (set_p (from_block wear distance to from) r)) nothing

-- what the act would do: of store s, for thread t with record r
abbrev pub perform : Act → Store → ℕ → Thread → Verdict
perform Nothing s t r = Fault
perform TakeH s t r = take (free s.lock) (next r (on_lock (by t)))
perform ReleaseH s t r = need (held_by t s.lock) (next r (on_lock none))
perform (FinishH a) s t r = need (held_by t s.lock) (Done (answer a r) (on_lock none))
perform (TakeN κ) s t r = take (admits κ t (s.locks r.n)) (next r (on_locks (Plus r.n (mark κ t))))
perform ReleaseN s t r = need (held Writer t (s.locks r.n)) (next r (on_locks (Minus r.n (mark Writer t))))
perform (FinishN κ a) s t r = need (held κ t (s.locks r.n)) (Done (answer a r) (on_locks (Minus r.n (mark κ t))))
perform OwnHeaders s t r = need (free s.owner) (next r (on_owner (by t)))
perform LetGoHeaders s t r = need (held_by t s.owner) (next r (on_owner none))
perform (Own κ b) s t r = need (admits κ t (s.own (block b r))) (next r (on_own (Plus (block b r) (mark κ t))))
perform (LetGo κ b) s t r = need (held κ t (s.own (block b r))) (next r (on_own (Minus (block b r) (mark κ t))))
perform (GoIfMapped l) s t r = to_rewrite l (s.map r.n) (s.wear (named (s.map r.n))) r
perform (GoIfUnmapped l) s t r = branch (s.map r.n) (goto l r) (set_p (named (s.map r.n)) (onward r))
perform (EmptyIfUnmapped l) s t r = branch (s.map r.n) (set_c 0 (goto l r)) (set_p (named (s.map r.n)) (onward r))
perform (GoIfFree l) s t r = branch r.h (goto l r) (set_n (named r.h) (onward r))
perform PickFree s t r =
    need (held_by t s.owner) (need (ltb (lowest_free s.header s.blocks) s.blocks)
    (next (set_p (lowest_free s.header s.blocks) r) nothing))
perform Choose s t r =
    need (held_by t s.owner)
    (choosing s.wear s.distance r (to_block s.header s.wear s.blocks) (least_worn s.header s.wear s.blocks))
perform ReadHeader s t r = need (held_by t s.owner) (next (set_h (s.header r.p) r) nothing)
perform WriteHeaderN s t r = need (heads s t r.p) (next r (on_header r.p (naming r.n)))
perform WriteHeaderH s t r = need (heads s t r.q) (next r (on_header r.q r.h))
perform FreeHeader s t r = need (heads s t r.p) (next r (on_freed r.p (worn (s.wear r.p))))
perform EmptyContent s t r = need (touches s t r.p) (next r (on_content r.p 0))
perform ReadContent s t r = need (sees s t r.p) (next (set_c (s.content r.p) r) nothing)
perform (WriteContent b) s t r = need (touches s t (block b r)) (next r (on_content (block b r) r.c))
perform (MapTo b) s t r = next r (on_map r.n (naming (block b r)))
perform Unmap s t r = next r (on_map r.n none)

-- what thread t's next line would do
abbrev pub verdict : Store → ℕ → Verdict
verdict s t = perform (act_at (s.thread t).op (s.thread t).line) s t (s.thread t)

-- ---- doing it

abbrev pub become : Option ℕ → ℕ → ℕ
become None x = x
become (Some w) x = w

abbrev pub put : Option (ℕ × ℕ) → (ℕ → ℕ) → ℕ → ℕ
put None f = f
put (Some (i, w)) f = upd f i w

-- what a change of locks or owners f comes to: the word that it puts
abbrev pub came : (ℕ → ℕ) → Pass → Option (ℕ × ℕ)
came f Leave = None
came f (Plus i m) = Some (i, f i + m)
came f (Minus i m) = Some (i, f i - m)

-- the store with these records of its threads, and an effect
abbrev pub changed : Store → (ℕ → Thread) → Effect → Store
changed s records e =
    record {
      threads = s.threads;
      numbers = s.numbers;
      blocks = s.blocks;
      distance = s.distance;
      lock = become e.lock s.lock;
      owner = become e.owner s.owner;
      thread = records;
      map = put e.map s.map;
      locks = put (came s.locks e.locks) s.locks;
      header = put e.header s.header;
      content = put e.content s.content;
      wear = put e.wear s.wear;
      own = put (came s.own e.own) s.own;
    }

-- the store with t's record and an effect
abbrev pub apply : Store → ℕ → Thread → Effect → Store
apply s t r e = changed s (upd s.thread t r) e
