-- What a line needs, and what it waits for: 01, the paragraph "A line's needs", and the row BLOCKED of the table of numbers, with readers and a
-- writer as 02, §3, has them, for each act.
-- `perform` of Step doesn't use this page. That FAULT and BLOCKED come exactly where it says is proved of `perform` (proofs/Acts), and of
-- areas (`refusals` of the crate demands).
use Rattle.std.specs.Prelude.{Bool, true, false, not, ◌&&◌, ◌||◌, List, [], ◌∷◌, ℕ}
use Rattle.meaning.specs.declared.Kind.{Kind}
use Rattle.meaning.specs.declared.Kind.TheVariants.{Reader, Writer}
use Rattle.meaning.specs.declared.Reg.{Reg}
use Rattle.meaning.specs.declared.Reg.TheVariants.{P, Q}
use Rattle.meaning.specs.declared.Act.{Act}
use Rattle.meaning.specs.declared.Act.TheVariants.{Nothing, TakeH, ReleaseH, FinishH, TakeN, ReleaseN, FinishN, OwnHeaders, LetGoHeaders, Own, LetGo, GoIfMapped, GoIfUnmapped, EmptyIfUnmapped, GoIfFree, PickFree, Choose, ReadHeader, WriteHeaderN, WriteHeaderH, FreeHeader, EmptyContent, ReadContent, WriteContent, MapTo, Unmap}
use Rattle.meaning.specs.declared.Thread.{Thread}
use Rattle.meaning.specs.Table.{every}
use Rattle.meaning.specs.Store.{Store}
use Rattle.meaning.specs.Holding.{free, held_by, held, admits}
use Rattle.meaning.specs.Step.{block}

pub data Need : Type 0 where
  -- this thread holds H; n.lock, as that kind
  holds-h : Need
  holds-n : Kind → Need
  -- nobody owns the headers
  unowned_headers : Need
  -- the block in a register may be owned: as a reader where nobody writes it and this thread has no place in its set, as the writer where
  -- nobody owns it
  ownable : Kind → Reg → Need
  -- this thread owns the headers; the block in a register, as that kind; that block, as either
  owns-headers : Need
  owns : Kind → Reg → Need
  owns_either : Reg → Need
  -- the header of the block in a register isn't free
  headed : Reg → Need
  -- some block is free
  some-free : Need

-- of store s, for thread t with record r
abbrev pub met : Store → ℕ → Thread → Need → Bool
met s t r holds-h = held_by t s.lock
met s t r (holds-n κ) = held κ t (s.locks r.n)
met s t r unowned_headers = free s.owner
met s t r (ownable κ b) = admits κ t (s.own (block b r))
met s t r owns-headers = held_by t s.owner
met s t r (owns κ b) = held κ t (s.own (block b r))
met s t r (owns_either b) = held Reader t (s.own (block b r)) || held Writer t (s.own (block b r))
met s t r (headed b) = not (free (s.header (block b r)))
met s t r some-free = not (every s.blocks (λ m. not (free (s.header m))))

abbrev pub all_met : Store → ℕ → Thread → List Need → Bool
all_met s t r [] = true
all_met s t r (x ∷ l) = met s t r x && all_met s t r l

-- what an act asks for: that the lock which it takes, H or n.lock, lets this thread in, and else it is BLOCKED; or that its needs are met, and
-- else it meets FAULT
pub data Asks : Type 0 where
  takes-h : Asks
  takes-n : Kind → Asks
  needs : List Need → Asks
  -- there is no such line
  no_line : Asks

abbrev pub asks : Act → Asks
-- a take: that nobody has the lock, this thread included; for a reader's, that nobody writes and this thread has no place in the set
asks TakeH = takes-h
asks (TakeN κ) = takes-n κ
-- a release: that this thread holds the lock, as the line's kind
asks ReleaseH = needs (holds-h ∷ [])
asks (FinishH a) = needs (holds-h ∷ [])
asks ReleaseN = needs (holds-n Writer ∷ [])
asks (FinishN κ a) = needs (holds-n κ ∷ [])
-- owning: that there is no owner; for a reader, that nobody writes and this thread has no place in the set
asks OwnHeaders = needs (unowned_headers ∷ [])
asks (Own κ b) = needs (ownable κ b ∷ [])
-- letting go: that this thread is the owner, as the line's kind
asks LetGoHeaders = needs (owns-headers ∷ [])
asks (LetGo κ b) = needs (owns κ b ∷ [])
-- content lines: that this thread writes the block, to read it that it has a place in its set or writes it; and that the block isn't free
asks EmptyContent = needs (owns Writer P ∷ headed P ∷ [])
asks ReadContent = needs (owns_either P ∷ headed P ∷ [])
asks (WriteContent b) = needs (owns Writer b ∷ headed b ∷ [])
-- lines that write a header: that this thread owns the headers, and writes the block too
asks WriteHeaderN = needs (owns-headers ∷ owns Writer P ∷ [])
asks WriteHeaderH = needs (owns-headers ∷ owns Writer Q ∷ [])
asks FreeHeader = needs (owns-headers ∷ owns Writer P ∷ [])
-- L4, W5 and L3: that this thread owns the headers; W5 and L3 besides: that some block is free
asks ReadHeader = needs (owns-headers ∷ [])
asks PickFree = needs (owns-headers ∷ some-free ∷ [])
asks Choose = needs (owns-headers ∷ some-free ∷ [])
-- map lines: nothing
asks (MapTo b) = needs []
asks Unmap = needs []
-- nor have those that look something up, in the map or at register h; W3 counts an erase besides, and needs nothing for it
asks (GoIfMapped l) = needs []
asks (GoIfUnmapped l) = needs []
asks (EmptyIfUnmapped l) = needs []
asks (GoIfFree l) = needs []
asks Nothing = no_line

-- a need of it fails
abbrev pub fails : Store → ℕ → Thread → Asks → Bool
fails s t r takes-h = false
fails s t r (takes-n κ) = false
fails s t r (needs l) = not (all_met s t r l)
fails s t r no_line = true

-- it has to wait
abbrev pub waits : Store → ℕ → Thread → Asks → Bool
waits s t r takes-h = not (free s.lock)
waits s t r (takes-n κ) = not (admits κ t (s.locks r.n))
waits s t r (needs l) = false
waits s t r no_line = false
