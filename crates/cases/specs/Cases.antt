-- 01, "Checked by hand": the starred cases, one list and one theorem, proved by computing the definitions; and the example of "The script
-- program", another. A case is data: a format, begins and steps, and what must come back. Assumes nothing.
use Rattle.std.specs.Prelude.{◌≡◌, refl, List, [], ◌∷◌, map, ℕ, zero, suc, ◌-◌, replicate}
use Rattle.meaning.specs.Numbers.{WENT, FINISHED, IDLE, LIMITS}
use Rattle.meaning.specs.Programs.{WRITE, READ, UNMAP, LEVEL}
use Rattle.meaning.specs.Call.{Reply, Entry, begin, step}
use Rattle.meaning.specs.Schedule.{run, replies}
use Rattle.store.specs.Layout.{size}
use Rattle.store.specs.Area.{bytes, well_formed}
use Rattle.store.specs.Calls.{format_area, call_area}

-- ---- what a case is

-- a call, and the number and value that must come back
pub record Exchange : Type 0 where
  pub call : Entry
  pub number : ℕ
  pub value : ℕ

-- what must stand in the area at the end: anything, or these words
pub data End : Type 0 where
  anything : End
  exactly : List ℕ → End

pub record Case : Type 0 where
  pub t : ℕ
  pub n : ℕ
  pub p : ℕ
  pub d : ℕ
  -- what the format must answer
  pub number : ℕ
  pub exchanges : List Exchange
  pub end : End

-- what comes back: the numbers and values, the format's first, and the area where the case speaks of it
pub record Seen : Type 0 where
  pub said : List (ℕ × ℕ)
  pub area : List ℕ

abbrev pub expected : Case → Seen
expected c =
    record {
      said = (c.number, 0) ∷ map (λ l. (l.number, l.value)) c.exchanges;
      area = elim c.end [ anything ↦ [] | exactly ws ↦ bytes ws ];
    }

-- the format is of an area of the right length whose bytes are all 255
abbrev pub formatted : Case → Reply (List ℕ)
formatted c = format_area (replicate (size c.t c.n c.p) 255) c.t c.n c.p c.d

abbrev pub happens : Case → Seen
happens c =
    record {
      said =
          ((formatted c).number, (formatted c).value) ∷ replies call_area (formatted c).after (map (λ l. l.call) c.exchanges);
      area =
          elim c.end [
            | anything ↦ []
            | exactly ws ↦ run call_area (formatted c).after (map (λ l. l.call) c.exchanges)
          ];
    }

-- ---- how cases are written

abbrev pub formats : ℕ → ℕ → ℕ → ℕ → ℕ → Case
formats t n p d number = record { t = t; n = n; p = p; d = d; number = number; exchanges = []; end = anything }

abbrev pub accepted : ℕ → ℕ → ℕ → ℕ → List Exchange → Case
accepted t n p d exchanges = record { t = t; n = n; p = p; d = d; number = WENT; exchanges = exchanges; end = anything }

-- thread t begins an operation, goes so many steps, and ends with a value
abbrev pub begins : ℕ → ℕ → ℕ → ℕ → List Exchange → List Exchange
begins t op n c rest = record { call = begin t op n c; number = WENT; value = 0 } ∷ rest

abbrev pub goes : ℕ → ℕ → List Exchange → List Exchange
goes zero t rest = rest
goes (suc k) t rest = record { call = step t; number = WENT; value = 0 } ∷ goes k t rest

abbrev pub ends : ℕ → ℕ → List Exchange → List Exchange
ends t value rest = record { call = step t; number = FINISHED; value = value } ∷ rest

-- an operation of thread 0, begun and stepped to its end: so many steps, the last with the value
abbrev pub to_its_end : ℕ → ℕ → ℕ → ℕ → ℕ → List Exchange → List Exchange
to_its_end op n c count value rest = begins 0 op n c (goes (count - 1) 0 (ends 0 value rest))

-- the operations of the case with 2 numbers and 3 blocks, each to its end, before the levelling
abbrev pub used_two : List Exchange → List Exchange
used_two rest =
    to_its_end WRITE 0 7 16 0 (to_its_end WRITE 1 9 16 0 (to_its_end UNMAP 0 0 11 0 (to_its_end WRITE 0 8 16 0 (to_its_end UNMAP 0 0 11 0 rest))))

-- the area of that run after its levelling, a block record a line
abbrev pub levelled : List ℕ
levelled =
    1 ∷ 2 ∷ 3 ∷ 2 ∷ 0 ∷ 0  -- the four sizes, H and the headers' owner
    ∷ 0 ∷ 0 ∷ 0 ∷ 0 ∷ 0 ∷ 0 ∷ 0  -- thread 0 is idle
    ∷ 0 ∷ 1  -- number 0 is unmapped, number 1 is on block 0
    ∷ 0 ∷ 0  -- both locks are free
    ∷ 2 ∷ 9 ∷ 2 ∷ 0  -- block 0 is number 1's, holds 9 and has wear 2
    ∷ 0 ∷ 9 ∷ 1 ∷ 0  -- block 1 is free, still holds 9 and has wear 1
    ∷ 0 ∷ 0 ∷ 0 ∷ 0  -- block 2 was never used
    ∷ []

-- ---- the starred cases, and the two that the last of them lists with it

unfoldable pub starred : List Case
starred =
    formats 1 256 256 1 LIMITS  -- N=256, P=256
    ∷ formats 1 256 257 1 WENT  -- the same with P=257
    ∷ formats 0 1 2 1 LIMITS  -- T=0
    ∷ formats 17 1 2 1 LIMITS  -- T=17
    ∷ formats 1 1 2 1000 WENT  -- D=1,000
    ∷ formats 1 1 2 1001 LIMITS  -- D=1,001
    ∷ accepted 1 1 2 1 (to_its_end READ 0 0 3 0 [])  -- a read of a fresh store: 3 steps, answer 0
    ∷ accepted 1 1 2 1 (to_its_end WRITE 0 7 16 0 [])  -- a first write: 16 steps
    ∷ accepted 1 1 2 1 (to_its_end WRITE 0 7 16 0 (to_its_end WRITE 0 8 8 0 []))  -- a second one: 8
    ∷ accepted 1 1 2 1 (to_its_end UNMAP 0 0 5 0 [])  -- an unmap that finds nothing mapped: 5 steps
    ∷ accepted 1 1 2 1 (to_its_end WRITE 0 7 16 0 (to_its_end UNMAP 0 0 11 0 []))  -- and one that does: 11
    ∷ accepted 1 1 2 1 (to_its_end LEVEL 0 0 7 0 [])  -- a level of a fresh store: 7 steps, answer 0
    ∷ record { t = 1; n = 2; p = 3; d = 2; number = WENT; exchanges = used_two (to_its_end LEVEL 0 0 18 1 []); end = exactly levelled }  -- levelling gives 1, to its bytes
    ∷ accepted 1 2 3 2 (used_two (to_its_end LEVEL 0 0 18 1 (to_its_end READ 1 0 6 9 (to_its_end READ 0 0 3 0 []))))  -- then 1 reads as 9 and 0 as 0
    -- two that stand beside these and bear no star
    ∷ accepted 1 2 3 2 (used_two (to_its_end LEVEL 0 0 18 1 (to_its_end LEVEL 0 0 7 0 [])))  -- a second level gives 0
    ∷ accepted 1 2 3 3 (used_two (to_its_end LEVEL 0 0 7 0 []))  -- with D=3 the first gives 0
    ∷ []

pub starred_hold : map happens starred ≡ map expected starred
unfolding starred well_formed
starred_hold = refl

-- ---- the script's example

unfoldable pub samples : List Case
samples =
    accepted 2 1 2 1  -- 01, "The script program", the example; by 02, §3, the second reader isn't blocked
    (record { call = begin 0 READ 0 9; number = WENT; value = 0 }
    ∷ record { call = begin 1 READ 0 0; number = WENT; value = 0 }
    ∷ record { call = step 0; number = WENT; value = 0 }
    ∷ record { call = step 1; number = WENT; value = 0 }
    ∷ record { call = step 0; number = WENT; value = 0 }
    ∷ record { call = step 0; number = FINISHED; value = 0 }
    ∷ record { call = step 1; number = WENT; value = 0 }
    ∷ record { call = step 0; number = IDLE; value = 0 }
    ∷ [])
    ∷ []

pub samples_hold : map happens samples ≡ map expected samples
unfolding samples well_formed
samples_hold = refl
