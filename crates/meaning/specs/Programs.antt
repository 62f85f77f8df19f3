-- 01, "The lines", with W3 as 02, §1, has it and kinds as §3 has them: the four programs, a line each with its label. What an act does is
-- `perform` of Step.
use Rattle.std.specs.Prelude.{List, [], ◌∷◌, ℕ, ◌-◌, get_or, length}
use Rattle.meaning.specs.declared.Kind.TheVariants.{Reader, Writer}
use Rattle.meaning.specs.declared.Reg.TheVariants.{P, Q}
use Rattle.meaning.specs.declared.Answer.TheVariants.{Zero, C, Moved}
use Rattle.meaning.specs.declared.Act.{Act}
use Rattle.meaning.specs.declared.Act.TheVariants.{Nothing, TakeH, ReleaseH, FinishH, TakeN, ReleaseN, FinishN, OwnHeaders, LetGoHeaders, Own, LetGo, GoIfMapped, GoIfUnmapped, EmptyIfUnmapped, GoIfFree, PickFree, Choose, ReadHeader, WriteHeaderN, WriteHeaderH, FreeHeader, EmptyContent, ReadContent, WriteContent, MapTo, Unmap}

abbrev pub writing : List Act
writing =
    TakeH  -- W1 take H
    ∷ TakeN Writer  -- W2 take n.lock
    ∷ GoIfMapped 12  -- W3 if n is mapped, p becomes its block, wear of p up by one, and go to W12
    ∷ OwnHeaders  -- W4 own headers
    ∷ PickFree  -- W5 p becomes the lowest-numbered free block
    ∷ Own Writer P  -- W6 own p
    ∷ WriteHeaderN  -- W7 header of p becomes n
    ∷ EmptyContent  -- W8 content of p becomes empty
    ∷ LetGo Writer P  -- W9 let go p
    ∷ MapTo P  -- W10 map n to p
    ∷ LetGoHeaders  -- W11 let go headers
    ∷ ReleaseH  -- W12 release H
    ∷ Own Writer P  -- W13 own p
    ∷ WriteContent P  -- W14 content of p becomes c
    ∷ LetGo Writer P  -- W15 let go p
    ∷ FinishN Writer Zero  -- W16 release n.lock, finish
    ∷ []

abbrev pub reading : List Act
reading =
    TakeN Reader  -- R1 take n.lock
    ∷ EmptyIfUnmapped 6  -- R2 if unmapped, c becomes 0 and go to R6; else p becomes its block
    ∷ Own Reader P  -- R3 own p
    ∷ ReadContent  -- R4 c becomes content of p
    ∷ LetGo Reader P  -- R5 let go p
    ∷ FinishN Reader C  -- R6 release n.lock, finish with c
    ∷ []

abbrev pub unmapping : List Act
unmapping =
    TakeH  -- U1 take H
    ∷ TakeN Writer  -- U2 take n.lock
    ∷ GoIfUnmapped 10  -- U3 if unmapped go to U10; else p becomes its block
    ∷ OwnHeaders  -- U4 own headers
    ∷ Own Writer P  -- U5 own p
    ∷ Unmap  -- U6 n unmapped
    ∷ FreeHeader  -- U7 header of p becomes free, wear of p up by one
    ∷ LetGo Writer P  -- U8 let go p
    ∷ LetGoHeaders  -- U9 let go headers
    ∷ ReleaseN  -- U10 release n.lock
    ∷ FinishH Zero  -- U11 release H, finish
    ∷ []

abbrev pub levelling : List Act
levelling =
    TakeH  -- L1 take H
    ∷ OwnHeaders  -- L2 own headers
    ∷ Choose  -- L3 choose p (from) and q (to)
    ∷ ReadHeader  -- L4 h becomes header of p
    ∷ GoIfFree 17  -- L5 if h is free go to L17; else n becomes its number
    ∷ TakeN Writer  -- L6 take n.lock
    ∷ Own Writer P  -- L7 own p
    ∷ ReadContent  -- L8 c becomes content of p
    ∷ Own Writer Q  -- L9 own q
    ∷ WriteHeaderH  -- L10 header of q becomes h
    ∷ WriteContent Q  -- L11 content of q becomes c
    ∷ MapTo Q  -- L12 map n to q
    ∷ FreeHeader  -- L13 header of p becomes free, wear of p up by one
    ∷ LetGo Writer Q  -- L14 let go q
    ∷ LetGo Writer P  -- L15 let go p
    ∷ ReleaseN  -- L16 release n.lock
    ∷ LetGoHeaders  -- L17 let go headers
    ∷ FinishH Moved  -- L18 release H, finish with 1 if h is not free, else 0
    ∷ []

-- the operations' numbers; 0 is none
abbrev pub WRITE : ℕ
WRITE = 1

abbrev pub READ : ℕ
READ = 2

abbrev pub UNMAP : ℕ
UNMAP = 3

abbrev pub LEVEL : ℕ
LEVEL = 4

abbrev pub program : ℕ → List Act
program op = get_or ([] ∷ writing ∷ reading ∷ unmapping ∷ levelling ∷ []) op []

abbrev pub last_line : ℕ → ℕ
last_line op = length (program op)

-- the act at a line, counted from 1
abbrev pub act_at : ℕ → ℕ → Act
act_at op line = get_or (program op) (line - 1) Nothing

-- "An operation's last lock is taken at W2, R1, U2, L6, or at L1 where nothing is moved."
abbrev pub last_take : ℕ → ℕ
last_take op = get_or (0 ∷ 2 ∷ 1 ∷ 2 ∷ 6 ∷ []) op 0

abbrev pub unmoved_take : ℕ
unmoved_take = 1
