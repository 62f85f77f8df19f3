-- 02, §3: a number's lock and a block's owner have readers or a writer. Cases of the form of 01's, steps on areas made by hand, and words that are
-- well formed or not, proved by computing the definitions. Words stand as numerals: bit t is a reading thread t, and 65,536 times t + 1 a writing
-- one. Assumes nothing.
use Rattle.std.specs.Prelude.{◌≡◌, refl, List, [], ◌∷◌, ◌++◌, map, ℕ, zero, suc, replicate, set}
use Rattle.meaning.specs.Numbers.{WENT, BLOCKED}
use Rattle.meaning.specs.Programs.{WRITE, READ, LEVEL}
use Rattle.meaning.specs.Store.{Store, fresh}
use Rattle.meaning.specs.Call.{Entry, begin, step, call_store}
use Rattle.meaning.specs.Schedule.{run, replies}
use Rattle.meaning.specs.Demands.{times}
use Rattle.store.specs.Area.{bytes, well_formed}
use Rattle.store.specs.Calls.{step_area}
use Rattle.cases.specs.Cases.{Exchange, Case, exactly, expected, happens, accepted, begins, goes, ends, to_its_end, used_two}

-- ---- how cases are written

-- thread t waits
abbrev pub waits : ℕ → List Exchange → List Exchange
waits t rest = record { call = step t; number = BLOCKED; value = 0 } ∷ rest

-- ---- grown from fresh

-- number 0 is written with 7; threads 0 and 1 begin to read it and go on in turn, to R4
abbrev pub both_listen : List Exchange → List Exchange
both_listen rest =
    to_its_end WRITE 0 7 16 0
    (begins 0 READ 0 0 (begins 1 READ 0 0 (goes 1 0 (goes 1 1 (goes 1 0 (goes 1 1 (goes 1 0 (goes 1 1 rest))))))))

unfoldable pub listening : List Case
listening =
    -- two readers of one number, both past R3: both are in the lock's set and in the block's
    record {
      t = 2;
      n = 1;
      p = 2;
      d = 1;
      number = WENT;
      exchanges = both_listen [];
      end =
          exactly
          (2 ∷ 1 ∷ 2 ∷ 1 ∷ 0 ∷ 0  -- the four sizes, H and the headers' owner
          ∷ 2 ∷ 4 ∷ 0 ∷ 0 ∷ 0 ∷ 0 ∷ 0  -- thread 0 is at R4
          ∷ 2 ∷ 4 ∷ 0 ∷ 0 ∷ 0 ∷ 0 ∷ 0  -- and so is thread 1
          ∷ 1 ∷ 3  -- number 0 is on block 0; both read
          ∷ 1 ∷ 7 ∷ 0 ∷ 3  -- and both read block 0
          ∷ 0 ∷ 0 ∷ 0 ∷ 0
          ∷ []);
    }
    -- the second ends before the first, with the same answer
    ∷ accepted 2 1 2 1 (both_listen (goes 2 1 (ends 1 7 (goes 2 0 (ends 0 7 [])))))
    -- a writer waits until the last of two readers has left
    ∷ accepted 3 1 2 1
    (begins 0 READ 0 0 (begins 1 READ 0 0 (begins 2 WRITE 0 8 (goes 1 0 (goes 1 1 (goes 1 2 (waits 2
    (goes 1 0 (ends 0 0 (waits 2 (goes 1 1 (waits 2 (ends 1 0 (goes 1 2 []))))))))))))))
    -- a reader waits for a writer
    ∷ accepted 2 1 2 1 (begins 0 WRITE 0 8 (goes 2 0 (begins 1 READ 0 0 (waits 1 (goes 13 0 (ends 0 0 (goes 5 1 (ends 1 8 []))))))))
    -- a leveller waits for a reader at L6
    ∷ accepted 2 2 3 2
    (used_two (begins 1 READ 1 0 (goes 1 1 (begins 0 LEVEL 0 0 (goes 5 0 (waits 0 (goes 4 1 (ends 1 9 (goes 1 0 [])))))))))
    ∷ []

pub listening_hold : map happens listening ≡ map expected listening
unfolding listening well_formed
listening_hold = refl

-- ---- sixteen at once, over stores

-- threads 0 to t - 1 do what is said of each, the last one first
abbrev pub each_does : {A : Type 0} → (ℕ → List A → List A) → ℕ → List A → List A
each_does does zero rest = rest
each_does does (suc t) rest = does t (each_does does t rest)

-- of sixteen threads, one number and two blocks: number 0 is written with 7, and all sixteen begin to read it and go on to R4
abbrev pub sixteen : Store
sixteen =
    run call_store (fresh 16 1 2 1)
    (begin 0 WRITE 0 7 ∷ times 16 (step 0) (each_does (λ t rest. begin t READ 0 0 ∷ rest) 16 (each_does (λ t. times 3 (step t)) 16 [])))

-- then one after the other goes on to its end
abbrev pub ending : List Entry
ending = each_does (λ t. times 3 (step t)) 16 []

-- the number's lock and its block's owner
abbrev pub holders : Store → List ℕ
holders s = s.locks 0 ∷ s.own 0 ∷ []

-- all are in both sets, all end with 7, and then nobody is there
pub sixteen_listen :
    (holders sixteen ≡ 65535 ∷ 65535 ∷ [])
    × (replies call_store sixteen ending ≡ each_does (λ t rest. (0, 0) ∷ (0, 0) ∷ (1, 7) ∷ rest) 16 [])
    × (holders (run call_store sixteen ending) ≡ 0 ∷ 0 ∷ [])
sixteen_listen = (refl, refl, refl)

-- each of sixteen threads by itself, the last one first: what stands in the number's lock and in its block's owner after R3 of a read, and after W13 of
-- a second write
abbrev pub held_at : ℕ → ℕ → ℕ → List ℕ
held_at op count t =
    holders (run call_store (fresh 16 1 2 1) (begin 0 WRITE 0 7 ∷ times 16 (step 0) (begin t op 0 7 ∷ times count (step t) [])))

pub words_of_threads :
    each_does (λ t rest. held_at READ 3 t ∷ rest) 16 [] ++ each_does (λ t rest. held_at WRITE 5 t ∷ rest) 16 []
    ≡ map (λ w. w ∷ w ∷ [])
    (32768 ∷ 16384 ∷ 8192 ∷ 4096 ∷ 2048 ∷ 1024 ∷ 512 ∷ 256 ∷ 128 ∷ 64 ∷ 32 ∷ 16 ∷ 8 ∷ 4 ∷ 2 ∷ 1
    ∷ 1048576 ∷ 983040 ∷ 917504 ∷ 851968 ∷ 786432 ∷ 720896 ∷ 655360 ∷ 589824
    ∷ 524288 ∷ 458752 ∷ 393216 ∷ 327680 ∷ 262144 ∷ 196608 ∷ 131072 ∷ 65536
    ∷ [])
words_of_threads = refl

-- ---- made by hand

-- two threads, one number on the first of two blocks; thread 0 stands at a line of an operation, with these words as the number's lock and the
-- block's owner
abbrev pub standing : ℕ → ℕ → ℕ → ℕ → List ℕ
standing op line lock own =
    bytes
    (2 ∷ 1 ∷ 2 ∷ 1 ∷ 0 ∷ 0
    ∷ op ∷ line ∷ 0 ∷ 0 ∷ 0 ∷ 0 ∷ 0
    ∷ 0 ∷ 0 ∷ 0 ∷ 0 ∷ 0 ∷ 0 ∷ 0
    ∷ 1 ∷ lock
    ∷ 1 ∷ 7 ∷ 0 ∷ own
    ∷ 0 ∷ 0 ∷ 0 ∷ 0
    ∷ [])

-- what its step gives
abbrev pub gives : ℕ → ℕ → ℕ → ℕ → ℕ
gives op line lock own = (step_area (standing op line lock own) 0).number

-- a read at R1, R3, R4, R5 and R6: 0 for WENT, 1 for FINISHED, 2 for BLOCKED, 16 for FAULT
pub reader_made :
    -- R1: nobody; another reads; it has its own place, alone and beside another; it writes; another writes
    gives 2 1 0 0 ∷ gives 2 1 2 0 ∷ gives 2 1 1 0 ∷ gives 2 1 3 0 ∷ gives 2 1 65536 0 ∷ gives 2 1 131072 0
    -- R3: the same of the block
    ∷ gives 2 3 1 0 ∷ gives 2 3 1 2 ∷ gives 2 3 1 1 ∷ gives 2 3 1 3 ∷ gives 2 3 1 65536 ∷ gives 2 3 1 131072
    -- R4: it may read where it has a place or writes
    ∷ gives 2 4 1 0 ∷ gives 2 4 1 2 ∷ gives 2 4 1 1 ∷ gives 2 4 1 3 ∷ gives 2 4 1 65536 ∷ gives 2 4 1 131072
    -- R5: to write is not enough
    ∷ gives 2 5 1 0 ∷ gives 2 5 1 2 ∷ gives 2 5 1 1 ∷ gives 2 5 1 3 ∷ gives 2 5 1 65536 ∷ gives 2 5 1 131072
    -- R6: nor is it here
    ∷ gives 2 6 0 0 ∷ gives 2 6 2 0 ∷ gives 2 6 1 0 ∷ gives 2 6 3 0 ∷ gives 2 6 65536 0 ∷ gives 2 6 131072 0
    ∷ []
    ≡ 0 ∷ 0 ∷ 2 ∷ 2 ∷ 2 ∷ 2
    ∷ 0 ∷ 0 ∷ 16 ∷ 16 ∷ 16 ∷ 16
    ∷ 16 ∷ 16 ∷ 0 ∷ 0 ∷ 0 ∷ 16
    ∷ 16 ∷ 16 ∷ 0 ∷ 0 ∷ 16 ∷ 16
    ∷ 16 ∷ 16 ∷ 1 ∷ 1 ∷ 16 ∷ 16
    ∷ []
unfolding well_formed
reader_made = refl

-- a write at W2, W13, W14, W15 and W16, with the same words
pub writer_made :
    -- W2: anybody bars it
    gives 1 2 0 0 ∷ gives 1 2 2 0 ∷ gives 1 2 1 0 ∷ gives 1 2 3 0 ∷ gives 1 2 65536 0 ∷ gives 1 2 131072 0
    -- W13: the same of the block
    ∷ gives 1 13 65536 0 ∷ gives 1 13 65536 2 ∷ gives 1 13 65536 1 ∷ gives 1 13 65536 3 ∷ gives 1 13 65536 65536 ∷ gives 1 13 65536 131072
    -- W14, W15 and W16: a place in the set is not enough
    ∷ gives 1 14 65536 0 ∷ gives 1 14 65536 2 ∷ gives 1 14 65536 1 ∷ gives 1 14 65536 3 ∷ gives 1 14 65536 65536 ∷ gives 1 14 65536 131072
    ∷ gives 1 15 65536 0 ∷ gives 1 15 65536 2 ∷ gives 1 15 65536 1 ∷ gives 1 15 65536 3 ∷ gives 1 15 65536 65536 ∷ gives 1 15 65536 131072
    ∷ gives 1 16 0 0 ∷ gives 1 16 2 0 ∷ gives 1 16 1 0 ∷ gives 1 16 3 0 ∷ gives 1 16 65536 0 ∷ gives 1 16 131072 0
    ∷ []
    ≡ 0 ∷ 2 ∷ 2 ∷ 2 ∷ 2 ∷ 2
    ∷ 0 ∷ 16 ∷ 16 ∷ 16 ∷ 16 ∷ 16
    ∷ 16 ∷ 16 ∷ 16 ∷ 16 ∷ 0 ∷ 16
    ∷ 16 ∷ 16 ∷ 16 ∷ 16 ∷ 0 ∷ 16
    ∷ 16 ∷ 16 ∷ 16 ∷ 16 ∷ 1 ∷ 16
    ∷ []
unfolding well_formed
writer_made = refl

-- ---- well formed or not

-- T threads, two numbers and three blocks, all threads idle and all else 0, but for this word at this place behind the threads
abbrev pub idlers : ℕ → List ℕ → List ℕ
idlers zero rest = rest
idlers (suc t) rest = 0 ∷ 0 ∷ 0 ∷ 0 ∷ 0 ∷ 0 ∷ 0 ∷ idlers t rest

abbrev pub resting : ℕ → ℕ → ℕ → List ℕ
resting t at w = bytes (t ∷ 2 ∷ 3 ∷ 1 ∷ 0 ∷ 0 ∷ idlers t (set (replicate 16 0) at w))

-- a step of thread 0 with the word at each of these places: 13, IDLE, where it is well formed, and else 10, SHAPE
abbrev pub taken : ℕ → List ℕ → ℕ → List ℕ
taken t places w = map (λ at. (step_area (resting t at w) 0).number) places

pub words_formed :
    -- T=2, the last lock and the last owner: nobody, each set, each writer; bit 2; thread 2 writes; a reader beside a writer
    map (taken 2 (3 ∷ 15 ∷ [])) (0 ∷ 1 ∷ 2 ∷ 3 ∷ 65536 ∷ 131072 ∷ 4 ∷ 196608 ∷ 65537 ∷ 131073 ∷ [])
    ≡ (13 ∷ 13 ∷ []) ∷ (13 ∷ 13 ∷ []) ∷ (13 ∷ 13 ∷ []) ∷ (13 ∷ 13 ∷ []) ∷ (13 ∷ 13 ∷ []) ∷ (13 ∷ 13 ∷ [])
    ∷ (10 ∷ 10 ∷ []) ∷ (10 ∷ 10 ∷ []) ∷ (10 ∷ 10 ∷ []) ∷ (10 ∷ 10 ∷ []) ∷ []
unfolding well_formed
words_formed = refl

-- each of the two locks and of the three owners is looked at
pub each_formed : taken 2 (2 ∷ 3 ∷ 7 ∷ 11 ∷ 15 ∷ []) 3 ∷ taken 2 (2 ∷ 3 ∷ 7 ∷ 11 ∷ 15 ∷ []) 65537 ∷ []
    ≡ (13 ∷ 13 ∷ 13 ∷ 13 ∷ 13 ∷ []) ∷ (10 ∷ 10 ∷ 10 ∷ 10 ∷ 10 ∷ []) ∷ []
unfolding well_formed
each_formed = refl

pub words_formed_16 :
    -- T=16: all sixteen read; the last writes; thread 16 does; the last bit beside a writer; the largest word
    map (taken 16 (3 ∷ 15 ∷ [])) (65535 ∷ 1048576 ∷ 1114112 ∷ 98304 ∷ 4294967295 ∷ [])
    ≡ (13 ∷ 13 ∷ []) ∷ (13 ∷ 13 ∷ []) ∷ (10 ∷ 10 ∷ []) ∷ (10 ∷ 10 ∷ []) ∷ (10 ∷ 10 ∷ []) ∷ []
unfolding well_formed
words_formed_16 = refl

-- H and the headers' owner at T=2, as in 01: thread 1 has it; thread 2; the word with which thread 0 would write a block
abbrev pub headed : ℕ → ℕ → List ℕ
headed lock owner = bytes (2 ∷ 1 ∷ 2 ∷ 1 ∷ lock ∷ owner ∷ idlers 2 (replicate 10 0))

pub h_formed :
    map (λ w. (step_area (headed w 0) 0).number ∷ (step_area (headed 0 w) 0).number ∷ []) (2 ∷ 3 ∷ 65536 ∷ [])
    ≡ (13 ∷ 13 ∷ []) ∷ (10 ∷ 10 ∷ []) ∷ (10 ∷ 10 ∷ []) ∷ []
unfolding well_formed
h_formed = refl
