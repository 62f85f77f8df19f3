-- Lock and owner words, and the words that name a block or a number. 01, "Sizes and the store area": 0 says that nobody has it, that nothing is
-- mapped, that the block is free; any other word is one more than a thread, a block or a logical number. But the lock of a number and the owner
-- of a block have readers or a writer (02, §3). No word is taken apart outside this file.
use Rattle.std.specs.Prelude.{◌≡◌, Bool, true, not, ◌&&◌, ◌||◌, ◌⊎◌, ℕ, ◌+◌, ◌-◌, ◌*◌, ◌/◌, ◌%◌, ◌^◌, ◌<◌, ◌≤◌, eqb, ltb, leb}
use Rattle.meaning.specs.declared.Kind.{Kind}
use Rattle.meaning.specs.declared.Kind.TheVariants.{Reader, Writer}

-- the word of a free lock, of what nobody owns, of an unmapped number and of a free block
abbrev pub none : ℕ
none = 0

abbrev pub free : ℕ → Bool
free w = eqb w none

-- H or the headers' owner, where thread t has it
abbrev pub by : ℕ → ℕ
by t = t + 1

abbrev pub held_by : ℕ → ℕ → Bool
held_by t w = eqb w (by t)

-- ---- readers or a writer: the lock of a number, the owner of a block

-- such a word is a set of 16 bits, a bit for each reading thread, and 65,536 times the word of the writing one
abbrev pub sets : ℕ
sets = 65536

-- what thread t adds to the word: as a reader bit t, as the writer 65,536 times its word
abbrev pub mark : Kind → ℕ → ℕ
mark Reader t = 2 ^ t
mark Writer t = sets * by t

-- nobody writes: the word is a set
abbrev pub unwritten : ℕ → Bool
unwritten w = ltb w sets

-- bit t is set
abbrev pub member : ℕ → ℕ → Bool
member t w = eqb (w / 2 ^ t % 2) 1

-- well formed, of T threads: a set of threads below T, or nobody reads and a thread below T writes, or nobody does
abbrev pub proper : ℕ → ℕ → Bool
proper threads w = ltb w (2 ^ threads) || eqb (w % sets) 0 && leb (w / sets) threads

-- the same, of the word's two parts: no readers and a writer together, no member and no writer that isn't below T. That `proper` says this is proved
-- (`proper-exactly` of proofs/Base/Sets)
pub record InParts (threads w : ℕ) : Type 0 where
  pub not_both : (w % sets ≡ 0) ⊎ (w / sets ≡ 0)
  pub members : (t : ℕ) → member t (w % sets) ≡ true → t < threads
  pub writes : w / sets ≤ threads

-- thread t has its place in the set; thread t is the writer
abbrev pub held : Kind → ℕ → ℕ → Bool
held Reader t w = unwritten w && member t w
held Writer t w = eqb w (mark Writer t)

-- thread t may take it: as a reader where nobody writes and t has no place in the set, as the writer where nobody has it
abbrev pub admits : Kind → ℕ → ℕ → Bool
admits Reader t w = unwritten w && not (member t w)
admits Writer t w = free w

-- the thread that writes, where there is one
abbrev pub writer : ℕ → ℕ
writer w = w / sets - 1

-- ---- words that name

-- the word that names a block or a number, and the one that it names
abbrev pub naming : ℕ → ℕ
naming k = k + 1

abbrev pub named : ℕ → ℕ
named w = w - 1
