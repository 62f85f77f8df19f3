-- Tables as functions from numbers, as source document 000 has them for blocks, and what is said of all entries below a size.
use Rattle.std.specs.Prelude.{Bool, true, cond, ◌&&◌, ℕ, zero, suc, eqb, ltb}

-- f with v at i
abbrev pub upd : {A : Type 0} → (ℕ → A) → ℕ → A → ℕ → A
upd f i v j = cond (eqb i j) v (f j)

-- f below the size, and z from there on
abbrev pub below : {A : Type 0} → A → ℕ → (ℕ → A) → ℕ → A
below z size f k = cond (ltb k size) (f k) z

-- the test holds at each number below the size
abbrev pub every : ℕ → (ℕ → Bool) → Bool
every zero test = true
every (suc k) test = every k test && test k
