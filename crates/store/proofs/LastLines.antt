-- The last lines as a table are the definition's, and how many lines an operation has at most. Assumes nothing.
use mathlib.Core.Path.{◌≡◌, refl}
use mathlib.Core.List.{[], ◌∷◌}
use Prim.Native.Nat.{ℕ, zero, suc, ◌+◌, ◌<◌, ◌≤◌}
use native.Mathlib.Omega.{arith}
use lib.ListN.{get_or}
use Rattle.meaning.specs.Programs.{LEVEL, last_line}
use Rattle.meaning.proofs.Lines.{◌▸◌, from_at}

-- a table of them, which the code has in a `match` now
pub last_line-table : (op : ℕ) → get_or (0 ∷ 16 ∷ 6 ∷ 11 ∷ 18 ∷ []) op 0 ≡ last_line op
last_line-table zero = refl
last_line-table (suc zero) = refl
last_line-table (suc (suc zero)) = refl
last_line-table (suc (suc (suc zero))) = refl
last_line-table (suc (suc (suc (suc zero)))) = refl
last_line-table (suc (suc (suc (suc (suc k))))) = refl

pub last_line-none : (op : ℕ) → 4 < op → 0 ≡ last_line op
last_line-none zero h = refl
last_line-none (suc zero) h = absurd (omega arith)
last_line-none (suc (suc zero)) h = absurd (omega arith)
last_line-none (suc (suc (suc zero))) h = absurd (omega arith)
last_line-none (suc (suc (suc (suc zero)))) h = absurd (omega arith)
last_line-none (suc (suc (suc (suc (suc k))))) h = refl

-- no operation has more lines than levelling
pub few_lines : (op : ℕ) → op ≤ LEVEL → last_line op ≤ last_line LEVEL
few_lines op high =
    from_at (λ o. last_line o ≤ last_line LEVEL) (LEVEL + 1) 0
    (omega arith ▸ omega arith ▸ omega arith ▸ omega arith ▸ omega arith ▸ tt) op (omega arith) (omega arith)
