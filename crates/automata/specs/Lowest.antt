-- The lowest number with a property.
use Rattle.std.specs.Prelude.{ℕ, ◌<◌}

-- the lowest number below n that has it, or `other` where none has
pub data Lowest (P : ℕ → Type 0) (n other : ℕ) : ℕ → Type 0 where
  found : {r : ℕ} → r < n → P r → ((k : ℕ) → k < r → ¬ P k) → Lowest P n other r
  none : ((k : ℕ) → k < n → ¬ P k) → Lowest P n other other
