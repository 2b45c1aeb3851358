-- Pairs of states from which moves lead to wanted pairs.
use Rattle.std.specs.Prelude.{ℕ, ◌<◌, ◌↔◌}
use Rattle.grading.specs.Pairing.{Has}
use Rattle.grading.specs.declared.pairs.Pairs.{Pairs}

-- some moves by the labels below n lead from p, q to a wanted pair
pub data Comes (n : ℕ) (goes : ℕ → ℕ → ℕ → ℕ → ℕ → Type 0) (wanted : ℕ → ℕ → Type 0) : ℕ → ℕ → Type 0 where
  there : {p q : ℕ} → wanted p q → Comes n goes wanted p q
  move : {a p q x y : ℕ} → a < n → goes a p q x y → Comes n goes wanted x y → Comes n goes wanted p q

-- just those pairs are in the set
abbrev pub Spreads : ℕ → (ℕ → ℕ → ℕ → ℕ → ℕ → Type 0) → (ℕ → ℕ → Type 0) → Pairs → Type 0
Spreads n goes wanted m = (p q : ℕ) → Has m p q ↔ Comes n goes wanted p q
