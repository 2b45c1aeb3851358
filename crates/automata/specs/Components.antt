-- How many components an automaton has.
use Rattle.std.specs.Prelude.{ℕ, suc, ◌<◌}
use Rattle.automata.specs.Automata.{Automaton}
use Rattle.automata.specs.States.{Together}

-- c of the numbers below n have the property
pub data Count (P : ℕ → Type 0) : ℕ → ℕ → Type 0 where
  none : Count P 0 0
  has : {n c : ℕ} → P n → Count P n c → Count P (suc n) (suc c)
  lacks : {n c : ℕ} → ¬ P n → Count P n c → Count P (suc n) c

-- p is the lowest state of its component
abbrev pub Lowest : Automaton → ℕ → Type 0
Lowest A p = (q : ℕ) → q < p → ¬ Together A p q

-- each component is counted at its lowest state
abbrev pub Components : Automaton → ℕ → Type 0
Components A = Count (Lowest A) A.states

-- n is the lowest state of p's component, and so the component's number
pub record Numbers (A : Automaton) (p n : ℕ) : Type 0 where
  pub below : n < A.states
  pub together : Together A p n
  pub lowest : Lowest A n
