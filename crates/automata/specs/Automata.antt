-- Deterministic automata on words of labels.
use Rattle.std.specs.Prelude.{ℕ, ◌<◌, Bool, List, [], ◌∷◌}
use Rattle.std.specs.List.{AllByRecursion}

-- a word over the labels below n
abbrev pub Word : ℕ → List ℕ → Type 0
Word n = AllByRecursion (λ a. a < n)

pub record Automaton : Type 0 where
  pub labels : ℕ
  pub states : ℕ
  pub start : ℕ
  pub step : ℕ → ℕ → ℕ
  pub yes : ℕ → Bool

-- the state that the word leads to from p
abbrev pub run : Automaton → ℕ → List ℕ → ℕ
run A p [] = p
run A p (a ∷ w) = run A (A.step p a) w

abbrev pub accepts : Automaton → List ℕ → Bool
accepts A w = A.yes (run A A.start w)

-- the start and every step stay among the states
pub record WellFormed (A : Automaton) : Type 0 where
  pub start : A.start < A.states
  pub step : (p a : ℕ) → p < A.states → a < A.labels → A.step p a < A.states
