-- When the states of an automaton are numbered as they are first met, and when two automata are alike.
use Rattle.std.specs.Prelude.{◌≡◌, ℕ, zero, suc, ◌<◌, ◌≤◌, max}
use Rattle.automata.specs.Automata.{Automaton}

-- how many states are met behind the first a targets of a row, with n met before it: all up to the largest target
abbrev pub met_in_row : (ℕ → ℕ) → ℕ → ℕ → ℕ
met_in_row row n zero = n
met_in_row row n (suc a) = max (met_in_row row n a) (suc (row a))

-- how many are met before row p: at first state 0 alone
abbrev pub met : ℕ → (ℕ → ℕ → ℕ) → ℕ → ℕ
met labels step zero = 1
met labels step (suc p) = met_in_row (step p) (met labels step p) labels

-- the start is 0; row by row, each target is below the number met so far, or is that number itself, the next new one; and
-- at the end the number met is the number of states
pub record FirstMet (A : Automaton) : Type 0 where
  pub start : A.start ≡ 0
  pub next : (p a : ℕ) → p < A.states → a < A.labels → A.step p a ≤ met_in_row (A.step p) (met A.labels A.step p) a
  pub whole : met A.labels A.step A.states ≡ A.states

-- the same labels, states, start, targets and answers
pub record Alike (A B : Automaton) : Type 0 where
  pub labels : A.labels ≡ B.labels
  pub states : A.states ≡ B.states
  pub start : A.start ≡ B.start
  pub step : (p a : ℕ) → p < A.states → a < A.labels → A.step p a ≡ B.step p a
  pub yes : (p : ℕ) → p < A.states → A.yes p ≡ B.yes p
