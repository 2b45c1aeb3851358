-- Words that lead pairs of states to wanted ones, label by label.
use Rattle.std.specs.Prelude.{ℕ, ◌<◌, ◌≤◌, List, length}
use Rattle.automata.specs.Automata.{Automaton, Word, run}
use Rattle.grading.specs.Measuring.{distance_after}
use Rattle.grading.specs.declared.distances.Distances.{Distances}

-- the word w has a label, and leads p, q to a wanted pair
abbrev pub Brings : Automaton → (ℕ → ℕ → Type 0) → ℕ → ℕ → List ℕ → Type 0
Brings A wanted p q w = (0 < length w) × wanted (run A p w) (run A q w)

-- some word does
pub record Brought (A : Automaton) (wanted : ℕ → ℕ → Type 0) (p q : ℕ) : Type 0 where
  pub by : List ℕ
  pub word : Word A.labels by
  pub brings : Brings A wanted p q by

-- a is the lowest of the numbers below n at which f is least
pub record ArgMin (f : ℕ → ℕ) (n a : ℕ) : Type 0 where
  pub below : a < n
  pub least : (b : ℕ) → b < n → f a ≤ f b
  pub lowest : (b : ℕ) → b < a → f a < f b

-- a is the lowest of the labels that lead p, q to a pair at the least distance
abbrev pub Best : Automaton → Distances → ℕ → ℕ → ℕ → Type 0
Best A d p q = ArgMin (distance_after A d p q) A.labels
