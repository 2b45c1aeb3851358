-- What is known of every minimal automaton of a query.
use Rattle.std.specs.Prelude.{◌≡◌, ℕ}
use Rattle.automata.specs.Automata.{Automaton, WellFormed}
use Rattle.automata.specs.Minimising.{Minimised}
use Rattle.grading.specs.Grading.{Earns}
use Rattle.grading.specs.declared.grade.Grade.{Grade}

-- there is a minimal automaton of A, and every such has k states and the grade
pub record MinimalHas (A : Automaton) (k : ℕ) (grade : Grade) : Type 0 where
  pub some : (B : Automaton) × WellFormed B × Minimised A B
  pub each : (B : Automaton) → WellFormed B → Minimised A B → (B.states ≡ k) × Earns B grade
