-- The minimal automaton of a query.
use Rattle.std.specs.Prelude.{◌≡◌, ℕ, List}
use Rattle.automata.specs.Automata.{Automaton, Word, WellFormed, accepts}
use Rattle.automata.specs.Numbering.{FirstMet, Alike}
use Rattle.automata.specs.States.{Minimal}

-- B has A's labels, accepts the same lists, is minimal, and its states are numbered as they are first met
pub record Minimised (A B : Automaton) : Type 0 where
  pub labels : B.labels ≡ A.labels
  pub accepts : (w : List ℕ) → Word A.labels w → accepts B w ≡ accepts A w
  pub minimal : Minimal B
  pub numbered : FirstMet B

-- and there is no other
abbrev pub OnlyMinimised : Automaton → Automaton → Type 0
OnlyMinimised A B = (C : Automaton) → WellFormed C → Minimised A C → Alike B C
