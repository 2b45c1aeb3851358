-- What is settled of machines by the registerless grade.
use Rattle.std.specs.Prelude.{ℕ, List}
use Rattle.automata.specs.Automata.{Automaton}
use Rattle.automata.specs.Streams.{Document, Machine, Finite, Errs}
use Rattle.automata.specs.declared.tag.Tag.{Tag}

-- every machine errs on some document
abbrev pub NoMachineServes : Automaton → Type 0
NoMachineServes A = (M : Machine) → Finite A.labels M → (d : List (Tag ℕ)) × Document A.labels d × Errs A M d

-- some machine errs on none
pub record MachineServes (A : Automaton) : Type 0 where
  pub machine : Machine
  pub finite : Finite A.labels machine
  pub right : (d : List (Tag ℕ)) → Document A.labels d → ¬ Errs A machine d
