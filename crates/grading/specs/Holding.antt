-- How the registerless selector holds its state, and which queries it is made for.
use Rattle.std.specs.Prelude.{◌≡◌, Ok, Err, Result}
use Rattle.std.proofs.Common.{ap}
use Rattle.automata.specs.Automata.{Automaton}
use Rattle.automata.specs.Grades.{Registerless, Clash}
use Rattle.automata.specs.Holding.{Holding}
use Rattle.automata.proofs.Holding.{serves_so}
use Rattle.automata.specs.Minimising.{Minimised}
use Rattle.text.specs.declared.refusal.Refusal.{Refusal}
use Rattle.text.specs.declared.refusal.Refusal.TheVariants.{NotRegisterless}
use Rattle.base.specs.Tables.{automaton}
use Rattle.grading.specs.declared.registerless.RegisterlessSelector.{RegisterlessSelector}

-- the same table, and the same states to go back to
pub record Kept (s t : RegisterlessSelector) : Type 0 where
  pub table : t.table ≡ s.table
  pub backward : t.backward ≡ s.backward

abbrev pub holding : Holding RegisterlessSelector
holding = record {
  automaton = λ s. automaton s.table;
  state = λ s. s.state;
  serves = λ s. serves_so (automaton s.table) (record { start = s.table.sized.4; step = s.table.closed }) s.serves;
  inside = λ s. s.inside;
  kept = Kept;
  kept_automaton = λ s t k. ap automaton k.table;
}

-- a selector at the start of the minimal table of A's query
pub record Begins (A : Automaton) (s : RegisterlessSelector) : Type 0 where
  pub minimised : Minimised A (automaton s.table)
  pub registerless : Registerless (automaton s.table)
  pub state : s.state ≡ (automaton s.table).start

-- two states of the minimal automaton of A's query clash
pub record Clashed (A : Automaton) : Type 0 where
  pub minimal : Automaton
  pub minimised : Minimised A minimal
  pub clash : Clash minimal

-- a selector is made, unless the query is of another grade
abbrev pub Selects : Automaton → Result RegisterlessSelector Refusal → Type 0
Selects A (Ok s) = Begins A s
Selects A (Err why) = (why ≡ NotRegisterless) × Clashed A
