-- How the stackless selector holds its state, depth and notes, and which tables it is made for.
use Rattle.std.specs.Prelude.{◌≡◌, ◌+◌, [], Ok, Err, Result}
use Rattle.std.proofs.Common.{ap}
use Rattle.automata.specs.Automata.{Automaton}
use Rattle.automata.specs.Components.{Components}
use Rattle.automata.specs.Grades.{Stackless}
use Rattle.automata.specs.Minimising.{Minimised}
use Rattle.automata.specs.Noting.{Noting}
use Rattle.automata.proofs.Noting.{serves_so}
use Rattle.text.specs.declared.refusal.Refusal.{Refusal}
use Rattle.text.specs.declared.refusal.Refusal.TheVariants.{NotStackless}
use Rattle.base.specs.Tables.{automaton}
use Rattle.grading.specs.Grading.{Earns}
use Rattle.grading.specs.Held.{held}
use Rattle.grading.specs.declared.grade.Grade.TheVariants.{Neither}
use Rattle.grading.specs.declared.stackless.StacklessSelector.{StacklessSelector}

-- the same table, and all that was found of it
pub record Kept (s t : StacklessSelector) : Type 0 where
  pub table : t.table ≡ s.table
  pub backward : t.backward ≡ s.backward
  pub component : t.component ≡ s.component
  pub needed : t.needed ≡ s.needed

abbrev pub noting : Noting StacklessSelector
noting = record {
  automaton = λ s. automaton s.table;
  state = λ s. s.state;
  depth = λ s. s.depth;
  notes = λ s. held s.notes;
  serves = λ s. serves_so (automaton s.table) (record { start = s.table.sized.4; step = s.table.closed }) s.serves;
  kept = Kept;
  kept_automaton = λ s t k. ap automaton k.table;
}

-- a selector at the start of the minimal table of A's query, without a note
pub record Begins (A : Automaton) (s : StacklessSelector) : Type 0 where
  pub minimised : Minimised A (automaton s.table)
  pub stackless : Stackless (automaton s.table)
  pub state : s.state ≡ (automaton s.table).start
  pub depth : s.depth ≡ 0
  pub notes : held s.notes ≡ []
  -- it needs at most one note less than there are components
  pub counted : Components (automaton s.table) (s.needed + 1)

-- the minimal automaton of A's query is graded neither
pub record Knotted (A : Automaton) : Type 0 where
  pub minimal : Automaton
  pub minimised : Minimised A minimal
  pub graded : Earns minimal Neither

-- a selector is made, unless the query is graded neither
abbrev pub Selects : Automaton → Result StacklessSelector Refusal → Type 0
Selects A (Ok s) = Begins A s
Selects A (Err why) = (why ≡ NotStackless) × Knotted A
