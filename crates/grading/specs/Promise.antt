-- The main promise: of a query's run, whole.
use Rattle.std.specs.Prelude.{ℕ}
use Rattle.automata.specs.Automata.{Automaton}
use Rattle.automata.specs.Components.{Components}
use Rattle.automata.specs.Meaning.{Meaning, Moves}
use Rattle.automata.specs.Minimising.{Minimised}
use Rattle.base.specs.History.{KeepsItsBook}
use Rattle.base.specs.Promises.{BeginPromise}
use Rattle.base.specs.Tables.{automaton}
use Rattle.base.specs.declared.run.Run.{Run}
use Rattle.grading.specs.Grading.{Earns, Settles}
use Rattle.grading.specs.declared.grade.Graded.{Graded}

pub record MainPromise {S : Type 0} (m : Meaning S) (v : Moves S) (chosen : S) (limit : ℕ) (A : Automaton) (answer : Graded) (first : Run S) : Type 0 where
  -- the run begins with the selector renewed, under the limit
  pub begins : BeginPromise v chosen limit first
  -- whatever is called on it until it ends, if every closing taken bore its element's label, then all is the book's
  pub keeps : KeepsItsBook m v chosen limit first
  -- the table answered is the minimal one of the query, with the grade that the theory gives it, and its components
  pub minimal : Minimised A (automaton answer.table)
  pub graded : Earns (automaton answer.table) answer.grade
  pub counted : Components (automaton answer.table) answer.components
  -- where the registerless grade is denied every machine errs on some document, and where it is given some machine errs on none
  pub settled : Settles A answer.grade
