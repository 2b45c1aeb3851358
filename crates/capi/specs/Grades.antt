-- What a call that grades returns, and leaves in its answer.
use Rattle.std.specs.Prelude.{◌≡◌, ℕ, ◌-◌, ◌<◌, ◌≤◌, List, [], ◌∷◌, length, Ok, Err, Result}
use Rattle.automata.specs.Automata.{Automaton}
use Rattle.automata.specs.Components.{Components}
use Rattle.automata.specs.Minimising.{Minimised}
use Rattle.text.specs.Refusals.{number}
use Rattle.text.specs.declared.refusal.Refusal.{Refusal}
use Rattle.base.specs.Courses.{laid}
use Rattle.base.specs.Tables.{automaton}
use Rattle.base.specs.declared.table.Table.{Table}
use Rattle.grading.specs.Grading.{Earns, Settles}
use Rattle.grading.specs.declared.grade.Grade.{Grade}
use Rattle.grading.specs.declared.grade.Grade.TheVariants.{Registerless, Stackless, Neither}
use Rattle.grading.specs.declared.grade.Graded.{Graded}

abbrev pub number_of_grade : Grade → ℕ
number_of_grade Registerless = 1
number_of_grade Stackless = 2
number_of_grade Neither = 3

-- one note less than there are components; where no notes serve, 0xffff_ffff
abbrev pub notes_for : Grade → ℕ → ℕ
notes_for Registerless components = components - 1
notes_for Stackless components = components - 1
notes_for Neither components = 4294967295

-- the query's minimal automaton, its grade and its components
pub record GradeOf (A : Automaton) (g : Graded) : Type 0 where
  pub minimal : Minimised A (automaton g.table)
  pub graded : Earns (automaton g.table) g.grade
  pub counted : Components (automaton g.table) g.components
  pub settled : Settles A g.grade

-- the first places of an answer
abbrev pub places : Graded → List ℕ
places g = number_of_grade g.grade ∷ (automaton g.table).states ∷ g.components ∷ notes_for g.grade g.components ∷ []

-- the answer has too few places, the query is refused, or it is graded
pub data Grades (query : Result Table Refusal → Type 0) (before after : List ℕ) (r : ℕ) : Type 0 where
  short : length before < 4 → r ≡ 255 → after ≡ before → Grades query before after r
  refused : (why : Refusal) → 4 ≤ length before → query (Err why) → r ≡ number why → after ≡ before → Grades query before after r
  graded : (t : Table) (g : Graded) → 4 ≤ length before → query (Ok t) → GradeOf (automaton t) g → r ≡ 0 → after ≡ laid (places g) before → Grades query before after r
