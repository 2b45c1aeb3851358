-- Paths, tables and runs that are written out, with their states, grades and picks.
use Rattle.std.specs.Prelude.{◌≡◌, ℕ, true, false, List, [], ◌∷◌, length, codes}
use Rattle.automata.specs.Automata.{Automaton}
use Rattle.automata.specs.Holding.{meaning as held_meaning, moves as held_moves}
use Rattle.automata.specs.Noted.{meaning as noted_meaning, moves as noted_moves}
use Rattle.automata.specs.declared.tag.Tag.{Tag}
use Rattle.automata.specs.declared.tag.Tag.TheVariants.{Open, Close}
use Rattle.base.specs.Tables.{automaton}
use Rattle.formats.specs.Lines.{lines}
use Rattle.formats.specs.TableText.{Accepted}
use Rattle.formats.specs.declared.table_text.TableText.{TableText}
use Rattle.grading.specs.Holding.{holding, Begins as HeldBegins}
use Rattle.grading.specs.Noting.{noting, Begins as NotedBegins}
use Rattle.grading.specs.declared.grade.Grade.{Grade}
use Rattle.grading.specs.declared.grade.Grade.TheVariants.{Registerless, Stackless, Neither}
use Rattle.paths.specs.declared.path.Step.{Step}
use Rattle.paths.specs.Positions.{MoreThan}
use Rattle.paths.specs.Tables.{Compiled}
use Rattle.paths.specs.Texts.{ReadAs}
use Rattle.samples.specs.Minimals.{MinimalHas}
use Rattle.samples.specs.Runs.{PathReads}

abbrev pub ab : List (List ℕ)
ab = codes "a" ∷ codes "b" ∷ []

abbrev pub abc : List (List ℕ)
abc = codes "a" ∷ codes "b" ∷ codes "c" ∷ []

-- the text is read over these names, some automaton is compiled from it, and every such has k states
pub record HasStates (names : List (List ℕ)) (text : List ℕ) (k : ℕ) : Type 0 where
  pub steps : List Step
  pub read : ReadAs names text steps
  pub some : (A : Automaton) × Compiled steps (length names) A
  pub states : (A : Automaton) → Compiled steps (length names) A → A.states ≡ k

-- and every minimal automaton of it has as many, and the grade
pub record HasGrade (names : List (List ℕ)) (text : List ℕ) (k : ℕ) (grade : Grade) : Type 0 where
  pub compiled : HasStates names text k
  pub minimal : (A : Automaton) → Compiled compiled.steps (length names) A → MinimalHas A k grade

-- the text is read, and reaches more than 32 sets
pub record HasNone (names : List (List ℕ)) (text : List ℕ) : Type 0 where
  pub steps : List Step
  pub read : ReadAs names text steps
  pub many : MoreThan 32 steps (length names)

-- the table text is taken, and every minimal automaton of its table has k states and the grade
pub record TableGraded (text : List ℕ) (k : ℕ) (grade : Grade) : Type 0 where
  pub read : TableText
  pub taken : Accepted text read
  pub minimal : MinimalHas (automaton read.table) k grade

-- a turns from one state to the other, and b stays
abbrev pub turning : List ℕ
turning = lines (
    (codes "labels" ∷ codes "a" ∷ codes "b" ∷ []) ∷
    (codes "states" ∷ codes "2" ∷ codes "0" ∷ []) ∷
    (codes "row" ∷ codes "0" ∷ codes "yes" ∷ codes "1" ∷ codes "0" ∷ []) ∷
    (codes "row" ∷ codes "1" ∷ codes "no" ∷ codes "0" ∷ codes "1" ∷ []) ∷ []) []

-- nothing leads to state 1
abbrev pub idle : List ℕ
idle = lines (
    (codes "labels" ∷ codes "a" ∷ []) ∷
    (codes "states" ∷ codes "2" ∷ codes "0" ∷ []) ∷
    (codes "row" ∷ codes "0" ∷ codes "yes" ∷ codes "0" ∷ []) ∷
    (codes "row" ∷ codes "1" ∷ codes "no" ∷ codes "0" ∷ []) ∷ []) []

-- +a +a -a +b
abbrev pub going_back : List (Tag ℕ)
going_back = Open 0 ∷ Open 0 ∷ Close 0 ∷ Open 1 ∷ []

-- +a +c -c +b +c -c -b +b -b -a
abbrev pub between : List (Tag ℕ)
between = Open 0 ∷ Open 2 ∷ Close 2 ∷ Open 1 ∷ Open 2 ∷ Close 2 ∷ Close 1 ∷ Open 1 ∷ Close 1 ∷ Close 0 ∷ []

pub record Samples : Type 0 where
  pub child_below : HasGrade abc (codes "/a//b") 4 Registerless
  pub child_child : HasGrade abc (codes "/a/b") 4 Stackless
  pub below_below : HasGrade abc (codes "//a//b") 3 Stackless
  pub below_child : HasGrade abc (codes "//a/b") 3 Neither
  pub full : HasStates ab (codes "//a/*/*/*/*") 32
  pub over : HasNone ab (codes "//a/*/*/*/*/*")
  pub turning_table : TableGraded turning 2 Registerless
  pub idle_table : TableGraded idle 1 Registerless
  -- the registerless selector picks element 2, and the stackless one elements 2 and 4 of five, in a whole document
  pub child_below_run : PathReads (held_meaning holding) (held_moves holding) HeldBegins abc (codes "/a//b") going_back (2 ∷ []) 3 false
  pub child_child_run : PathReads (noted_meaning noting) (noted_moves noting) NotedBegins abc (codes "/a/b") between (2 ∷ 4 ∷ []) 5 true
