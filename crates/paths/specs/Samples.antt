-- Paths whose tables have a known number of states.
use Rattle.std.specs.Prelude.{◌≡◌, ℕ, List, [], ◌∷◌, length, codes}
use Rattle.automata.specs.Automata.{Automaton}
use Rattle.paths.specs.declared.path.Step.{Step}
use Rattle.paths.specs.Positions.{MoreThan}
use Rattle.paths.specs.Tables.{Compiled}
use Rattle.paths.specs.Texts.{ReadAs}

abbrev pub ab : List (List ℕ)
ab = codes "a" ∷ codes "b" ∷ []

abbrev pub abc : List (List ℕ)
abc = codes "a" ∷ codes "b" ∷ codes "c" ∷ []

-- the text is read over these names, some automaton is compiled from it, and every such has k states
pub record HasStates (names : List (List ℕ)) (text : List ℕ) (k : ℕ) : Type 0 where
  pub steps : List Step
  pub read : ReadAs names text steps
  pub some : (A : Automaton) × Compiled steps (length names) A
  pub states : (A : Automaton) → Compiled steps (length names) A → A.states ≡ k

-- the text is read, and reaches more than 32 sets
pub record HasNone (names : List (List ℕ)) (text : List ℕ) : Type 0 where
  pub steps : List Step
  pub read : ReadAs names text steps
  pub many : MoreThan 32 steps (length names)

pub record Samples : Type 0 where
  pub child_below : HasStates abc (codes "/a//b") 4
  pub child_child : HasStates abc (codes "/a/b") 4
  pub below_below : HasStates abc (codes "//a//b") 3
  pub below_child : HasStates abc (codes "//a/b") 3
  pub full : HasStates ab (codes "//a/*/*/*/*") 32
  pub over : HasNone ab (codes "//a/*/*/*/*/*")
