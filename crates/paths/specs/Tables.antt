-- The table of a path.
use Rattle.std.specs.Prelude.{◌≡◌, ℕ, ◌<◌, List, Decides}
use Rattle.automata.specs.Automata.{Automaton, Word, WellFormed, accepts}
use Rattle.text.specs.declared.refusal.Refusal.{Refusal}
use Rattle.text.specs.declared.refusal.Refusal.TheVariants.{TooManySets}
use Rattle.base.specs.declared.table.Table.{Table}
use Rattle.base.specs.Tables.{automaton}
use Rattle.paths.specs.declared.path.Step.{Step}
use Rattle.paths.specs.Meanings.{Means}
use Rattle.automata.specs.States.{Reaches}
use Rattle.automata.specs.Numbering.{FirstMet, Alike}
use Rattle.paths.specs.Positions.{MoreThan, Named}

-- the automaton of the steps over the labels below n: its states are the position sets that are reached, at most 32,
-- numbered as they are first met; and it accepts just the lists of labels that the path means
pub record Compiled (steps : List Step) (n : ℕ) (A : Automaton) : Type 0 where
  pub labels : A.labels ≡ n
  pub formed : WellFormed A
  pub named : Named steps A
  pub reached : (p : ℕ) → p < A.states → Reaches A A.start p
  pub numbered : FirstMet A
  pub few : MoreThan 32 steps n → ⊥
  pub follows : (w : List ℕ) → Word n w → Decides (accepts A w) (Means steps w)

-- the table writes it out, and there is no other
pub record TableOf (steps : List Step) (n : ℕ) (t : Table) : Type 0 where
  pub compiled : Compiled steps n (automaton t)
  pub only : (B : Automaton) → Compiled steps n B → Alike (automaton t) B

-- why steps have no table
pub data Overfull (steps : List Step) (n : ℕ) : Refusal → Type 0 where
  many_sets : MoreThan 32 steps n → Overfull steps n TooManySets
