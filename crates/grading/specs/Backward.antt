-- Where a selector without a stack goes back to.
use Rattle.std.specs.Prelude.{ℕ, ◌<◌, List, [], slice_index, slice_index_or}
use Rattle.automata.specs.Automata.{Automaton}
use Rattle.automata.specs.Lowest.{Lowest}
use Rattle.automata.specs.States.{Almost}
use Rattle.grading.specs.StateSets.{In}
use Rattle.grading.specs.declared.backward.Backward.{Backward}
use Rattle.grading.specs.declared.states.StateSet.{StateSet}

-- the state to go back to from p as an element labelled a closes
abbrev pub back : Backward → ℕ → ℕ → ℕ
back b p a = slice_index (slice_index_or b.targets p []) a

-- s and its target under a are in the set, and the target is almost equivalent to p
pub record Homeward (A : Automaton) (home : StateSet) (p a s : ℕ) : Type 0 where
  pub here : In s home
  pub target : In (A.step s a) home
  pub almost : Almost A (A.step s a) p

-- at each label below n the row has the lowest state of these, or p where there is none
abbrev pub Filled : Automaton → StateSet → ℕ → ℕ → List ℕ → Type 0
Filled A home p n row = (a : ℕ) → a < n → Lowest (Homeward A home p a) A.states p (slice_index row a)

-- the row is filled with some home of p
pub record Homed (A : Automaton) (homes : ℕ → StateSet → Type 0) (p : ℕ) (row : List ℕ) : Type 0 where
  pub home : StateSet
  pub of : homes p home
  pub filled : Filled A home p A.labels row

-- and so is each state's row
abbrev pub Returns : Automaton → (ℕ → StateSet → Type 0) → Backward → Type 0
Returns A homes b = (p : ℕ) → p < A.states → Homed A homes p (slice_index_or b.targets p [])

-- each is the lowest state that can have been before, or the state itself where there is none
abbrev pub Retraces : Automaton → (ℕ → ℕ → ℕ → Type 0) → Backward → Type 0
Retraces A Before b = (p a : ℕ) → p < A.states → a < A.labels → ∥ Lowest (Before p a) A.states p (back b p a) ∥₁
