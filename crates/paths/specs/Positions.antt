-- Sets of positions in a path: position j stands before step j, counted from 0, and the last one behind all steps.
use Rattle.std.specs.Prelude.{◌≡◌, ℕ, suc, ◌+◌, ◌/◌, ◌%◌, ◌^◌, ◌<◌, Bool, true, false, ◌≢◌, ◌⊎◌, ◌↔◌, List, map, length, Decides, slice_index_or}
use Rattle.automata.specs.Automata.{Automaton}
use Rattle.paths.specs.declared.path.Step.{Step}
use Rattle.paths.specs.Meanings.{fits}

-- position j is in the set m: a set is a number, with a bit for each position
abbrev pub Holds : ℕ → ℕ → Type 0
Holds m j = m / 2 ^ j % 2 ≡ 1

-- the set of position 0 alone
abbrev pub start_set : ℕ
start_set = 1

-- the step behind position j is `//`
abbrev pub keeps : List Step → ℕ → Bool
keeps steps j = slice_index_or (map (λ s. s.descend) steps) j false

-- the step behind position j fits the label
abbrev pub takes : List Step → ℕ → ℕ → Bool
takes steps a j = slice_index_or (map (λ s. fits s.test a) steps) j false

-- the label a leads past the step s from the position j before it to i: behind a step that fits it, or to j itself where the step is `//`
abbrev pub StepGoes : Step → ℕ → ℕ → ℕ → Type 0
StepGoes s a j i = ((i ≡ j) × (s.descend ≡ true)) ⊎ ((i ≡ suc j) × (fits s.test a ≡ true))

-- the label a leads from position j to i: past a step that fits it, or to j itself where the step is `//`
abbrev pub Goes : List Step → ℕ → ℕ → ℕ → Type 0
Goes steps a j i = ((i ≡ j) × (keeps steps j ≡ true)) ⊎ ((i ≡ suc j) × (takes steps a j ≡ true))

-- n holds the positions that the label leads to from those of m
abbrev pub Moved : List Step → ℕ → ℕ → ℕ → Type 0
Moved steps a m n = (i : ℕ) → Holds n i ↔ ((j : ℕ) × Holds m j × Goes steps a j i)

-- the sets that lists of labels below n lead to
pub data Reached (steps : List Step) (n : ℕ) : ℕ → Type 0 where
  at_start : Reached steps n start_set
  by_label : {a m l : ℕ} → Reached steps n m → a < n → Moved steps a m l → Reached steps n l

-- more than k sets are reached
pub record MoreThan (k : ℕ) (steps : List Step) (n : ℕ) : Type 0 where
  pub set : ℕ → ℕ
  pub distinct : (p q : ℕ) → p < q → q < k + 1 → set p ≢ set q
  pub reached : (p : ℕ) → p < k + 1 → Reached steps n (set p)

-- each state of the automaton has a position set as its name, and moves and answers as its set does
pub record Named (steps : List Step) (A : Automaton) : Type 0 where
  pub set_of : ℕ → ℕ
  pub start : set_of A.start ≡ start_set
  pub distinct : (p q : ℕ) → p < q → q < A.states → set_of p ≢ set_of q
  pub step : (p a : ℕ) → p < A.states → a < A.labels → Moved steps a (set_of p) (set_of (A.step p a))
  pub yes : (p : ℕ) → p < A.states → Decides (A.yes p) (Holds (set_of p) (length steps))
