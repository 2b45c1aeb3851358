-- Which states a label leads to a state, and which have an answer.
use Rattle.std.specs.Prelude.{◌≡◌, ℕ, ◌+◌, ◌*◌, ◌<◌, Bool, ◌↔◌, List, [], slice_index_or}
use Rattle.automata.specs.Automata.{Automaton}
use Rattle.grading.specs.Pairing.{row}
use Rattle.grading.specs.StateSets.{In, Gathers}
use Rattle.grading.specs.declared.pairs.Pairs.{Pairs}
use Rattle.grading.specs.declared.states.StateSet.{StateSet}

-- the pairs for a label
abbrev pub entering : List Pairs → ℕ → Pairs
entering m a = slice_index_or m a (record { rows = [] })

-- the set for a label and a state
abbrev pub before : List Pairs → ℕ → ℕ → StateSet
before m a x = row (entering m a) x

-- the label a leads from the state p to x
pub record Leads (A : Automaton) (a p x : ℕ) : Type 0 where
  pub below : p < A.states
  pub leads : A.step p a ≡ x

-- each set has just the states that its label leads to its state
abbrev pub Indexes : Automaton → List Pairs → Type 0
Indexes A m = (a x p : ℕ) → a < A.labels → In p (before m a x) ↔ Leads A a p x

-- and of those just the ones at places before n, going through the states by number and each one's labels by number
abbrev pub Indexed : Automaton → List Pairs → ℕ → Type 0
Indexed A m n = (a x p : ℕ) → a < A.labels → In p (before m a x) ↔ ((16 * p + a < n) × (A.step p a ≡ x))

-- the set has just the states with this answer
abbrev pub Answering : Automaton → Bool → StateSet → Type 0
Answering A b = Gathers (λ p. A.yes p ≡ b) A.states
