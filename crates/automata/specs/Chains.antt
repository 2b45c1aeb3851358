-- Chains of notes through the components of an automaton.
use Rattle.std.specs.Prelude.{◌≡◌, ℕ, ◌<◌, List, [], ◌∷◌}
use Rattle.automata.specs.Automata.{Automaton}
use Rattle.automata.specs.States.{Reaches, Together}
use Rattle.automata.specs.Noting.{Note}

-- n states, no two of them in one component, and every state in the component of one of them
pub record Representatives (A : Automaton) (n : ℕ) : Type 0 where
  pub state : ℕ → ℕ
  pub below : (i : ℕ) → i < n → state i < A.states
  pub apart : (i j : ℕ) → i < n → j < n → Together A (state i) (state j) → i ≡ j
  pub all : (p : ℕ) → p < A.states → (i : ℕ) × (i < n) × Together A p (state i)

-- p reaches q and q does not reach p: q lies in a later component
pub record Later (A : Automaton) (p q : ℕ) : Type 0 where
  pub reaches : ∥ Reaches A p q ∥₁
  pub never_back : ¬ Reaches A q p

-- the state of the oldest note, or p where there is none
abbrev pub first_state : List Note → ℕ → ℕ
first_state [] p = p
first_state (n ∷ ns) p = n.state

-- each note's state is one, and lies before the next note's, and the last one's before p
abbrev pub Chain : Automaton → List Note → ℕ → Type 0
Chain A [] p = p < A.states
Chain A (n ∷ ns) p = (n.state < A.states) × Later A n.state (first_state ns p) × Chain A ns p
