-- How the states of an automaton relate.
use Rattle.std.specs.Prelude.{◌≡◌, ℕ, ◌<◌, ◌≢◌, List, ◌∷◌}
use Rattle.automata.specs.Automata.{Automaton, Word, run}

-- some word leads from p to q
pub record Reaches (A : Automaton) (p q : ℕ) : Type 0 where
  pub by : List ℕ
  pub word : Word A.labels by
  pub leads : run A p by ≡ q

-- some nonempty word leads from the start to p
pub record Internal (A : Automaton) (p : ℕ) : Type 0 where
  pub first : ℕ
  pub rest : List ℕ
  pub word : Word A.labels (first ∷ rest)
  pub leads : run A A.start (first ∷ rest) ≡ p

-- p and q accept the same continuations
abbrev pub Equivalent : Automaton → ℕ → ℕ → Type 0
Equivalent A p q = (w : List ℕ) → Word A.labels w → A.yes (run A p w) ≡ A.yes (run A q w)

-- after some word one is yes and the other no
pub record Differ (A : Automaton) (p q : ℕ) : Type 0 where
  pub by : List ℕ
  pub word : Word A.labels by
  pub differ : A.yes (run A p by) ≢ A.yes (run A q by)

-- almost equivalent: after every nonempty word both are yes or both are no
abbrev pub Almost : Automaton → ℕ → ℕ → Type 0
Almost A p q = (a : ℕ) (w : List ℕ) → Word A.labels (a ∷ w) → A.yes (run A p (a ∷ w)) ≡ A.yes (run A q (a ∷ w))

-- after some nonempty word one is yes and the other no
pub record Apart (A : Automaton) (p q : ℕ) : Type 0 where
  pub first : ℕ
  pub rest : List ℕ
  pub word : Word A.labels (first ∷ rest)
  pub differ : A.yes (run A p (first ∷ rest)) ≢ A.yes (run A q (first ∷ rest))

-- one word brings both to the same state
pub record Meet (A : Automaton) (p q : ℕ) : Type 0 where
  pub by : List ℕ
  pub word : Word A.labels by
  pub same : run A p by ≡ run A q by

-- p and q share a component: each reaches the other, if only by the empty word
pub record Together (A : Automaton) (p q : ℕ) : Type 0 where
  pub there : Reaches A p q
  pub back : Reaches A q p

-- one word brings both to the same state, and that in p's component
pub record MeetInside (A : Automaton) (p q : ℕ) : Type 0 where
  pub by : List ℕ
  pub word : Word A.labels by
  pub same : run A p by ≡ run A q by
  pub inside : Together A p (run A p by)

-- the start reaches every state, and no two states are equivalent
pub record Minimal (A : Automaton) : Type 0 where
  pub reached : (p : ℕ) → p < A.states → Reaches A A.start p
  pub distinct : (p q : ℕ) → p < A.states → q < A.states → Equivalent A p q → p ≡ q
