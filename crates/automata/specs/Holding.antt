-- A selector that holds one state: the registerless selector.
use Rattle.std.specs.Prelude.{◌≡◌, ℕ, ◌<◌, ◌≤◌, Bool, false, List, [], ◌∷◌}
use Rattle.automata.specs.Automata.{Automaton, Word, WellFormed, run, accepts}
use Rattle.automata.specs.States.{Internal, Equivalent, Almost}
use Rattle.automata.specs.Grades.{Registerless}
use Rattle.automata.specs.Lowest.{Lowest}
use Rattle.automata.specs.Meaning.{Meaning, Moves}

-- what is known of the automaton that such a selector runs: no two of its states are equivalent, and it is registerless
pub record Serves (A : Automaton) : Type 0 where
  pub formed : WellFormed A
  pub distinct : (p q : ℕ) → p < A.states → q < A.states → Equivalent A p q → p ≡ q
  pub registerless : Registerless A

-- how the selectors of a type hold their state
pub record Holding (S : Type 0) : Type 1 where
  pub automaton : S → Automaton
  pub state : S → ℕ
  pub serves : (s : S) → Serves (automaton s)
  pub inside : (s : S) → state s < (automaton s).states
  -- the second has the first one's automaton
  pub kept : S → S → Type 0
  pub kept_automaton : (s t : S) → kept s t → automaton t ≡ automaton s

-- s can be the state before the label a led to p: an internal state whose target is almost equivalent to p
abbrev pub Before : Automaton → ℕ → ℕ → ℕ → Type 0
Before A p a s = Internal A s × Almost A (A.step s a) p

-- p serves for the state that the path leads to
abbrev pub StandsIn : Automaton → ℕ → List ℕ → Type 0
StandsIn A p [] = p ≡ A.start
StandsIn A p (a ∷ w) = Word A.labels (a ∷ w) × ∥ Internal A p ∥₁ × Almost A p (run A A.start (a ∷ w))

module _ {S : Type 0} (v : Holding S) where
  pub record Renewed (s t : S) : Type 0 where
    pub kept : v.kept s t
    pub state : v.state t ≡ (v.automaton s).start

  pub record Stepped (s : S) (a : ℕ) (t : S) (r : Bool) : Type 0 where
    pub kept : v.kept s t
    pub state : v.state t ≡ (v.automaton s).step (v.state s) a
    pub answer : r ≡ (v.automaton s).yes (v.state t)

  -- an unknown label moves nothing and is answered no
  pub record Opened (s : S) (a : ℕ) (t : S) (r : Bool) : Type 0 where
    pub steps : a < (v.automaton s).labels → Stepped s a t r
    pub stays : (v.automaton s).labels ≤ a → (t ≡ s) × (r ≡ false)

  -- back to the lowest state that can have been before, or where it is if there is none
  pub record Returned (s : S) (a : ℕ) (t : S) : Type 0 where
    pub kept : v.kept s t
    pub state : ∥ Lowest (Before (v.automaton s) (v.state s) a) (v.automaton s).states (v.state s) (v.state t) ∥₁

  pub record Closed (s : S) (a : ℕ) (t : S) : Type 0 where
    pub returns : a < (v.automaton s).labels → Returned s a t
    pub stays : (v.automaton s).labels ≤ a → t ≡ s

  abbrev pub meaning : Meaning S
  meaning = record {
    labels = λ s. (v.automaton s).labels;
    carry = λ s. 65535;
    wants = λ s. accepts (v.automaton s);
    stands = λ s. StandsIn (v.automaton s) (v.state s);
  }

  abbrev pub moves : Moves S
  moves = record { renewed = Renewed; opened = Opened; closed = Closed }
