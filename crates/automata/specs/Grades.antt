-- The grades of an automaton: when its query needs no stack, and when not even a register.
use Rattle.std.specs.Prelude.{◌≡◌, ℕ, ◌<◌, ◌≤◌}
use Rattle.automata.specs.Automata.{Automaton}
use Rattle.automata.specs.States.{Internal, Almost, Apart, Meet, Together, MeetInside}

-- every two internal states that meet are almost equivalent
abbrev pub Registerless : Automaton → Type 0
Registerless A = (p q : ℕ) → Internal A p → Internal A q → Meet A p q → Almost A p q

-- the internal states p and q meet and yet are apart
pub record Clashing (A : Automaton) (p q : ℕ) : Type 0 where
  pub p_internal : Internal A p
  pub q_internal : Internal A q
  pub meet : Meet A p q
  pub apart : Apart A p q

-- and there is no lower p that clashes, nor a lower q with this p
pub record LowestClash (A : Automaton) (p q : ℕ) : Type 0 where
  pub clashing : Clashing A p q
  pub lowest : (r s : ℕ) → Clashing A r s → (p ≤ r) × (r ≡ p → q ≤ s)

-- two internal states that meet and yet are apart
pub record Clash (A : Automaton) : Type 0 where
  pub p : ℕ
  pub q : ℕ
  pub p_internal : Internal A p
  pub q_internal : Internal A q
  pub meet : Meet A p q
  pub apart : Apart A p q

-- in each component every two states that meet in it are almost equivalent
abbrev pub Stackless : Automaton → Type 0
Stackless A = (p q : ℕ) → p < A.states → q < A.states → Together A p q → MeetInside A p q → Almost A p q

-- two states of a component that meet in it and yet are apart
pub record Knot (A : Automaton) : Type 0 where
  pub p : ℕ
  pub q : ℕ
  pub p_below : p < A.states
  pub q_below : q < A.states
  pub together : Together A p q
  pub meet : MeetInside A p q
  pub apart : Apart A p q
