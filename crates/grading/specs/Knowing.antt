-- What is known of the states of an automaton.
use Rattle.std.specs.Prelude.{ℕ, ◌<◌, ◌↔◌}
use Rattle.automata.specs.Automata.{Automaton}
use Rattle.automata.specs.States.{Differ, Meet, Reaches, MeetInside, Almost, Together}
use Rattle.grading.specs.Pairing.{Has}
use Rattle.grading.specs.declared.pairs.Pairs.{Pairs}

-- the set has just the pairs of numbers below n that are in the relation
abbrev pub Agrees : ℕ → (ℕ → ℕ → Type 0) → Pairs → Type 0
Agrees n R m = (p q : ℕ) → Has m p q ↔ ((p < n) × (q < n) × R p q)

-- the sets are those of the automaton's states that differ, that meet, that reach and that meet inside
pub record Known (A : Automaton) (d m r i : Pairs) : Type 0 where
  pub differ : Agrees A.states (Differ A) d
  pub meet : Agrees A.states (Meet A) m
  pub reach : Agrees A.states (Reaches A) r
  pub inside : Agrees A.states (MeetInside A) i

-- the state p is almost equivalent to each state of its component that it meets in it
abbrev pub Plain : Automaton → ℕ → Type 0
Plain A p = (q : ℕ) → q < A.states → Together A p q → MeetInside A p q → Almost A p q
