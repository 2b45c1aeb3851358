-- The numbers of components, listed by state.
use Rattle.std.specs.Prelude.{ℕ, ◌<◌, List, slice_index}
use Rattle.automata.specs.Automata.{Automaton}
use Rattle.automata.specs.Components.{Numbers}

-- the first n states each have the number of their component
abbrev pub NumberedBelow : Automaton → ℕ → List ℕ → Type 0
NumberedBelow A n numbers = (p : ℕ) → p < n → Numbers A p (slice_index numbers p)

-- and so have all states
abbrev pub Numbered : Automaton → List ℕ → Type 0
Numbered A = NumberedBelow A A.states
