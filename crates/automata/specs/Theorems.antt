-- What is proved of grades and machines.
use Rattle.std.specs.Prelude.{◌≡◌, ℕ, ◌<◌, ◌↔◌, List, [], ◌∷◌, ◌++◌}
use Rattle.automata.specs.Automata.{Automaton, run, WellFormed}
use Rattle.automata.specs.States.{Minimal}
use Rattle.automata.specs.Grades.{Registerless, Clash}
use Rattle.automata.specs.Streams.{Document, path, reads, Finite, Errs}
use Rattle.automata.specs.Machines.{NoMachineServes}
use Rattle.automata.specs.Backward.{Tests, back, machine, Stands}
use Rattle.automata.specs.declared.tag.Tag.{Tag}

-- an automaton is registerless just where no two states clash
abbrev pub RegisterlessIff : Type 0
RegisterlessIff = (A : Automaton) → Registerless A ↔ (¬ Clash A)

-- where two states clash, every machine errs on some document
abbrev pub DeniedErrs : Type 0
DeniedErrs = (A : Automaton) → WellFormed A → Clash A → NoMachineServes A

-- a state that stands for a path stands for the longer one after an opening, and is then the automaton's own
abbrev pub OpeningStands : Type 0
OpeningStands = (A : Automaton) → WellFormed A → Minimal A → (p a : ℕ) (w : List ℕ) → a < A.labels → Stands A p w → Stands A (A.step p a) (w ++ a ∷ []) × (A.step p a ≡ run A A.start (w ++ a ∷ []))

-- and for the shorter one after a closing, unless the root closed
abbrev pub ClosingStands : Type 0
ClosingStands = (A : Automaton) → WellFormed A → Minimal A → Registerless A → (T : Tests A) (p a b : ℕ) (w : List ℕ) → Stands A p ((b ∷ w) ++ a ∷ []) → Stands A (back A T p a) (b ∷ w)

-- the machine's state stands for the path of open labels up to the root's closing
abbrev pub GivenStands : Type 0
GivenStands = (A : Automaton) → WellFormed A → Minimal A → Registerless A → (T : Tests A) (before : List (Tag ℕ)) (t : Tag ℕ) (after : List (Tag ℕ)) → Document A.labels (before ++ t ∷ after) → Stands A (reads (machine A T) A.start before) (path before)

-- where no two states clash, the automaton's machine is finite and errs on no document
abbrev pub GivenServes : Type 0
GivenServes = (A : Automaton) → WellFormed A → Minimal A → Registerless A → (T : Tests A) → Finite A.labels (machine A T) × ((d : List (Tag ℕ)) → Document A.labels d → ¬ Errs A (machine A T) d)
