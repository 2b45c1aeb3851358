-- What each grade says of an automaton, and what it settles for machines.
use Rattle.std.specs.Prelude.{ℕ, List, codes}
use Rattle.automata.specs.Automata.{Automaton}
use Rattle.automata.specs.Grades.{Registerless as NeedsNoRegister, Clash, Stackless as NeedsNoStack, Knot}
use Rattle.automata.specs.Machines.{NoMachineServes, MachineServes}
use Rattle.grading.specs.declared.grade.Grade.{Grade}
use Rattle.grading.specs.declared.grade.Grade.TheVariants.{Registerless, Stackless, Neither}

-- a minimal automaton has the grade
abbrev pub Earns : Automaton → Grade → Type 0
Earns A Registerless = NeedsNoRegister A
Earns A Stackless = Clash A × NeedsNoStack A
Earns A Neither = Clash A × Knot A

-- the first grade is given where some machine serves the query, and denied where none does
abbrev pub Settles : Automaton → Grade → Type 0
Settles A Registerless = MachineServes A
Settles A Stackless = NoMachineServes A
Settles A Neither = NoMachineServes A

-- the word for the grade
abbrev pub name : Grade → List ℕ
name Registerless = codes "registerless"
name Stackless = codes "stackless"
name Neither = codes "neither"
