-- Which selector picks.
use Rattle.std.specs.Prelude.{◌≡◌, ℕ, min, List, length, Some, None, Ok, Err, Option, Result}
use Rattle.automata.specs.Automata.{Automaton}
use Rattle.text.specs.declared.refusal.Refusal.{Refusal}
use Rattle.text.specs.declared.refusal.Refusal.TheVariants.{NotRegisterless, NotStackless}
use Rattle.grading.specs.Holding.{Clashed, Begins as HeldBegins}
use Rattle.grading.specs.Noting.{Knotted, Begins as NotedBegins}
use Rattle.choosing.specs.declared.chosen.Made.{Made}
use Rattle.choosing.specs.declared.chosen.Made.TheVariants.{Registerless, Stackless, Stack}
use Rattle.choosing.specs.declared.kind.SelectorKind.{SelectorKind}
use Rattle.choosing.specs.declared.kind.SelectorKind.TheVariants.{Registerless as RegisterlessKind, Stackless as StacklessKind, Stack as StackKind}

abbrev pub kind_of : Made → SelectorKind
kind_of (Registerless s) = RegisterlessKind
kind_of (Stackless s) = StacklessKind
kind_of Stack = StackKind

-- how many levels it can follow, with this stack
abbrev pub carry_of : Made → List ℕ → ℕ
carry_of (Registerless s) stack = 65535
carry_of (Stackless s) stack = 65535
carry_of Stack stack = min 65535 (length stack)

-- the selector stands at the start of the minimal table of A's query; the stack selector runs A itself
abbrev pub Begins : Automaton → Made → Type 0
Begins A (Registerless s) = HeldBegins A s
Begins A (Stackless s) = NotedBegins A s
Begins A Stack = Unit {0}

-- no lesser selector serves A's query
abbrev pub NoLesser : Automaton → Made → Type 0
NoLesser A (Registerless s) = Unit {0}
NoLesser A (Stackless s) = Clashed A
NoLesser A Stack = Clashed A × Knotted A

-- it is the one that is wanted, or else the least that serves
abbrev pub AsWanted : Automaton → Option SelectorKind → Made → Type 0
AsWanted A None m = NoLesser A m
AsWanted A (Some kind) m = kind_of m ≡ kind

-- why the one that is wanted does not serve
abbrev pub Unserved : Automaton → Option SelectorKind → Refusal → Type 0
Unserved A None why = ⊥
Unserved A (Some RegisterlessKind) why = (why ≡ NotRegisterless) × Clashed A
Unserved A (Some StacklessKind) why = (why ≡ NotStackless) × Knotted A
Unserved A (Some StackKind) why = ⊥

abbrev pub Makes : Automaton → Option SelectorKind → Result Made Refusal → Type 0
Makes A wanted (Ok m) = Begins A m × AsWanted A wanted m
Makes A wanted (Err why) = Unserved A wanted why
