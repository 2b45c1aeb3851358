-- The names and the numbers of the selectors.
use Rattle.std.specs.Prelude.{◌≡◌, ◌≢◌, ℕ, List, Ok, Err, Result, codes}
use Rattle.choosing.specs.declared.kind.SelectorKind.{SelectorKind}
use Rattle.choosing.specs.declared.kind.SelectorKind.TheVariants.{Registerless, Stackless, Stack}
use Rattle.choosing.specs.declared.kind.UnknownSelector.{UnknownSelector}

abbrev pub word_of : SelectorKind → List ℕ
word_of Registerless = codes "registerless"
word_of Stackless = codes "stackless"
word_of Stack = codes "stack"

abbrev pub number_of_kind : SelectorKind → ℕ
number_of_kind Registerless = 1
number_of_kind Stackless = 2
number_of_kind Stack = 3

-- the kind of this name, or no kind has it
abbrev pub Named : List ℕ → Result SelectorKind UnknownSelector → Type 0
Named word (Ok kind) = word ≡ word_of kind
Named word (Err why) = (kind : SelectorKind) → word ≢ word_of kind

-- the kind of this number, or no kind has it
abbrev pub Numbered : ℕ → Result SelectorKind UnknownSelector → Type 0
Numbered number (Ok kind) = number ≡ number_of_kind kind
Numbered number (Err why) = (kind : SelectorKind) → number ≢ number_of_kind kind
