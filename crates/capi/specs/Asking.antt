-- Which selector a number asks for.
use Rattle.std.specs.Prelude.{◌≡◌, ℕ, cond, Some, None, Ok, Err, Option, Result, ◌==◌}
use Rattle.choosing.specs.declared.kind.SelectorKind.{SelectorKind}
use Rattle.choosing.specs.declared.kind.SelectorKind.TheVariants.{Registerless, Stackless, Stack}
use Rattle.capi.specs.declared.failure.Failure.{Failure}
use Rattle.capi.specs.declared.failure.Failure.TheVariants.{NoSelector}
use Rattle.capi.specs.declared.lent.Asked.{Asked}

-- what a number asks for: the least that serves, or one by its kind
abbrev pub wanted_of : ℕ → Option (Option SelectorKind)
wanted_of n =
    cond (n == 0) (Some None) (cond (n == 1) (Some (Some Registerless)) (cond (n == 2) (Some (Some Stackless)) (cond (n == 3) (Some (Some Stack)) None)))

-- what it asks for, or no selector has it
abbrev pub AsksFor : ℕ → Result Asked Failure → Type 0
AsksFor n (Ok asked) = wanted_of n ≡ Some asked.wanted
AsksFor n (Err why) = (wanted_of n ≡ None) × (why ≡ NoSelector)
