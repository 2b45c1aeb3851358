-- What a source of tags means.
use Rattle.std.specs.Prelude.{◌≡◌, ℕ, List, [], ◌∷◌, Some, None, Ok, Err, Option, Result}
use Rattle.automata.specs.declared.tag.Tag.{Tag}
use Rattle.base.specs.declared.source.Fault.{Fault}

pub record Source : Type 0 where
  -- the tags that wait, in order
  pub waiting : List (Tag ℕ)
  -- the fault at which all ends, or a clean end
  pub ending : Option Fault

-- what a call gives at the end
abbrev pub end_of : Option Fault → Result (Option (Tag ℕ)) Fault
end_of None = Ok None
end_of (Some fault) = Err fault

-- what a call gives: the first tag that waits, or else the end
abbrev pub first_of : Source → Result (Option (Tag ℕ)) Fault
first_of s = elim s.waiting [ [] ↦ end_of s.ending | x ∷ xs ↦ Ok (Some x) ]

-- what it then holds
abbrev pub rest_of : Source → Source
rest_of s = record { waiting = elim s.waiting [ [] ↦ [] | x ∷ xs ↦ xs ]; ending = s.ending }

-- one call: what it gives, and what the source holds afterwards
pub record Gives (before : Source) (r : Result (Option (Tag ℕ)) Fault) (after : Source) : Type 0 where
  pub given : r ≡ first_of before
  pub left : after ≡ rest_of before
