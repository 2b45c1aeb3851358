-- What a list in place holds, and what its calls do.
use Rattle.std.specs.Prelude.{◌≡◌, ℕ, ◌<◌, List, [], ◌∷◌, ◌++◌, length, take, Some, None, Ok, Err, Option, Result}
use Rattle.text.specs.declared.list.ArrayList.{ArrayList}

abbrev pub items : {T : Type 0} {n : ℕ} → ArrayList T n → List T
items l = take l.len l.places

-- the item goes behind the others; a list of n items stays as it is
abbrev pub Pushes : {T : Type 0} (n : ℕ) → ArrayList T n → T → ArrayList T n → Result (Unit {0}) T → Type 0
Pushes n before item after (Ok done) = items after ≡ items before ++ item ∷ []
Pushes n before item after (Err back) = (length (items before) ≡ n) × (after ≡ before) × (back ≡ item)

-- the last item is taken off; an empty list stays as it is
abbrev pub Pops : {T : Type 0} {n : ℕ} → ArrayList T n → ArrayList T n → Option T → Type 0
Pops before after (Some item) = items before ≡ items after ++ item ∷ []
Pops before after None = (items before ≡ []) × (after ≡ before)

-- the items of the slice, where n places hold them
abbrev pub Fills : {T : Type 0} (n : ℕ) → List T → Option (ArrayList T n) → Type 0
Fills n slice (Some l) = items l ≡ slice
Fills n slice None = n < length slice
