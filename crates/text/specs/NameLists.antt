-- Lists of names, each name a list of bytes.
use Rattle.std.specs.Prelude.{◌≡◌, ℕ, suc, ◌<◌, Bool, false, cond, ◌||◌, List, [], ◌∷◌, length, Some, None, Option, ◌≢◌, slice_index_or}
use Rattle.std.specs.List.{list_all, list_any}
use Rattle.std.specs.Str.{bytes_eq}
use Rattle.text.specs.Names.{is_name}

-- each is a name by the rule
abbrev pub all_names : List (List ℕ) → Bool
all_names = list_all is_name

-- the name is one of them
abbrev pub among : List ℕ → List (List ℕ) → Bool
among name = list_any (λ x. bytes_eq x name)

-- a name stands twice
abbrev pub twice : List (List ℕ) → Bool
twice [] = false
twice (x ∷ xs) = among x xs || twice xs

-- one place further on
abbrev pub shifted : Option ℕ → Option ℕ
shifted None = None
shifted (Some n) = Some (suc n)

-- the lowest place of the name, counted from 0
abbrev pub place : List (List ℕ) → List ℕ → Option ℕ
place [] name = None
place (x ∷ xs) name = cond (bytes_eq x name) (Some 0) (shifted (place xs name))

-- the same by places: the lowest at which the name stands, or it stands nowhere
abbrev pub Lowest : List (List ℕ) → List ℕ → Option ℕ → Type 0
Lowest names name (Some i) = (i < length names) × (slice_index_or names i [] ≡ name) × ((k : ℕ) → k < i → slice_index_or names k [] ≢ name)
Lowest names name None = (k : ℕ) → k < length names → slice_index_or names k [] ≢ name
