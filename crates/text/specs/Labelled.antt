-- What labels stand for: their names in order.
use Rattle.std.specs.Prelude.{◌≡◌, ℕ, ◌<◌, ◌≤◌, true, cond, List, [], ◌∷◌, length, Some, None, Ok, Err, Option, Result, nat_lt, slice_index_or}
use Rattle.std.specs.Borrow.{Bor}
use Rattle.text.specs.declared.labels.Labels.{Labels}
use Rattle.text.specs.declared.refusal.Refusal.{Refusal}
use Rattle.text.specs.declared.refusal.Refusal.TheVariants.{BadName, NameCount, NameTwice}
use Rattle.text.specs.Names.{is_name}
use Rattle.text.specs.NameLists.{among, place}
use Rattle.text.specs.Stored.{stored}

abbrev pub names_of : Labels → List (List ℕ)
names_of l = stored l.names

-- the names of the labels, or why there are none
abbrev pub read_names : Result Labels Refusal → Result (List (List ℕ)) Refusal
read_names (Ok labels) = Ok (names_of labels)
read_names (Err refusal) = Err refusal

-- the name by itself, where it is one by the rule
abbrev pub single : List ℕ → Result (List (List ℕ)) Refusal
single name = cond (is_name name) (Ok (name ∷ [])) (Err BadName)

-- whether one more name is taken: the first refusal that fits
abbrev pub admitted : List (List ℕ) → List ℕ → Result (Unit {0}) Refusal
admitted names name =
    cond (is_name name) (cond (nat_lt (length names) 16) (cond (among name names) (Err NameTwice) (Ok tt)) (Err NameCount)) (Err BadName)

-- a name by the rule, with its place for number; none past the last
abbrev pub Named : List (List ℕ) → ℕ → Option (Bor (List ℕ)) → Type 0
Named names label (Some name) = (label < length names) × (name.now ≡ slice_index_or names label []) × (place names name.now ≡ Some label) × (is_name name.now ≡ true)
Named names label None = length names ≤ label
