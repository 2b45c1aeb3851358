-- How lines of fields are written.
use Rattle.std.specs.Prelude.{ℕ, List, [], ◌∷◌, ◌++◌}

-- the byte that ends a field: a tab where others follow it in the line, else the newline
abbrev pub ending : List (List ℕ) → ℕ
ending [] = 10
ending (field ∷ fields) = 9

-- the line with these fields, and after it the rest of the text
abbrev pub line : List (List ℕ) → List ℕ → List ℕ
line [] rest = rest
line (field ∷ fields) rest = field ++ ending fields ∷ line fields rest

-- these lines, and after them the rest of the text
abbrev pub lines : List (List (List ℕ)) → List ℕ → List ℕ
lines [] rest = rest
lines (fields ∷ others) rest = line fields (lines others rest)
