-- What the label line of a text says, and why it is refused.
use Rattle.std.specs.Prelude.{◌≡◌, ℕ, ◌<◌, ◌≤◌, cond, ◌&&◌, List, [], ◌∷◌, ◌++◌, length, Ok, Err, codes, Result, ◌≢◌, nat_le}
use Rattle.std.specs.Str.{bytes_eq}
use Rattle.text.specs.declared.labels.Labels.{Labels}
use Rattle.text.specs.declared.refusal.Refusal.{Refusal}
use Rattle.text.specs.declared.refusal.Refusal.TheVariants.{TooLong, NoNewline, NotLabels, BadName, NameCount, NameTwice, Row}
use Rattle.text.specs.Labelled.{names_of}
use Rattle.text.specs.NameLists.{all_names, twice}
use Rattle.text.specs.Pieces.{Pieces, split, first, others}
use Rattle.formats.specs.Lines.{line}

-- the first rule that the names break, else the names
abbrev pub by_rules : List (List ℕ) → Result (List (List ℕ)) Refusal
by_rules names =
    cond (all_names names)
    (cond (nat_le 1 (length names) && nat_le (length names) 16) (cond (twice names) (Err NameTwice) (Ok names)) (Err NameCount))
    (Err BadName)

-- the names in the fields of a label line: `labels`, and then the names
abbrev pub names_in : Pieces → Result (List (List ℕ)) Refusal
names_in fields = cond (bytes_eq (first fields) (codes "labels")) (by_rules (others fields)) (Err NotLabels)

-- the names in the first line of a text
abbrev pub label_line : List ℕ → Result (List (List ℕ)) Refusal
label_line text = names_in (split 9 (first (split 10 text)))

-- the text ends with a newline
abbrev pub Ended : List ℕ → Type 0
Ended text = (front : List ℕ) × (text ≡ front ++ 10 ∷ [])

-- the text begins with the label line of these names, and then comes the rest
pub record Headed (text : List ℕ) (names : List (List ℕ)) (rest : List ℕ) : Type 0 where
  pub fits : length text ≤ 65536
  pub ended : Ended text
  pub named : label_line text ≡ Ok names
  pub written : text ≡ line (codes "labels" ∷ names) rest

-- the text does not begin with a label line, and why
pub data Unheaded (text : List ℕ) : Refusal → Type 0 where
  too_long : 65536 < length text → Unheaded text TooLong
  unended : length text ≤ 65536 → (Ended text → ⊥) → Unheaded text NoNewline
  labels : (why : Refusal) → length text ≤ 65536 → Ended text → label_line text ≡ Err why → Unheaded text why

-- the text is the label line of these labels and nothing else
abbrev pub Accepted : List ℕ → Labels → Type 0
Accepted text l = Headed text (names_of l) []

-- it is no label line by itself, and why
pub data Refused (text : List ℕ) : Refusal → Type 0 where
  unheaded : (why : Refusal) → Unheaded text why → Refused text why
  followed : (names : List (List ℕ)) (rest : List ℕ) → Headed text names rest → (rest ≢ []) → Refused text Row
