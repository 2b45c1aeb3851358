-- What a tag line says.
use Rattle.std.specs.Prelude.{ℕ, cond, List, [], ◌∷◌, Some, None, Ok, Err, Option, Result, ◌==◌}
use Rattle.std.specs.Borrow.{Bor}
use Rattle.automata.specs.declared.tag.Tag.{Tag}
use Rattle.automata.specs.declared.tag.Tag.TheVariants.{Open, Close}
use Rattle.text.specs.declared.refusal.Refusal.{Refusal}
use Rattle.text.specs.declared.refusal.Refusal.TheVariants.{TagLine, UnknownName}
use Rattle.text.specs.Names.{is_name}
use Rattle.text.specs.NameLists.{place}

-- a mark with the bytes after its tab
pub data Marked : Type 0 where
  opens : List ℕ → Marked
  closes : List ℕ → Marked
  neither : Marked

-- '+' or '-', a tab, and the name
abbrev pub marked : List ℕ → Marked
marked [] = neither
marked (m ∷ []) = neither
marked (m ∷ t ∷ name) = cond (t == 9) (cond (m == 43) (opens name) (cond (m == 45) (closes name) neither)) neither

-- what a tag with a name in place of its label stands for
abbrev pub marked_by : Option (Tag (Bor (List ℕ))) → Marked
marked_by None = neither
marked_by (Some (Open name)) = opens name.now
marked_by (Some (Close name)) = closes name.now

-- the number of a name by the rule for names
abbrev pub label_of : List (List ℕ) → List ℕ → Result ℕ Refusal
label_of names name = cond (is_name name) (elim (place names name) [ Some label ↦ Ok label | None ↦ Err UnknownName ]) (Err TagLine)

abbrev pub as_tag : (ℕ → Tag ℕ) → Result ℕ Refusal → Result (Tag ℕ) Refusal
as_tag kind (Ok label) = Ok (kind label)
as_tag kind (Err refusal) = Err refusal

abbrev pub tag_of_marked : List (List ℕ) → Marked → Result (Tag ℕ) Refusal
tag_of_marked names (opens name) = as_tag Open (label_of names name)
tag_of_marked names (closes name) = as_tag Close (label_of names name)
tag_of_marked names neither = Err TagLine

-- the tag of a line without its newline, or why there is none
abbrev pub tag_of : List (List ℕ) → List ℕ → Result (Tag ℕ) Refusal
tag_of names line = tag_of_marked names (marked line)
