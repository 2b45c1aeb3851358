-- The tags and the ending of a text of tag lines.
use Rattle.std.specs.Prelude.{◌≡◌, ℕ, ◌+◌, ◌<◌, ◌≤◌, List, [], ◌∷◌, length, Some, None, Ok, Err, Result}
use Rattle.automata.specs.declared.tag.Tag.{Tag}
use Rattle.text.specs.declared.refusal.Refusal.{Refusal}
use Rattle.text.specs.declared.refusal.Refusal.TheVariants.{TagLine, TooLong}
use Rattle.text.specs.Labelled.{names_of}
use Rattle.text.specs.Pieces.{Pieces, last, next, split}
use Rattle.base.specs.Sources.{Source}
use Rattle.base.specs.TagLines.{tag_of}
use Rattle.base.specs.declared.lines.LineSource.{LineSource}

-- line n gives its tag and then what follows, or is the fault at which all ends
abbrev pub tag_then : ℕ → Result (Tag ℕ) Refusal → Source → Source
tag_then n (Ok tag) later = record { waiting = tag ∷ later.waiting; ending = later.ending }
tag_then n (Err refusal) later = record { waiting = []; ending = Some (record { refusal = refusal; line = n }) }

-- the lines from number n on: nothing follows the last newline, and a last line without one is faulty
abbrev pub from_line : List (List ℕ) → ℕ → Pieces → Source
from_line names n (last []) = record { waiting = []; ending = None }
from_line names n (last (b ∷ bytes)) = record { waiting = []; ending = Some (record { refusal = TagLine; line = n }) }
from_line names n (next bytes ps) = tag_then n (tag_of names bytes) (from_line names (n + 1) ps)

-- a text of tag lines, counted from 1
abbrev pub line_source : List (List ℕ) → List ℕ → Source
line_source names text = from_line names 1 (split 10 text)

-- what a source over lines holds: the lines that are left
abbrev pub lines_hold : LineSource → Source
lines_hold s = from_line (names_of s.labels.now) s.line (split 10 s.text.now)

-- a fresh source holds the whole text, which is not too long
abbrev pub Starts : List (List ℕ) → List ℕ → Result LineSource Refusal → Type 0
Starts names text (Ok s) = (length text ≤ 65536) × (lines_hold s ≡ line_source names text)
Starts names text (Err why) = (65536 < length text) × (why ≡ TooLong)
