-- What a table text says, and why it is refused.
use Rattle.std.specs.Prelude.{◌≡◌, ℕ, ◌<◌, ◌≤◌, Bool, true, false, List, [], ◌∷◌, map, length, codes, decimal, ◌≢◌}
use Rattle.std.specs.List.{range_with_len}
use Rattle.automata.specs.Automata.{Automaton, WellFormed}
use Rattle.base.specs.Tables.{automaton}
use Rattle.text.specs.declared.refusal.Refusal.{Refusal}
use Rattle.text.specs.declared.refusal.Refusal.TheVariants.{StatesLine, Row}
use Rattle.text.specs.Labelled.{names_of}
use Rattle.formats.specs.declared.table_text.TableText.{TableText}
use Rattle.formats.specs.LabelLine.{Headed, Unheaded}
use Rattle.formats.specs.Lines.{line, lines}

-- the fields of the states line
abbrev pub states_line : ℕ → ℕ → List (List ℕ)
states_line count start = codes "states" ∷ decimal count ∷ decimal start ∷ []

-- how a row says whether its state is a yes state
abbrev pub answer : Bool → List ℕ
answer true = codes "yes"
answer false = codes "no"

-- the fields of a state's row, with a target for each label in order
abbrev pub row_line : ℕ → ℕ → Bool → (ℕ → ℕ) → List (List ℕ)
row_line labels p accepts step = codes "row" ∷ decimal p ∷ answer accepts ∷ map (λ a. decimal (step a)) (range_with_len 0 labels)

-- the rows of the states in order
abbrev pub row_lines : Automaton → List (List (List ℕ))
row_lines A = map (λ p. row_line A.labels p (A.yes p) (A.step p)) (range_with_len 0 A.states)

-- what comes after the label line
abbrev pub written : Automaton → List ℕ
written A = lines (states_line A.states A.start ∷ row_lines A) []

-- a count of states, and a start among them
abbrev pub Bounded : ℕ → ℕ → Type 0
Bounded count start = (1 ≤ count) × (count ≤ 32) × (start < count)

-- the text is the label line of the labels, and then what is written of the table's automaton
pub record Accepted (text : List ℕ) (t : TableText) : Type 0 where
  pub whole : Headed text (names_of t.labels) (written (automaton t.table))
  pub labels : (automaton t.table).labels ≡ length (names_of t.labels)

-- why it is not: its label line, no states line after that, or no rows of an automaton after that
pub data Refused (text : List ℕ) : Refusal → Type 0 where
  unheaded : (why : Refusal) → Unheaded text why → Refused text why
  states : (names : List (List ℕ)) (rest : List ℕ) → Headed text names rest → ((count start : ℕ) (tail : List ℕ) → Bounded count start → rest ≢ line (states_line count start) tail) → Refused text StatesLine
  row : (names : List (List ℕ)) (count start : ℕ) (rest : List ℕ) → Headed text names (line (states_line count start) rest) → Bounded count start → ((A : Automaton) → WellFormed A → A.labels ≡ length names → A.states ≡ count → rest ≢ lines (row_lines A) []) → Refused text Row
