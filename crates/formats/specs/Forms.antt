-- The parts of a table text that are read one after the other.
use Rattle.std.specs.Prelude.{◌≡◌, ℕ, ◌<◌, Bool, List, ◌∷◌, ◌++◌, map, decimal, slice_index}
use Rattle.std.specs.List.{range_with_len}
use Rattle.base.specs.declared.table.Row.{Row}
use Rattle.base.specs.Rows.{row}
use Rattle.formats.specs.Lines.{line, lines}
use Rattle.formats.specs.Reading.{Form}
use Rattle.formats.specs.TableText.{states_line, answer, row_line, Bounded}

-- a number below 256, and the byte that ends it
abbrev pub number_form : ℕ → Form ℕ
number_form end = record { range = λ n. n < 256; write = λ n tail. decimal n ++ end ∷ tail }

-- the states line: its count and start
abbrev pub states_form : Form (ℕ × ℕ)
states_form = record { range = λ v. Bounded v.0 v.1; write = λ v. line (states_line v.0 v.1) }

-- yes or no, and the tab that ends it
abbrev pub answer_form : Form Bool
answer_form = record { range = λ _. Unit {0}; write = λ accepts tail. answer accepts ++ 9 ∷ tail }

-- the rest of a row: a target below 256 for each label
abbrev pub targets_form : ℕ → Form (ℕ → ℕ)
targets_form labels = record {
  range = λ step. (a : ℕ) → a < labels → step a < 256;
  write = λ step. line (map (λ a. decimal (step a)) (range_with_len 0 labels));
}

-- the row of a state: yes or no, and the targets
abbrev pub row_form : ℕ → ℕ → Form (Bool × (ℕ → ℕ))
row_form labels p = record { range = λ v. (targets_form labels).range v.1; write = λ v. line (row_line labels p v.0 v.1) }

-- the rows of so many states
abbrev pub rows_form : ℕ → ℕ → Form ((ℕ → Bool) × (ℕ → ℕ → ℕ))
rows_form labels states = record {
  range = λ v. (p : ℕ) → p < states → (targets_form labels).range (v.1 p);
  write = λ v. lines (map (λ p. row_line labels p (v.0 p) (v.1 p)) (range_with_len 0 states));
}

-- the array has these targets
abbrev pub Stored : ℕ → List ℕ → (ℕ → ℕ) → Type 0
Stored labels targets step = (a : ℕ) → a < labels → step a ≡ slice_index targets a

-- the row has this answer and these targets
abbrev pub HasRow : ℕ → Row → Bool × (ℕ → ℕ) → Type 0
HasRow labels r v = (v.0 ≡ r.accepts) × Stored labels r.targets v.1

-- the array has these rows
abbrev pub Filled : ℕ → ℕ → List Row → (ℕ → Bool) × (ℕ → ℕ → ℕ) → Type 0
Filled labels states rows v = (p : ℕ) → p < states → HasRow labels (row rows p) (v.0 p, v.1 p)
