-- How a scan of the states, row by row, meets the position sets and numbers them.
use Rattle.std.specs.Prelude.{◌≡◌, ℕ, ◌<◌, ◌≤◌, List, length, Decides, get_or, slice_index}
use Rattle.automata.specs.Numbering.{met_in_row, met}
use Rattle.text.specs.Labelled.{names_of}
use Rattle.base.specs.declared.table.Row.{Row as TableRow}
use Rattle.base.specs.Rows.{row, target}
use Rattle.paths.specs.declared.path.Step.{Step}
use Rattle.paths.specs.declared.path.compile.Scan.{Scan}
use Rattle.paths.specs.Positions.{start_set, Holds, Moved, Reached}
use Rattle.paths.specs.Sets.{sets_of, Full}
use Rattle.paths.specs.Texts.{steps_of}

-- the first a targets of a row whose set is `set`: before it the sets `old` were met, after it the sets `new`
pub record Row (steps : List Step) (set : ℕ) (old : List ℕ) (a : ℕ) (row new : List ℕ) : Type 0 where
  pub kept : (p : ℕ) → p < length old → slice_index new p ≡ slice_index old p
  pub moves : (b : ℕ) → b < a → Moved steps b set (slice_index new (slice_index row b))
  pub next : (b : ℕ) → b < a → slice_index row b ≤ met_in_row (λ c. slice_index row c) (length old) b
  pub counts : length new ≡ met_in_row (λ c. slice_index row c) (length old) a
  pub led : (q : ℕ) → length old ≤ q → q < length new → (b : ℕ) × (b < a) × Moved steps b set (slice_index new q)

-- at some label the row leads to one set too many
pub record Stuck (steps : List Step) (labels set : ℕ) (old new : List ℕ) : Type 0 where
  pub label : ℕ
  pub row : List ℕ
  pub over : ℕ
  pub before : label < labels
  pub scanned : Row steps set old label row new
  pub leads : Moved steps label set over
  pub full : Full new over

-- the rows below p are scanned, and met the sets; a state says yes where its set holds the position behind all steps
pub record Scanned (steps : List Step) (labels : ℕ) (rows : List TableRow) (p : ℕ) (sets : List ℕ) : Type 0 where
  pub below : p ≤ length sets
  pub start : get_or sets 0 0 ≡ start_set
  pub moves : (q a : ℕ) → q < p → a < labels → Moved steps a (slice_index sets q) (slice_index sets (target rows q a))
  pub next : (q a : ℕ) → q < p → a < labels → target rows q a ≤ met_in_row (target rows q) (met labels (target rows) q) a
  pub counts : length sets ≡ met labels (target rows) p
  pub reached : (q : ℕ) → q < length sets → Reached steps labels (slice_index sets q)
  pub yes : (q : ℕ) → q < p → Decides (row rows q).accepts (Holds (slice_index sets q) (length steps))

-- the steps, the label count and the sets of a scan
abbrev pub steps_in : Scan → List Step
steps_in s = steps_of s.path.now

abbrev pub labels_in : Scan → ℕ
labels_in s = length (names_of s.labels.now)

abbrev pub sets_in : Scan → List ℕ
sets_in s = sets_of s.sets

-- the scan has the same path and labels as before
pub record Kept (before after : Scan) : Type 0 where
  pub path : after.path.now ≡ before.path.now
  pub labels : after.labels.now ≡ before.labels.now

-- the same, of a row that a scan makes, and of all rows
abbrev pub RowFrom : Scan → ℕ → Scan → TableRow → Type 0
RowFrom before state after r =
    Row (steps_in before) (slice_index (sets_in before) state) (sets_in before) (labels_in before) r.targets (sets_in after)
    × Decides r.accepts (Holds (slice_index (sets_in before) state) (length (steps_in before)))

abbrev pub StuckFrom : Scan → ℕ → Scan → Type 0
StuckFrom before state after = Stuck (steps_in before) (labels_in before) (slice_index (sets_in before) state) (sets_in before) (sets_in after)

abbrev pub AllScanned : Scan → Scan → List TableRow → Type 0
AllScanned before after rows = Scanned (steps_in before) (labels_in before) rows (length (sets_in after)) (sets_in after)
