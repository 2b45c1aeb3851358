-- A table under construction: what its numbers stand for, and which of its targets are written.
use Rattle.std.specs.Prelude.{◌≡◌, ℕ, ◌+◌, ◌*◌, ◌<◌, ◌≤◌, ◌⊎◌, List, [], ◌∷◌, ◌++◌, length, slice_index, slice_index_or}
use Rattle.automata.specs.Automata.{Automaton}
use Rattle.automata.specs.States.{Differ, Equivalent}
use Rattle.text.specs.Lists.{items}
use Rattle.base.specs.Rows.{row}
use Rattle.base.specs.declared.table.Row.{Row}
use Rattle.grading.specs.Pairing.{Has}
use Rattle.grading.specs.declared.draft.Draft.{Draft}
use Rattle.grading.specs.declared.pairs.Pairs.{Pairs}

-- the old state that a number stands for
abbrev pub olds : Draft → ℕ → ℕ
olds d k = slice_index (items d.old) k

-- how many numbers there are
abbrev pub count : Draft → ℕ
count d = length (items d.old)

-- the number that stands at a number and a label
abbrev pub target : Draft → ℕ → ℕ → ℕ
target d p a = slice_index (slice_index_or d.targets p []) a

-- the rows of the numbers have their targets, and yes or no as their old states do
abbrev pub RowsOf : Automaton → Draft → List Row → Type 0
RowsOf A d rows = (k : ℕ) → k < count d → ((row rows k).targets ≡ slice_index_or d.targets k []) × ((row rows k).accepts ≡ A.yes (olds d k))

-- the states of all numbers differ from t
abbrev pub AllDiffer : Pairs → Draft → ℕ → Type 0
AllDiffer differ d t = (j : ℕ) → j < count d → Has differ (olds d j) t

-- r is a number for a state like t
abbrev pub Alike : Pairs → Draft → ℕ → ℕ → Type 0
Alike differ d t r = (r < count d) × (¬ Has differ (olds d r) t)

-- an old state t finds its number, or has room for a new one
pub record Free (differ : Pairs) (d : Draft) (t : ℕ) : Type 0 where
  pub below : (j : ℕ) → j < count d → olds d j < 32
  pub room : AllDiffer differ d t → count d < 32

-- r is a number for a state like t, and the draft stays
pub record Had (differ : Pairs) (d : Draft) (t r : ℕ) (e : Draft) : Type 0 where
  pub same : e ≡ d
  pub alike : Alike differ d t r

-- r is a new number, for t itself
pub record Added (differ : Pairs) (d : Draft) (t r : ℕ) (e : Draft) : Type 0 where
  pub old : items e.old ≡ items d.old ++ t ∷ []
  pub targets : e.targets ≡ d.targets
  pub last : r ≡ count d
  pub fresh : AllDiffer differ d t

-- what asking for the number of t does
abbrev pub Named : Pairs → Draft → ℕ → ℕ → Draft → Type 0
Named differ d t r e = Had differ d t r e ⊎ Added differ d t r e

-- the number v stands at a place before n, going through the rows
pub record Origin (A : Automaton) (T : ℕ → ℕ → ℕ) (n v : ℕ) : Type 0 where
  pub row : ℕ
  pub label : ℕ
  pub below : label < A.labels
  pub before : 16 * row + label < n
  pub is : T row label ≡ v

-- m states are numbered, k for the old state o k, and the targets T are written at the places before n
pub record Building (A : Automaton) (o : ℕ → ℕ) (m : ℕ) (T : ℕ → ℕ → ℕ) (n : ℕ) : Type 0 where
  pub first : o 0 ≡ A.start
  pub some : 0 < m
  pub within : n ≤ 16 * m
  pub below : (k : ℕ) → k < m → o k < A.states
  pub apart : (j k : ℕ) → j < k → k < m → Differ A (o j) (o k)
  pub inside : (r b : ℕ) → b < A.labels → 16 * r + b < n → T r b < m
  pub follows : (r b : ℕ) → b < A.labels → 16 * r + b < n → Equivalent A (A.step (o r) b) (o (T r b))
  pub met : (r b v : ℕ) → b < A.labels → 16 * r + b < n → 0 < v → v < T r b → Origin A T (16 * r + b) v
  pub origin : (v : ℕ) → 0 < v → v < m → (x : Origin A T n v) × (x.row < v)

-- the draft is built so far
abbrev pub Drafted : Automaton → Draft → ℕ → Type 0
Drafted A d n = Building A (olds d) (count d) (target d) n
