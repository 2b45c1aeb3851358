-- How a path is written: each step as `/` or `//`, and then a label's name or `*`.
use Rattle.std.specs.Prelude.{◌≡◌, ℕ, ◌<◌, ◌≤◌, Bool, true, false, cond, List, [], ◌∷◌, ◌++◌, length, Some, None, Option}
use Rattle.std.specs.Str.{bytes_eq}
use Rattle.text.specs.Lists.{items}
use Rattle.text.specs.NameLists.{place}
use Rattle.text.specs.declared.refusal.Refusal.{Refusal}
use Rattle.text.specs.declared.refusal.Refusal.TheVariants.{PathLength, NotSteps, TooManySteps}
use Rattle.paths.specs.declared.path.Path.{Path}
use Rattle.paths.specs.declared.path.Step.{Step}
use Rattle.paths.specs.declared.path.Test.{Test}
use Rattle.paths.specs.declared.path.Test.TheVariants.{Label, Any}

abbrev pub steps_of : Path → List Step
steps_of p = items p.steps

abbrev pub slash : ℕ
slash = 47

abbrev pub star : List ℕ
star = 42 ∷ []

abbrev pub slashes : Bool → List ℕ
slashes true = slash ∷ slash ∷ []
slashes false = slash ∷ []

abbrev pub label_test : Option ℕ → Option Test
label_test (Some a) = Some (Label a)
label_test None = None

-- what a word tests for: `*` for any label, a name for its label, another word for nothing
abbrev pub test_of : List (List ℕ) → List ℕ → Option Test
test_of names word = cond (bytes_eq word star) (Some Any) (label_test (place names word))

-- the text of one step
pub record Spells (names : List (List ℕ)) (s : Step) (text : List ℕ) : Type 0 where
  pub word : List ℕ
  pub whole : text ≡ slashes s.descend ++ word
  pub stands : test_of names word ≡ Some s.test

-- the steps' texts, joined
abbrev pub Written : List (List ℕ) → List Step → List ℕ → Type 0
Written names [] text = text ≡ []
Written names (s ∷ ss) text = (t u : List ℕ) × (text ≡ t ++ u) × Spells names s t × Written names ss u

abbrev pub Sized : List ℕ → Type 0
Sized text = (1 ≤ length text) × (length text ≤ 200)

-- the text is read as these steps, and as no others
pub record ReadAs (names : List (List ℕ)) (text : List ℕ) (steps : List Step) : Type 0 where
  pub sized : Sized text
  pub written : Written names steps text
  pub only : (others : List Step) → Written names others text → others ≡ steps
  pub few : length steps ≤ 15

-- no steps are written so
abbrev pub Unread : List (List ℕ) → List ℕ → Type 0
Unread names text = (steps : List Step) → Written names steps text → ⊥

-- why a text is no path
pub data Refused (names : List (List ℕ)) (text : List ℕ) : Refusal → Type 0 where
  bad_length : (Sized text → ⊥) → Refused names text PathLength
  not_steps : Sized text → Unread names text → Refused names text NotSteps
  many_steps : (steps : List Step) → Sized text → Written names steps text → 15 < length steps → Refused names text TooManySteps
