-- What a path means: lists of labels.
use Rattle.std.specs.Prelude.{◌≡◌, ℕ, Bool, true, false, List, [], ◌∷◌, ◌++◌, ◌==◌}
use Rattle.paths.specs.declared.path.Step.{Step}
use Rattle.paths.specs.declared.path.Test.{Test}
use Rattle.paths.specs.declared.path.Test.TheVariants.{Label, Any}

-- `*` fits every label, and a name its own
abbrev pub fits : Test → ℕ → Bool
fits (Label b) a = a == b
fits Any a = true

-- one step: one label that fits, and before it any others where the step is `//`
pub record StepMeans (s : Step) (w : List ℕ) : Type 0 where
  pub skipped : List ℕ
  pub last : ℕ
  pub whole : w ≡ skipped ++ last ∷ []
  pub fit : fits s.test last ≡ true
  pub child : s.descend ≡ false → skipped ≡ []

-- the steps' lists, joined
abbrev pub Means : List Step → List ℕ → Type 0
Means [] w = w ≡ []
Means (s ∷ ss) w = (u v : List ℕ) × (w ≡ u ++ v) × StepMeans s u × Means ss v
