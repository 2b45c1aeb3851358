-- The first step of a text, and what comes after it.
use Rattle.std.specs.Prelude.{◌≡◌, ℕ, ◌<◌, ◌≤◌, Bool, false, ◌≢◌, List, [], ◌∷◌, ◌++◌, length, slice_index}
use Rattle.paths.specs.declared.path.Step.{Step}
use Rattle.paths.specs.Texts.{slash, slashes, Spells, Written}

-- the text does not begin with a slash
abbrev pub Unopened : List ℕ → Type 0
Unopened [] = Unit {0}
Unopened (b ∷ bs) = b ≢ slash

-- the text begins with `//` where d, and else with `/` alone, and then comes the tail
pub record Opens (text : List ℕ) (d : Bool) (tail : List ℕ) : Type 0 where
  pub whole : text ≡ slashes d ++ tail
  pub alone : d ≡ false → Unopened tail

-- the first slash stands behind n bytes
pub record Front (text : List ℕ) (n : ℕ) : Type 0 where
  pub within : n ≤ length text
  pub clean : (k : ℕ) → k < n → slice_index text k ≢ slash
  pub ends : n < length text → slice_index text n ≡ slash

-- s is the only first step that can be read, and then comes the rest
pub record First (names : List (List ℕ)) (text : List ℕ) (s : Step) (rest : List ℕ) : Type 0 where
  pub own : List ℕ
  pub whole : text ≡ own ++ rest
  pub spells : Spells names s own
  pub only : (ss : List Step) → Written names ss text → (us : List Step) × (ss ≡ s ∷ us) × Written names us rest
