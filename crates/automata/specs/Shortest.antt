-- When a word is the shortest with a property, and of those the first by its labels.
use Rattle.std.specs.Prelude.{◌≡◌, ℕ, ◌<◌, ◌≤◌, ◌⊎◌, List, [], ◌∷◌, length}
use Rattle.automata.specs.Automata.{Word}

-- w is v, or begins it, or has the lower label at the first place where they differ
abbrev pub AtMost : List ℕ → List ℕ → Type 0
AtMost [] v = Unit {0}
AtMost (a ∷ w) [] = ⊥
AtMost (a ∷ w) (b ∷ v) = (a < b) ⊎ ((a ≡ b) × AtMost w v)

-- of the words over the labels below n that have the property none is shorter than w, and of those as long as w it is the first
pub record Shortest (n : ℕ) (P : List ℕ → Type 0) (w : List ℕ) : Type 0 where
  pub word : Word n w
  pub holds : P w
  pub shortest : (v : List ℕ) → Word n v → P v → length w ≤ length v
  pub first : (v : List ℕ) → Word n v → P v → length v ≡ length w → AtMost w v
