-- What a reader finds at the front of a text.
use Rattle.std.specs.Prelude.{◌≡◌, ℕ, ◌≤◌, List, length, ◌≢◌}
use Rattle.text.specs.Pieces.{next, split}
use Rattle.formats.specs.LabelLine.{Ended}

-- the text is one to be read, and has this first line
pub record FirstLine (text before rest : List ℕ) : Type 0 where
  pub fits : length text ≤ 65536
  pub ended : Ended text
  pub cut : split 10 text ≡ next before (split 10 rest)

-- a kind of values: which are in range, and how one is written before the rest of a text
pub record Form (V : Type 0) : Type 1 where
  pub range : V → Type 0
  pub write : V → List ℕ → List ℕ

module _ {V : Type 0} (form : Form V) (text : List ℕ) where
  -- the values of which `same` holds are written at the front, with the rest after them, and no others in range are
  pub record Found (same : V → Type 0) (rest : List ℕ) : Type 0 where
    pub written : (v : V) → same v → text ≡ form.write v rest
    pub only : (v : V) (tail : List ℕ) → form.range v → text ≡ form.write v tail → same v × (tail ≡ rest)

  -- no value in range is written at the front
  abbrev pub Missing : Type 0
  Missing = (v : V) (tail : List ℕ) → form.range v → text ≢ form.write v tail
