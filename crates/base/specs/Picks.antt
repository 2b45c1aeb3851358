-- Which elements a book picks, in plain words.
use Rattle.std.specs.Prelude.{◌≡◌, ℕ, ◌+◌, ◌<◌, ◌≤◌, Bool, true, ◌↔◌, List, [], ◌∷◌, ◌++◌, length, Some, None, slice_index_or}
use Rattle.std.specs.List.{ContainsAt as Has}
use Rattle.base.specs.Refusals.{refusal}
use Rattle.base.specs.Book.{Terms, Book, judged, takes}
use Rattle.automata.specs.declared.tag.Tag.{Tag}
use Rattle.automata.specs.declared.tag.Tag.TheVariants.{Open, Close}

-- the path of the element that a taken tag opens, if it opens one
abbrev pub opens : Book → Tag ℕ → List (List ℕ)
opens b (Open a) = (b.path ++ (a ∷ [])) ∷ []
opens b (Close a) = []

-- the paths of the elements that the tags open, in opening order, until one is refused
abbrev pub paths : Terms → Book → List (Tag ℕ) → List (List ℕ)
paths t b [] = []
paths t b (x ∷ xs) = elim (refusal (judged t b) x) [ Some why ↦ [] | None ↦ opens b x ++ paths t (takes t b x) xs ]

-- each number is above the one before it, and the first is n or more
abbrev pub Rises : ℕ → List ℕ → Type 0
Rises n [] = Unit {0}
Rises n (x ∷ xs) = (n ≤ x) × Rises (x + 1) xs

-- of the elements with these paths, numbered from 0, those are picked whose path is wanted: each once, in opening order
pub record PickedExactly (wants : List ℕ → Bool) (paths : List (List ℕ)) (b : Book) : Type 0 where
  pub openings : b.openings ≡ length paths
  pub once : Rises 0 b.picked
  pub exactly : (e : ℕ) → Has b.picked e ↔ ((e < length paths) × (wants (slice_index_or paths e []) ≡ true))
