-- What a selector means, and the rules that tie its moves to its meaning.
use Rattle.std.specs.Prelude.{◌≡◌, ℕ, ◌<◌, Bool, List, [], ◌∷◌, ◌++◌, length}

-- the four parts of a meaning
pub record Meaning (S : Type 0) : Type 1 where
  -- labels below this number are known
  pub labels : S → ℕ
  -- the carry: how many levels of open elements it can follow
  pub carry : S → ℕ
  -- the query: the lists of labels that it wants
  pub wants : S → List ℕ → Bool
  -- the paths that it stands for at present: several, one or none
  pub stands : S → List ℕ → Type 0

-- what each call makes of a selector, exactly, for every label
pub record Moves (S : Type 0) : Type 1 where
  pub renewed : S → S → Type 0
  -- an opening, with its answer
  pub opened : S → ℕ → S → Bool → Type 0
  pub closed : S → ℕ → S → Type 0

-- the first three parts stay
pub record Same {S : Type 0} (m : Meaning S) (s t : S) : Type 0 where
  pub labels : m.labels t ≡ m.labels s
  pub carry : m.carry t ≡ m.carry s
  pub wants : (w : List ℕ) → m.wants t w ≡ m.wants s w

-- a renewed selector stands for the empty path; a known label takes every path that is shorter than the carry one level
-- down, and the answer is whether that list is wanted; a closing takes every path that ends in its label one level up,
-- unless nothing is left of it
pub record Rules {S : Type 0} (m : Meaning S) (v : Moves S) : Type 0 where
  pub renew_same : (s t : S) → v.renewed s t → Same m s t
  pub renew_stands : (s t : S) → v.renewed s t → m.stands t []
  pub open_same : (s t : S) (a : ℕ) (r : Bool) → v.opened s a t r → Same m s t
  pub open_stands : (s t : S) (a : ℕ) (r : Bool) → v.opened s a t r → a < m.labels s → (u : List ℕ) → m.stands s u → length u < m.carry s → m.stands t (u ++ (a ∷ [])) × (r ≡ m.wants s (u ++ (a ∷ [])))
  pub close_same : (s t : S) (a : ℕ) → v.closed s a t → Same m s t
  pub close_stands : (s t : S) (a : ℕ) → v.closed s a t → (b : ℕ) (u : List ℕ) → m.stands s ((b ∷ u) ++ (a ∷ [])) → m.stands t (b ∷ u)
