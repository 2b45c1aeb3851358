-- Documents as streams of tags, machines of finitely many states that read them, and when a machine errs.
use Rattle.std.specs.Prelude.{◌≡◌, ℕ, ◌<◌, Bool, ◌≢◌, List, [], ◌∷◌, ◌++◌, reverse}
use mathlib.Core.List.{tail}
use Rattle.automata.specs.Automata.{Automaton, accepts}
use Rattle.automata.specs.Tags.{label}
use Rattle.automata.specs.declared.tag.Tag.{Tag}
use Rattle.automata.specs.declared.tag.Tag.TheVariants.{Open, Close}

-- with the labels of `stack` open, the innermost first, the tags close them all, and end where the root closes
abbrev pub Rest : ℕ → List ℕ → List (Tag ℕ) → Type 0
Rest n stack [] = stack ≡ []
Rest n [] (t ∷ ts) = ⊥
Rest n (b ∷ stack) (Open a ∷ ts) = (a < n) × Rest n (a ∷ b ∷ stack) ts
Rest n (b ∷ stack) (Close a ∷ ts) = (a ≡ b) × Rest n stack ts

-- a well-nested document over the labels below n, with one root
abbrev pub Document : ℕ → List (Tag ℕ) → Type 0
Document n [] = ⊥
Document n (Open a ∷ ts) = (a < n) × Rest n (a ∷ []) ts
Document n (Close a ∷ ts) = ⊥

-- the labels that are open after the tags, the innermost first
abbrev pub opened : List ℕ → List (Tag ℕ) → List ℕ
opened stack [] = stack
opened stack (Open a ∷ ts) = opened (a ∷ stack) ts
opened stack (Close a ∷ ts) = opened (tail stack) ts

-- the same from the root inwards
abbrev pub path : List (Tag ℕ) → List ℕ
path ts = reverse (opened [] ts)

pub record Machine : Type 0 where
  pub count : ℕ
  pub start : ℕ
  pub next : ℕ → Tag ℕ → ℕ
  pub picks : ℕ → Bool

-- the machine stays among its states at labels below n
pub record Finite (n : ℕ) (M : Machine) : Type 0 where
  pub start : M.start < M.count
  pub next : (m : ℕ) (t : Tag ℕ) → m < M.count → label t < n → M.next m t < M.count

-- the state that the tags lead to from m
abbrev pub reads : Machine → ℕ → List (Tag ℕ) → ℕ
reads M m [] = m
reads M m (t ∷ ts) = reads M (M.next m t) ts

-- just after some opening the machine picks where the automaton does not accept the path, or the other way round
pub record Errs (A : Automaton) (M : Machine) (d : List (Tag ℕ)) : Type 0 where
  pub before : List (Tag ℕ)
  pub opens : ℕ
  pub after : List (Tag ℕ)
  pub splits : d ≡ before ++ Open opens ∷ after
  pub differs : M.picks (reads M M.start (before ++ Open opens ∷ [])) ≢ accepts A (path (before ++ Open opens ∷ []))
