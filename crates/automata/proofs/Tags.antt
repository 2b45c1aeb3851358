-- What is open after some tags, and what a machine's state is.
use Rattle.std.proofs.Common.{◌≡◌, ℕ, ◌<◌, List, [], ◌∷◌, ◌++◌, map, reverse, refl, ap, ◌∙◌}
use mathlib.Core.List.{tail, reverse-cons}
use Rattle.automata.specs.Automata.{Word}
use Rattle.automata.specs.declared.tag.Tag.{Tag}
use Rattle.automata.specs.declared.tag.Tag.TheVariants.{Open, Close}
use Rattle.automata.specs.Streams.{opened, path, Machine, Finite, reads}

pub opened_append : (stack : List ℕ) (ts us : List (Tag ℕ)) → opened stack (ts ++ us) ≡ opened (opened stack ts) us
opened_append stack [] us = refl
opened_append stack (Open a ∷ ts) us = opened_append (a ∷ stack) ts us
opened_append stack (Close a ∷ ts) us = opened_append (tail stack) ts us

pub path_open : (ts : List (Tag ℕ)) (a : ℕ) → path (ts ++ Open a ∷ []) ≡ path ts ++ a ∷ []
path_open ts a = ap reverse (opened_append [] ts (Open a ∷ [])) ∙ reverse-cons a (opened [] ts)

module _ (M : Machine) where
  pub reads_append : (m : ℕ) (ts us : List (Tag ℕ)) → reads M m (ts ++ us) ≡ reads M (reads M m ts) us
  reads_append m [] us = refl
  reads_append m (t ∷ ts) us = reads_append (M.next m t) ts us

  pub opens_below : (n : ℕ) → Finite n M → (m : ℕ) (w : List ℕ) → m < M.count → Word n w → reads M m (map Open w) < M.count
  opens_below n f m [] h k = h
  opens_below n f m (a ∷ w) h (l, k) = opens_below n f (M.next m (Open a)) w (f.next m (Open a) h l) k
