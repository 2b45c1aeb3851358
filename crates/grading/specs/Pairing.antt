-- Sets of pairs of states, and how many pairs one lacks.
use Rattle.std.specs.Prelude.{◌≡◌, ℕ, zero, suc, ◌+◌, ◌-◌, ◌⊎◌, ◌↔◌, slice_index_or}
use Rattle.grading.specs.StateSets.{digit, In, empty}
use Rattle.grading.specs.declared.pairs.Pairs.{Pairs}
use Rattle.grading.specs.declared.states.StateSet.{StateSet}

-- the second states of the pairs with the first state p
abbrev pub row : Pairs → ℕ → StateSet
row m p = slice_index_or m.rows p empty

-- the pair p, q is in the set
abbrev pub Has : Pairs → ℕ → ℕ → Type 0
Has m p q = In q (row m p)

-- the sum of f over the numbers below n
unfoldable pub total : (ℕ → ℕ) → ℕ → ℕ
total f zero = 0
total f (suc n) = f n + total f n

-- how many of the states below 32 a set lacks
unfoldable pub lacks : StateSet → ℕ
lacks s = total (λ i. 1 - digit s.mask i) 32

-- how many pairs of them
unfoldable pub blank : Pairs → ℕ
blank m = total (λ p. lacks (row m p)) 32

-- the set lacks every pair
pub record NoPairs (m : Pairs) : Type 0 where
  pub none : (p q : ℕ) → ¬ Has m p q
  pub blank : blank m ≡ 1024

-- `new` is `old` with the pair p, q
pub record Adds (old : Pairs) (p q : ℕ) (new : Pairs) : Type 0 where
  pub each : (r s : ℕ) → Has new r s ↔ (Has old r s ⊎ ((r ≡ p) × (s ≡ q)))
  pub fewer : ¬ Has old p q → suc (blank new) ≡ blank old
