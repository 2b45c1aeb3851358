-- What a worklist of pairs has found, what waits in it, and what it makes of visits.
use Rattle.std.specs.Prelude.{◌≡◌, ℕ, ◌+◌, ◌<◌, ◌⊎◌, length, slice_index_or}
use Rattle.base.specs.Stacks.{used}
use Rattle.grading.specs.Pairing.{Has, blank}
use Rattle.grading.specs.declared.products.Pair.{Pair}
use Rattle.grading.specs.declared.worklist.Worklist.{Worklist}

-- one of n relations, by number, holds of p, q
pub record Among (n : ℕ) (has : ℕ → ℕ → ℕ → Type 0) (p q : ℕ) : Type 0 where
  pub number : ℕ
  pub below : number < n
  pub holds : has number p q

-- a relation, of first states below n
abbrev pub Below : ℕ → (ℕ → ℕ → Type 0) → ℕ → ℕ → Type 0
Below n wanted p q = (p < n) × wanted p q

-- the pair p, q is found
abbrev pub Found : Worklist → ℕ → ℕ → Type 0
Found s = Has s.found

-- x is the pair p, q as it is stored
abbrev pub Is : Pair → ℕ → ℕ → Type 0
Is x p q = (x.first ≡ p) × (x.second ≡ q)

-- the pair p, q stands at a place of the store
pub record Waits (s : Worklist) (p q : ℕ) : Type 0 where
  pub place : ℕ
  pub below : place < used s.waiting
  pub is : (d : Pair) → Is (slice_index_or s.waiting.places.now place d) p q

-- how many pairs have yet to be found or to be taken from the store
abbrev pub load : Worklist → ℕ
load s = blank s.found + used s.waiting

-- from s to t all pairs that are wanted are found, and no other; those that are new wait
pub record Visits (wanted : ℕ → ℕ → Type 0) (s t : Worklist) : Type 0 where
  pub kept : (p q : ℕ) → Found s p q → Found t p q
  pub all : (p q : ℕ) → wanted p q → Found t p q
  pub only : (p q : ℕ) → Found t p q → Found s p q ⊎ (wanted p q × Waits t p q)
  pub waits : (p q : ℕ) → Waits s p q → Waits t p q
  pub listed : (p q : ℕ) → Waits t p q → Waits s p q ⊎ wanted p q
  pub load : load t ≡ load s
  pub size : length t.waiting.places.now ≡ length s.waiting.places.now
