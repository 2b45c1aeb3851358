-- How many labels lead pairs of states to wanted ones, and pairs that are measured in rounds.
use Rattle.std.specs.Prelude.{◌≡◌, ℕ, ◌+◌, ◌-◌, ◌<◌, ◌≤◌, ◌⊎◌, List, [], length, slice_index, slice_index_or}
use Rattle.automata.specs.Automata.{Automaton, Word, run}
use Rattle.grading.specs.Pairing.{total}
use Rattle.grading.specs.declared.distances.Distances.{Distances}

-- the distance of the pair p, q: 65535 stands for none
abbrev pub distance : Distances → ℕ → ℕ → ℕ
distance d p q = slice_index (slice_index_or d.steps p []) q

-- the distance of the pair that the label a leads to
abbrev pub distance_after : Automaton → Distances → ℕ → ℕ → ℕ → ℕ
distance_after A d p q a = distance d (A.step p a) (A.step q a)

-- how many pairs of numbers below 32 have no distance
unfoldable pub unmeasured : Distances → ℕ
unmeasured d = total (λ p. total (λ q. 1 - (65535 - distance d p q)) 32) 32

-- a row of distances: 0 where the property holds, and else none
abbrev pub Marks : (ℕ → Type 0) → List ℕ → Type 0
Marks P row = (q : ℕ) → q < 32 → (P q × (slice_index row q ≡ 0)) ⊎ ((¬ P q) × (slice_index row q ≡ 65535))

-- some label leads p, q to a pair at the distance k
pub record Near (A : Automaton) (k : ℕ) (d : Distances) (p q : ℕ) : Type 0 where
  pub label : ℕ
  pub below : label < A.labels
  pub leads : distance_after A d p q label ≡ k

-- that holds of some pair of states
pub record SomeNear (A : Automaton) (k : ℕ) (d : Distances) : Type 0 where
  pub p : ℕ
  pub q : ℕ
  pub p_below : p < A.states
  pub q_below : q < A.states
  pub near : Near A k d p q

-- the pair p, q had no distance, and then has the one past k, the most
pub record Given (A : Automaton) (k : ℕ) (d e : Distances) (p q : ℕ) : Type 0 where
  pub none : distance d p q ≡ 65535
  pub near : Near A k d p q
  pub next : distance e p q ≡ k + 1
  pub most : e.most ≡ k + 1

-- the same, and all other pairs keep what they have
pub record Gives (A : Automaton) (k : ℕ) (d : Distances) (p q : ℕ) (e : Distances) : Type 0 where
  pub given : Given A k d e p q
  pub others : (r s : ℕ) → ((r ≡ p) × (s ≡ q)) ⊎ (distance e r s ≡ distance d r s)

-- or nothing is changed, and no label leads the pair to one at k unless it has a distance
abbrev pub Tries : Automaton → ℕ → Distances → ℕ → ℕ → Distances → Type 0
Tries A k d p q e = Gives A k d p q e ⊎ ((e ≡ d) × (65535 ≤ distance d p q → ¬ Near A k d p q))

-- of the pairs of states in the relation those without a distance that a label leads to one at k are given the one past it;
-- all others keep what they have
pub record Round (A : Automaton) (k : ℕ) (P : ℕ → ℕ → Type 0) (d e : Distances) : Type 0 where
  pub each : (p q : ℕ) → p < A.states → q < A.states → (distance e p q ≡ distance d p q) ⊎ Given A k d e p q
  pub all : (p q : ℕ) → p < A.states → q < A.states → P p q → 65535 ≤ distance e p q → ¬ Near A k d p q
  pub most : (e.most ≡ d.most) ⊎ ((e.most ≡ k + 1) × SomeNear A k d)
  -- as the most rises by one, a pair less has no distance: so it stays below the number of pairs
  pub load : k ≤ d.most → e.most + unmeasured e ≤ d.most + unmeasured d

module _ (A : Automaton) (wanted : ℕ → ℕ → Type 0) where
  -- every word that leads p, q to a wanted pair has k labels or more
  abbrev pub AtLeast : ℕ → ℕ → ℕ → Type 0
  AtLeast p q k = (w : List ℕ) → Word A.labels w → wanted (run A p w) (run A q w) → k ≤ length w

  -- and one has k
  pub record Least (p q k : ℕ) : Type 0 where
    pub by : List ℕ
    pub word : Word A.labels by
    pub brings : wanted (run A p by) (run A q by)
    pub long : length by ≡ k
    pub least : AtLeast p q k

  -- each pair of states has the least number of labels that lead it to a wanted pair, or none where no word does
  pub record Measures (d : Distances) : Type 0 where
    pub near : (p q : ℕ) → p < A.states → q < A.states → distance d p q < 65535 → Least p q (distance d p q)
    pub far : (p q : ℕ) → p < A.states → q < A.states → 65535 ≤ distance d p q → (w : List ℕ) → Word A.labels w → ¬ wanted (run A p w) (run A q w)
    pub small : (p q : ℕ) → p < A.states → q < A.states → distance d p q < 65535 → distance d p q < 1024
