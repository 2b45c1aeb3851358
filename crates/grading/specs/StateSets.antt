-- Sets of states, as numbers: which states one has, and how one is taken out.
use Rattle.std.specs.Prelude.{◌≡◌, ℕ, ◌/◌, ◌%◌, ◌^◌, ◌<◌, Bool, true, false, ◌≢◌, ◌↔◌, Some, None as Nothing, Option}
use Rattle.grading.specs.declared.states.StateSet.{StateSet}

-- the binary digit of m at the place i
unfoldable pub digit : ℕ → ℕ → ℕ
digit m i = m / 2 ^ i % 2

-- the state i is in the set
abbrev pub In : ℕ → StateSet → Type 0
In i s = digit s.mask i ≡ 1

-- the set without a state
abbrev pub empty : StateSet
empty = record { mask = 0 }

-- no state is in the set
abbrev pub None : StateSet → Type 0
None s = (i : ℕ) → ¬ In i s

-- some state is in the set
abbrev pub Any : StateSet → Type 0
Any s = (i : ℕ) × In i s

-- the answer r is for P where it is true, and for Q where it is false
abbrev pub Tells : Bool → Type 0 → Type 0 → Type 0
Tells r P Q = (r ≡ true → P) × (r ≡ false → Q)

-- the set has just the numbers below n with the property
abbrev pub Gathers : (ℕ → Type 0) → ℕ → StateSet → Type 0
Gathers P n s = (i : ℕ) → In i s ↔ ((i < n) × P i)

-- the set has just those of the numbers below n at which the test answers true
pub record Sifts (answers : ℕ → Bool → Type 0) (n : ℕ) (s : StateSet) : Type 0 where
  pub has : (i : ℕ) → In i s → (i < n) × answers i true
  pub lacks : (i : ℕ) → i < n → ¬ In i s → answers i false

-- x is the lowest state of s, and t has all the others
pub record Taken (s t : StateSet) (x : ℕ) : Type 0 where
  pub below : x < 32
  pub has : In x s
  pub lowest : (i : ℕ) → i < x → ¬ In i s
  pub others : (i : ℕ) → In i t ↔ (In i s × (i ≢ x))
  pub fewer : t.mask < s.mask

-- what taking the lowest state out does
abbrev pub Takes : StateSet → StateSet → Option ℕ → Type 0
Takes s t Nothing = None s × (t ≡ s)
Takes s t (Some x) = Taken s t x
