-- A selector with a depth and notes in place of a stack: the stackless selector.
use Rattle.std.specs.Prelude.{◌≡◌, ℕ, ◌+◌, ◌-◌, ◌<◌, ◌≤◌, Bool, false, ◌⊎◌, List, [], ◌∷◌, ◌++◌, length, take, slice_index_or}
use Rattle.automata.specs.Automata.{Automaton, WellFormed}
use Rattle.automata.specs.States.{Equivalent, Almost, Together}
use Rattle.automata.specs.Grades.{Stackless}
use Rattle.automata.specs.Lowest.{Lowest}

-- the state before the path entered another component at this depth
pub record Note : Type 0 where
  pub depth : ℕ
  pub state : ℕ

-- what is known of the automaton that such a selector runs: no two of its states are equivalent, and it is stackless
pub record Serves (A : Automaton) : Type 0 where
  pub formed : WellFormed A
  pub distinct : (p q : ℕ) → p < A.states → q < A.states → Equivalent A p q → p ≡ q
  pub stackless : Stackless A

-- how the selectors of a type hold state, depth and notes, the oldest first
pub record Noting (S : Type 0) : Type 1 where
  pub automaton : S → Automaton
  pub state : S → ℕ
  pub depth : S → ℕ
  pub notes : S → List Note
  pub serves : (s : S) → Serves (automaton s)
  -- the second has the first one's automaton
  pub kept : S → S → Type 0
  pub kept_automaton : (s t : S) → kept s t → automaton t ≡ automaton s

-- the newest note, or one at depth 0 where there is none
abbrev pub newest : List Note → Note
newest ns = slice_index_or ns (length ns - 1) (record { depth = 0; state = 0 })

abbrev pub older : List Note → List Note
older ns = take (length ns - 1) ns

-- s can be the state before the label a led to p inside its component: a state of it whose target is in it and almost
-- equivalent to p
pub record Before (A : Automaton) (p a s : ℕ) : Type 0 where
  pub together : Together A p s
  pub target : Together A p (A.step s a)
  pub almost : Almost A (A.step s a) p

module _ {S : Type 0} (v : Noting S) where
  pub record Renewed (s t : S) : Type 0 where
    pub kept : v.kept s t
    pub state : v.state t ≡ (v.automaton s).start
    pub depth : v.depth t ≡ 0
    pub notes : v.notes t ≡ []

  -- what becomes of the notes: a step out of the component is noted
  pub data Noted (s : S) (a : ℕ) (t : S) : Type 0 where
    inside : ∥ Together (v.automaton s) (v.state s) ((v.automaton s).step (v.state s) a) ∥₁ → v.notes t ≡ v.notes s → Noted s a t
    leaves : ¬ Together (v.automaton s) (v.state s) ((v.automaton s).step (v.state s) a) → v.notes t ≡ v.notes s ++ record { depth = v.depth s + 1; state = v.state s } ∷ [] → Noted s a t

  pub record Entered (s : S) (a : ℕ) (t : S) (r : Bool) : Type 0 where
    pub kept : v.kept s t
    pub state : v.state t ≡ (v.automaton s).step (v.state s) a
    pub depth : v.depth t ≡ v.depth s + 1
    pub notes : Noted s a t
    pub answer : r ≡ (v.automaton s).yes (v.state t)

  -- an unknown label, or one at depth 65,535, moves nothing and is answered no
  pub record Opened (s : S) (a : ℕ) (t : S) (r : Bool) : Type 0 where
    pub enters : a < (v.automaton s).labels → v.depth s < 65535 → Entered s a t r
    pub stays : ((v.automaton s).labels ≤ a) ⊎ (65535 ≤ v.depth s) → (t ≡ s) × (r ≡ false)

  -- with the depth counted down: back to a note that is deeper, or inside the component
  pub data Returned (s : S) (a : ℕ) (t : S) : Type 0 where
    recalled : v.depth s - 1 < (newest (v.notes s)).depth → v.state t ≡ (newest (v.notes s)).state → v.notes t ≡ older (v.notes s) → Returned s a t
    retraced : (newest (v.notes s)).depth ≤ v.depth s - 1 → ∥ Lowest (Before (v.automaton s) (v.state s) a) (v.automaton s).states (v.state s) (v.state t) ∥₁ → v.notes t ≡ v.notes s → Returned s a t

  pub record Left (s : S) (a : ℕ) (t : S) : Type 0 where
    pub kept : v.kept s t
    pub depth : v.depth t ≡ v.depth s - 1
    pub returned : Returned s a t

  -- an unknown label, or one at depth 0, moves nothing
  pub record Closed (s : S) (a : ℕ) (t : S) : Type 0 where
    pub leaves : a < (v.automaton s).labels → 0 < v.depth s → Left s a t
    pub stays : ((v.automaton s).labels ≤ a) ⊎ (v.depth s ≡ 0) → t ≡ s
