-- A selector that stores the state from before each open element, last in first out, as bytes in lent memory.
use Rattle.std.specs.Prelude.{◌≡◌, ℕ, ◌+◌, ◌-◌, ◌<◌, ◌≤◌, min, Bool, false, ◌⊎◌, List, [], ◌∷◌, length, take, slice_index, slice_set}
use Rattle.automata.specs.Automata.{Automaton, Word, run, accepts}
use Rattle.automata.specs.Meaning.{Meaning, Moves}

-- how the selectors of a type hold their store
pub record Storing (S : Type 0) : Type 1 where
  pub automaton : S → Automaton
  pub state : S → ℕ
  -- the lent bytes, and how many of them are in use, from the first on
  pub bytes : S → List ℕ
  pub used : S → ℕ
  -- the second has the first one's automaton, and its bytes stand in the same memory
  pub kept : S → S → Type 0
  pub kept_automaton : (s t : S) → kept s t → automaton t ≡ automaton s

-- the states from p on before each label of the word
abbrev pub before : Automaton → ℕ → List ℕ → List ℕ
before A p [] = []
before A p (a ∷ w) = p ∷ before A (A.step p a) w

module _ {S : Type 0} (v : Storing S) where
  abbrev pub labels : S → ℕ
  labels s = (v.automaton s).labels

  -- one level for each byte, and 65,535 at most
  abbrev pub carry : S → ℕ
  carry s = min 65535 (length (v.bytes s))

  -- the state is the one that the path leads to, and the store has those before it
  pub record Stands (s : S) (w : List ℕ) : Type 0 where
    pub word : Word (labels s) w
    pub depth : v.used s ≡ length w
    pub state : v.state s ≡ run (v.automaton s) (v.automaton s).start w
    pub stored : take (v.used s) (v.bytes s) ≡ before (v.automaton s) (v.automaton s).start w

  pub record Renewed (s t : S) : Type 0 where
    pub kept : v.kept s t
    pub state : v.state t ≡ (v.automaton s).start
    pub used : v.used t ≡ 0
    pub bytes : v.bytes t ≡ v.bytes s

  -- an opening that finds room writes the earlier state at the first free place
  pub record Pushed (s : S) (a : ℕ) (t : S) (r : Bool) : Type 0 where
    pub kept : v.kept s t
    pub state : v.state t ≡ (v.automaton s).step (v.state s) a
    pub used : v.used t ≡ v.used s + 1
    pub bytes : v.bytes t ≡ slice_set (v.bytes s) (v.used s) (v.state s)
    pub answer : r ≡ (v.automaton s).yes (v.state t)

  -- an unknown label, or a full store, moves nothing and is answered no
  pub record Opened (s : S) (a : ℕ) (t : S) (r : Bool) : Type 0 where
    pub pushes : a < labels s → v.used s < carry s → Pushed s a t r
    pub stays : (labels s ≤ a) ⊎ (carry s ≤ v.used s) → (t ≡ s) × (r ≡ false)

  -- a closing takes the last stored state back
  pub record Popped (s t : S) : Type 0 where
    pub kept : v.kept s t
    pub state : v.state t ≡ slice_index (v.bytes s) (v.used s - 1)
    pub used : v.used t ≡ v.used s - 1
    pub bytes : v.bytes t ≡ v.bytes s

  -- an unknown label, or an empty store, moves nothing
  pub record Closed (s : S) (a : ℕ) (t : S) : Type 0 where
    pub pops : a < labels s → 0 < v.used s → Popped s t
    pub stays : (labels s ≤ a) ⊎ (v.used s ≡ 0) → t ≡ s

  abbrev pub meaning : Meaning S
  meaning = record { labels = labels; carry = carry; wants = λ s. accepts (v.automaton s); stands = Stands }

  abbrev pub moves : Moves S
  moves = record { renewed = Renewed; opened = Opened; closed = Closed }
