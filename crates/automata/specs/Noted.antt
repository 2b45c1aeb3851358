-- The paths that a selector with notes stands for.
use Rattle.std.specs.Prelude.{◌≡◌, ℕ, ◌+◌, ◌<◌, List, [], ◌∷◌, length}
use Rattle.automata.specs.Automata.{Automaton, Word, run, accepts}
use Rattle.automata.specs.States.{Almost, Together}
use Rattle.automata.specs.Meaning.{Meaning, Moves}
use Rattle.automata.specs.Noting.{Note, Noting, Renewed, Opened, Closed}

-- p stands in for the true state q: a state of q's component, almost equivalent to q
pub record StandsIn (A : Automaton) (p q : ℕ) : Type 0 where
  pub below : p < A.states
  pub together : Together A p q
  pub almost : Almost A p q

-- the notes of a path from p at depth d: one for each step to another component, with a state that stands in for the one
-- before the step
pub data Notes (A : Automaton) : ℕ → ℕ → List ℕ → List Note → Type 0 where
  none : {d p : ℕ} → Notes A d p [] []
  inside : {d p a : ℕ} {w : List ℕ} {ns : List Note} → Together A p (A.step p a) → Notes A (d + 1) (A.step p a) w ns → Notes A d p (a ∷ w) ns
  across : {d p a x : ℕ} {w : List ℕ} {ns : List Note} → ¬ Together A p (A.step p a) → StandsIn A x p → Notes A (d + 1) (A.step p a) w ns → Notes A d p (a ∷ w) (record { depth = d + 1; state = x } ∷ ns)

-- the state p, the depth n and the notes ns are those of the path w
pub record Stands (A : Automaton) (p n : ℕ) (ns : List Note) (w : List ℕ) : Type 0 where
  pub word : Word A.labels w
  pub depth : n ≡ length w
  pub state : StandsIn A p (run A A.start w)
  pub notes : Notes A 0 A.start w ns

module _ {S : Type 0} (v : Noting S) where
  abbrev pub meaning : Meaning S
  meaning = record {
    labels = λ s. (v.automaton s).labels;
    carry = λ s. 65535;
    wants = λ s. accepts (v.automaton s);
    stands = λ s w. ∥ Stands (v.automaton s) (v.state s) (v.depth s) (v.notes s) w ∥₁;
  }

  abbrev pub moves : Moves S
  moves = record { renewed = Renewed v; opened = Opened v; closed = Closed v }
