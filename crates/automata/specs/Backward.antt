-- The machine of an automaton that needs no stack, and what its state stands for.
use Rattle.std.specs.Prelude.{◌≡◌, ℕ, zero, suc, ◌<◌, Bool, cond, ◌&&◌, List, [], ◌∷◌, Decides}
use Rattle.automata.specs.Automata.{Automaton, Word, run}
use Rattle.automata.specs.States.{Internal, Almost}
use Rattle.automata.specs.Streams.{Machine}
use Rattle.automata.specs.declared.tag.Tag.{Tag}
use Rattle.automata.specs.declared.tag.Tag.TheVariants.{Open, Close}

-- tests that decide, of states, which are internal and which are almost equivalent
pub record Tests (A : Automaton) : Type 0 where
  pub internal : ℕ → Bool
  pub almost : ℕ → ℕ → Bool
  pub internal_decides : (p : ℕ) → p < A.states → Decides (internal p) (Internal A p)
  pub almost_decides : (p q : ℕ) → p < A.states → q < A.states → Decides (almost p q) (Almost A p q)

-- the lowest number below n that passes the test, or `other` where none does
abbrev pub lowest : (ℕ → Bool) → ℕ → ℕ → ℕ
lowest test zero other = other
lowest test (suc n) other = lowest test n (cond (test n) n other)

-- where the machine goes from p as an element labelled a closes: the lowest internal state that a leads almost to p
abbrev pub back : (A : Automaton) → Tests A → ℕ → ℕ → ℕ
back A T p a = lowest (λ s. T.internal s && T.almost (A.step s a) p) A.states p

abbrev pub moves : (A : Automaton) → Tests A → ℕ → Tag ℕ → ℕ
moves A T p (Open a) = A.step p a
moves A T p (Close a) = back A T p a

abbrev pub machine : (A : Automaton) → Tests A → Machine
machine A T = record {
  count = A.states;
  start = A.start;
  next = moves A T;
  picks = A.yes;
}

-- p may stand for the state that the path w leads to
abbrev pub Stands : Automaton → ℕ → List ℕ → Type 0
Stands A p [] = p ≡ A.start
Stands A p (a ∷ w) = Word A.labels (a ∷ w) × Internal A p × Almost A p (run A A.start (a ∷ w))
