-- A knot of a minimal automaton is a clash too.
use Rattle.std.proofs.Common.{◌≡◌, ℕ, ◌<◌, ◌≢◌, List, [], ◌∷◌, ◌++◌, sym, ap, ◌∙◌}
use Rattle.automata.specs.Automata.{Automaton, Word, run}
use Rattle.automata.specs.Grades.{Clash, Knot}
use Rattle.automata.specs.States.{Reaches, Internal, Minimal}
use Rattle.automata.proofs.Words.{run_append, word_append}

module _ (A : Automaton) (minimal : Minimal A) where
  -- a word that leads on from a reached state, and is not empty
  entered : (p q a : ℕ) (w v : List ℕ) → Word A.labels w → run A A.start w ≡ p → Word A.labels (a ∷ v) → run A p (a ∷ v) ≡ q → Internal A q
  entered p q a [] v hw e hv f = record { first = a; rest = v; word = hv; leads = ap (λ x. run A x (a ∷ v)) e ∙ f }
  entered p q a (b ∷ w) v hw e hv f = record {
    first = b;
    rest = w ++ a ∷ v;
    word = word_append A.labels (b ∷ w) (a ∷ v) hw hv;
    leads = run_append A A.start (b ∷ w) (a ∷ v) ∙ ap (λ x. run A x (a ∷ v)) e ∙ f;
  }

  -- a state that another one reaches is internal
  reached : (p q : ℕ) → p < A.states → p ≢ q → Reaches A p q → Internal A q
  reached p q h ne r = by_word r.by r.word r.leads
    where
      by_word : (v : List ℕ) → Word A.labels v → run A p v ≡ q → Internal A q
      by_word [] hv e = absurd (ne e)
      by_word (a ∷ v) hv e = let s = minimal.reached p h in entered p q a s.by v s.word s.leads hv e

  pub clash_of_knot : Knot A → Clash A
  clash_of_knot k =
      let ne : k.p ≢ k.q = λ e. k.apart.differ (ap (λ x. A.yes (run A x (k.apart.first ∷ k.apart.rest))) e) in
      record {
        p = k.p;
        q = k.q;
        p_internal = reached k.q k.p k.q_below (λ e. ne (sym e)) k.together.back;
        q_internal = reached k.p k.q k.p_below ne k.together.there;
        meet = record { by = k.meet.by; word = k.meet.word; same = k.meet.same };
        apart = k.apart;
      }
