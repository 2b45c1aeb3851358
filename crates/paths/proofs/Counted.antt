-- An automaton that is named by position sets has a state for each set that is reached.
use Rattle.std.proofs.Common.{◌≡◌, ℕ, ◌+◌, ◌<◌, ◌≤◌, List, [], ◌∷◌, ◌++◌, sym, ap, ◌∙◌, subst, ⊎_elim, arith}
use native.Mathlib.Decide.{dec_lt}
use Rattle.std.proofs.ByRecursion.{All-push}
use Rattle.std.proofs.lemmas.Bool.{cases_order}
use Rattle.automata.specs.Automata.{Automaton, WellFormed}
use Rattle.automata.proofs.Words.{run_append}
use Rattle.paths.specs.declared.path.Step.{Step}
use Rattle.automata.specs.States.{Reaches}
use Rattle.paths.specs.Positions.{Moved, Reached, at_start, by_label, MoreThan, Named}
use Rattle.paths.proofs.Moves.{moved_same}
use Rattle.automata.proofs.Pigeonhole.{pigeonhole}

-- where each set that is reached has a number below k, no more than k are
too_few : (steps : List Step) (n k : ℕ) (name : ℕ → ℕ) → ((x : ℕ) → Reached steps n x → (p : ℕ) × (p < k) × (name p ≡ x)) → MoreThan k steps n → ⊥
too_few steps n k name find more =
    let r = pigeonhole k (λ i. number i (dec_lt i (k + 1))) (λ i h. number_below i (omega arith) (dec_lt i (k + 1))) in
    more.distinct r.early r.late r.order (omega (arith, r.within))
    (sym (number_name r.early (omega (arith, r.order, r.within)) (dec_lt r.early (k + 1))) ∙ ap name r.same ∙ number_name r.late (omega (arith, r.within)) (dec_lt r.late (k + 1)))
  where
    -- the number of the i-th set
    number : (i : ℕ) → Dec (i < k + 1) → ℕ
    number i (yes h) = (find (more.set i) (more.reached i h)).0
    number i (no h) = 0

    number_below : (i : ℕ) → i < k + 1 → (d : Dec (i < k + 1)) → number i d < k
    number_below i h (yes l) = (find (more.set i) (more.reached i l)).1
    number_below i h (no l) = absurd (l h)

    number_name : (i : ℕ) → i < k + 1 → (d : Dec (i < k + 1)) → name (number i d) ≡ more.set i
    number_name i h (yes l) = (find (more.set i) (more.reached i l)).2
    number_name i h (no l) = absurd (l h)

module _ (steps : List Step) (A : Automaton) (f : WellFormed A) (named : Named steps A) where
  pub one_name : (p q : ℕ) → p < A.states → q < A.states → named.set_of p ≡ named.set_of q → p ≡ q
  one_name p q h k e = ⊎_elim
      (λ (same : p ≡ q). same)
      (⊎_elim (λ (less : p < q). absurd (named.distinct p q less k e)) (λ (more : q < p). absurd (named.distinct q p more h (sym e))))
      (cases_order p q)

  -- the state of a set that is reached
  record State (x : ℕ) : Type 0 where
    state : ℕ
    within : state < A.states
    reachable : Reaches A A.start state
    set : named.set_of state ≡ x

  state_of : (x : ℕ) → Reached steps A.labels x → State x
  state_of x at_start = record { state = A.start; within = f.start; reachable = record { by = []; word = tt; leads = λ _. A.start }; set = named.start }
  state_of x (by_label {a} {m} r h moved) =
      let o = state_of m r in
      let w = o.reachable in
      record {
        state = A.step o.state a;
        within = f.step o.state a o.within h;
        reachable = record {
          by = w.by ++ a ∷ [];
          word = All-push (λ b. b < A.labels) w.by a w.word h;
          leads = run_append A A.start w.by (a ∷ []) ∙ ap (λ p. A.step p a) w.leads;
        };
        set = moved_same steps a m _ _ (subst (λ s. Moved steps a s (named.set_of (A.step o.state a))) o.set (named.step o.state a o.within h)) moved;
      }

  pub set_reachable : (p : ℕ) → p < A.states → Reached steps A.labels (named.set_of p) → Reaches A A.start p
  set_reachable p h r = let o = state_of (named.set_of p) r in subst (Reaches A A.start) (one_name o.state p o.within h o.set) o.reachable

  pub few_sets : (k : ℕ) → A.states ≤ k → MoreThan k steps A.labels → ⊥
  few_sets k small = too_few steps A.labels k named.set_of (λ x r. let o = state_of x r in (o.state, omega (arith, o.within), o.set))
