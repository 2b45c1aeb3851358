-- A chain of notes is shorter than the number of components, and every move of a selector keeps it.
use Rattle.std.proofs.Common.{ℕ, zero, suc, ◌<◌, ◌≤◌, List, [], ◌∷◌, ◌++◌, length, sym, subst, ⊎_elim, arith}
use mathlib.Core.Logic.{∥∥₁_elim, ∥∥₁_prop}
use Rattle.std.proofs.lemmas.Bool.{cases_lt}
use Rattle.automata.specs.Automata.{Automaton}
use Rattle.automata.specs.States.{Together}
use Rattle.automata.specs.Noting.{Note}
use Rattle.automata.specs.Chains.{Representatives, Later, first_state, Chain}
use Rattle.automata.proofs.Pigeonhole.{pigeonhole}
use Rattle.automata.proofs.Together.{reaches_step, reaches_trans, together_sym, together_trans}

module _ (A : Automaton) where
  later_trans : {p q r : ℕ} → Later A p q → Later A q r → Later A p r
  later_trans {p} {q} {r} h k = record {
    reaches = ∥∥₁_elim h.reaches ∥∥₁_prop (λ x. ∥∥₁_elim k.reaches ∥∥₁_prop (λ y. ∣ reaches_trans A x y ∣₁));
    never_back = λ back. ∥∥₁_elim h.reaches (λ x y. absurd x) (λ x. k.never_back (reaches_trans A back x));
  }

  -- the i-th state of a chain: a note's, or p behind them all
  abbrev state_at : List Note → ℕ → ℕ → ℕ
  state_at [] p i = p
  state_at (n ∷ ns) p zero = n.state
  state_at (n ∷ ns) p (suc i) = state_at ns p i

  state_below : (ns : List Note) (p i : ℕ) → Chain A ns p → state_at ns p i < A.states
  state_below [] p i h = h
  state_below (n ∷ ns) p zero h = h.0
  state_below (n ∷ ns) p (suc i) h = state_below ns p i h.2

  -- a later place in the chain lies in a later component
  first_later : (x : ℕ) (ns : List Note) (p i : ℕ) → i ≤ length ns → Later A x (first_state ns p) → Chain A ns p → Later A x (state_at ns p i)
  first_later x [] p i hi l h = l
  first_later x (n ∷ ns) p zero hi l h = l
  first_later x (n ∷ ns) p (suc i) hi l h = first_later x ns p i (omega arith) (later_trans l h.1) h.2

  ordered : (ns : List Note) (p i j : ℕ) → i < j → j ≤ length ns → Chain A ns p → Later A (state_at ns p i) (state_at ns p j)
  ordered [] p i j l hj h = absurd (omega arith)
  ordered (n ∷ ns) p zero zero l hj h = absurd (omega arith)
  ordered (n ∷ ns) p zero (suc j) l hj h = first_later n.state ns p j (omega arith) h.1 h.2
  ordered (n ∷ ns) p (suc i) zero l hj h = absurd (omega arith)
  ordered (n ∷ ns) p (suc i) (suc j) l hj h = ordered ns p i j (omega arith) (omega arith) h.2

  -- so there are more components than notes
  pub few_notes : (k : ℕ) → Representatives A k → (ns : List Note) (p : ℕ) → Chain A ns p → length ns < k
  few_notes k c ns p h = ⊎_elim (λ l. l) (λ many. absurd (clash many)) (cases_lt (length ns) k)
    where
      place : ℕ → ℕ
      place i = (c.all (state_at ns p i) (state_below ns p i h)).0

      clash : k ≤ length ns → ⊥
      clash many =
          let twice = pigeonhole k (λ i. (c.all (state_at ns p i) (state_below ns p i h)).0) (λ i _. (c.all (state_at ns p i) (state_below ns p i h)).1) in
          let early = c.all (state_at ns p twice.early) (state_below ns p twice.early h) in
          let late = c.all (state_at ns p twice.late) (state_below ns p twice.late h) in
          let one : Together A (state_at ns p twice.early) (state_at ns p twice.late) = together_trans A early.2 (subst (λ i. Together A (c.state i) (state_at ns p twice.late)) (sym twice.same) (together_sym A late.2)) in
          (ordered ns p twice.early twice.late twice.order (omega (arith, twice.within)) h).never_back one.back

  later_along : {x p q : ℕ} → Later A x p → ∥ Together A p q ∥₁ → Later A x q
  later_along l t = record {
    reaches = ∥∥₁_elim l.reaches ∥∥₁_prop (λ x. ∥∥₁_elim t ∥∥₁_prop (λ y. ∣ reaches_trans A x y.there ∣₁));
    never_back = λ back. ∥∥₁_elim t (λ x y. absurd x) (λ y. l.never_back (reaches_trans A y.there back));
  }

  -- another state of the component takes the place of p
  pub chain_along : (ns : List Note) (p q : ℕ) → Chain A ns p → ∥ Together A p q ∥₁ → q < A.states → Chain A ns q
  chain_along [] p q h t l = l
  chain_along (n ∷ []) p q h t l = (h.0, later_along h.1 t, l)
  chain_along (n ∷ m ∷ ns) p q h t l = (h.0, h.1, chain_along (m ∷ ns) p q h.2 t l)

  -- a step to a later component is noted
  pub chain_push : (ns : List Note) (p q d : ℕ) → Chain A ns p → Later A p q → q < A.states → Chain A (ns ++ record { depth = d; state = p } ∷ []) q
  chain_push [] p q d h l b = (h, l, b)
  chain_push (n ∷ []) p q d h l b = (h.0, h.1, chain_push [] p q d h.2 l b)
  chain_push (n ∷ m ∷ ns) p q d h l b = (h.0, h.1, chain_push (m ∷ ns) p q d h.2 l b)

  -- and the newest note is taken back
  pub chain_pop : (ns : List Note) (n : Note) (p : ℕ) → Chain A (ns ++ n ∷ []) p → Chain A ns n.state
  chain_pop [] n p h = h.0
  chain_pop (m ∷ []) n p h = (h.0, h.1, chain_pop [] n p h.2)
  chain_pop (m ∷ k ∷ ns) n p h = (h.0, h.1, chain_pop (k ∷ ns) n p h.2)

  -- a step that leaves the component leads to a later one
  pub step_later : (p a : ℕ) → a < A.labels → ¬ Together A p (A.step p a) → Later A p (A.step p a)
  step_later p a h away = record { reaches = ∣ reaches_step A p a h ∣₁; never_back = λ back. away (record { there = reaches_step A p a h; back = back }) }
