-- Predecessors, as they are added place by place.
use Rattle.std.proofs.Common.{◌≡◌, ℕ, ◌+◌, ◌*◌, ◌<◌, ◌≤◌, ◌⊎◌, ◌↔◌, List, [], length, set, replicate, sym, ap, ◌∙◌, subst, inl, inr, ⊎_elim, arith, get_or-set_other, get_or-set_same}
use native.Mathlib.Decide.{ℕ_discrete, dec_lt}
use Rattle.automata.specs.Automata.{Automaton}
use Rattle.grading.specs.Pairing.{Has, NoPairs, Adds}
use Rattle.grading.specs.Preceding.{entering, before, Indexed, Indexes}
use Rattle.grading.specs.StateSets.{In}
use Rattle.grading.specs.declared.pairs.Pairs.{Pairs}
use Rattle.grading.proofs.Cells.{replicated}
use Rattle.grading.proofs.Digits.{empty_none}

module _ (A : Automaton) (narrow : A.labels ≤ 16) where
  pub indexed_none : (s : Pairs) → NoPairs s → Indexed A (replicate 16 s) 0
  indexed_none s none a x p _ = (λ i. absurd (blank i), λ (l, _). absurd (omega arith))
    where
      blank : ¬ In p (before (replicate 16 s) a x)
      blank = replicated (λ m. ¬ Has m x p) 16 a s (record { rows = [] }) (none.none x p) (empty_none p)

  -- the step from p by a is added to its pairs
  module _ (m : List Pairs) (p a x : ℕ) (s : Pairs) (h : Indexed A m (16 * p + a)) (label : a < A.labels) (is : x ≡ A.step p a)
      (tall : a < length m) (adds : Adds (entering m a) x p s) where
    here : (y q : ℕ) → Has s y q ↔ ((16 * q + a < 16 * p + (a + 1)) × (A.step q a ≡ y))
    here y q = (
      λ i. ⊎_elim (λ j. let b = (h a y q label).0 j in (omega (arith, b.0), b.1)) (λ (e, f). (omega arith, ap (λ r. A.step r a) f ∙ sym is ∙ sym e)) ((adds.each y q).0 i),
      λ (l, e). (adds.each y q).1 (earlier l e (dec_lt q p)),
    )
      where
        earlier : 16 * q + a < 16 * p + (a + 1) → A.step q a ≡ y → Dec (q < p) → Has (entering m a) y q ⊎ ((y ≡ x) × (q ≡ p))
        earlier l e (yes k) = inl ((h a y q label).1 (omega arith, e))
        earlier l e (no k) = let same : q ≡ p = omega arith in inr (sym e ∙ ap (λ r. A.step r a) same ∙ sym is, same)

    abbrev Passed : ℕ → ℕ → ℕ → Pairs → Type 0
    Passed q b y t = Has t y q ↔ ((16 * q + b < 16 * p + (a + 1)) × (A.step q b ≡ y))

    pub indexed_more : Indexed A (set m a s) (16 * p + (a + 1))
    indexed_more b y q k = cases (ℕ_discrete b a)
      where
        cases : Dec (b ≡ a) → Passed q b y (entering (set m a s) b)
        cases (yes e) = subst (λ b. Passed q b y (entering (set m a s) b)) (sym e) (subst (Passed q a y) (sym (get_or-set_same m a s (record { rows = [] }) tall)) (here y q))
        cases (no ne) = subst (Passed q b y) (sym (get_or-set_other m a b s (record { rows = [] }) ne)) (
          λ i. let c = (h b y q k).0 i in (omega (arith, c.0), c.1),
          λ (l, e). (h b y q k).1 (omega arith, e),
        )

  -- pairs that are the same for each label of the table
  pub indexed_as : (m k : List Pairs) (n : ℕ) → ((a : ℕ) → a < A.labels → entering k a ≡ entering m a) → Indexed A m n → Indexed A k n
  indexed_as m k n same h a x p l = subst (λ s. Has s x p ↔ ((16 * p + a < n) × (A.step p a ≡ x))) (sym (same a l)) (h a x p l)

  -- the labels of one state are all passed
  pub indexed_row : (m : List Pairs) (p n : ℕ) → n ≡ A.labels → Indexed A m (16 * p + n) → Indexed A m (16 * (p + 1))
  indexed_row m p n e h a x q l = (λ i. let c = (h a x q l).0 i in (omega (arith, c.0), c.1), λ (k, f). (h a x q l).1 (omega arith, f))

  -- and so are those of all states
  pub indexed_all : (m : List Pairs) (n : ℕ) → n ≡ A.states → Indexed A m (16 * n) → Indexes A m
  indexed_all m n e h a x p l = (λ i. let c = (h a x p l).0 i in record { below = omega (arith, c.0); leads = c.1 }, λ k. (h a x p l).1 (omega (arith, k.below), k.leads))
