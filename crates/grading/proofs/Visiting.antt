-- Visits of one pair, of none, and of some after others.
use Rattle.std.proofs.Common.{◌≡◌, ℕ, ◌+◌, ◌<◌, Ok, Err, Result, ◌⊎◌, ◌↔◌, length, sym, refl, ap, ◌∙◌, subst, inl, inr, ⊎_elim, arith, length-set}
use native.Mathlib.Decide.{ℕ_discrete}
use Rattle.base.specs.Stacks.{used, Stored, Pushes}
use Rattle.grading.specs.Pairing.{Adds}
use Rattle.grading.specs.StateSets.{In, Taken}
use Rattle.grading.specs.Worklists.{Found, Visits, Among, Below}
use Rattle.grading.specs.declared.products.Pair.{Pair}
use Rattle.grading.specs.declared.states.StateSet.{StateSet}
use Rattle.grading.specs.declared.worklist.Worklist.{Worklist}
use Rattle.grading.proofs.Stored.{push_kept, push_new, push_only}

abbrev One : ℕ → ℕ → ℕ → ℕ → Type 0
One p q r u = (r ≡ p) × (u ≡ q)

-- a pair that was not yet found is added and pushed
module _ (s t : Worklist) (x : Pair) (adds : Adds s.found x.first x.second t.found) (new : ¬ Found s x.first x.second) where
  stored : Stored s.waiting x t.waiting → Visits (One x.first x.second) s t
  stored h = record {
    kept = λ r u e. (adds.each r u).1 (inl e);
    all = λ r u e. (adds.each r u).1 (inr e);
    only = λ r u e. ⊎_elim inl (λ (a, b). inr ((a, b), push_new s t x h r u (sym a, sym b))) ((adds.each r u).0 e);
    waits = push_kept s t x h;
    listed = λ r u w. ⊎_elim inl (λ (a, b). inr (sym a, sym b)) (push_only s t x h r u w);
    load = omega (arith, adds.fewer new, h.used);
    size = ap length h.places ∙ length-set s.waiting.places.now (used s.waiting) x;
  }

  pub visits_new : (r : Result (Unit {0}) Pair) → Pushes s.waiting x t.waiting r → Visits (One x.first x.second) s t
  visits_new (Ok _) h = stored h
  visits_new (Err _) (full, _, _) = absurd (omega (arith, adds.fewer new, s.room, full))

module _ (P : ℕ → ℕ → Type 0) where
  -- all that is wanted was found before
  pub visits_old : (s : Worklist) → ((p q : ℕ) → P p q → Found s p q) → Visits P s s
  visits_old s h = record {
    kept = λ p q e. e;
    all = h;
    only = λ p q e. inl e;
    waits = λ p q w. w;
    listed = λ p q w. inl w;
    load = refl;
    size = refl;
  }

  pub visits_none : (s : Worklist) → ((p q : ℕ) → ¬ P p q) → Visits P s s
  visits_none s none = visits_old s (λ p q h. absurd (none p q h))

  -- what is wanted in all is wanted first or after
  pub visits_more : (Q R : ℕ → ℕ → Type 0) (s t u : Worklist) → Visits P s t → Visits Q t u → ((p q : ℕ) → P p q → R p q) → ((p q : ℕ) → Q p q → R p q) → ((p q : ℕ) → R p q → P p q ⊎ Q p q) → Visits R s u
  visits_more Q R s t u g h from-p from-q either = record {
    kept = λ p q e. h.kept p q (g.kept p q e);
    all = λ p q e. ⊎_elim (λ w. h.kept p q (g.all p q w)) (h.all p q) (either p q e);
    only = λ p q e. ⊎_elim (λ f. ⊎_elim inl (λ (w, i). inr (from-p p q w, h.waits p q i)) (g.only p q f)) (λ (w, i). inr (from-q p q w, i)) (h.only p q e);
    waits = λ p q e. h.waits p q (g.waits p q e);
    listed = λ p q e. ⊎_elim (λ f. ⊎_elim inl (λ w. inr (from-p p q w)) (g.listed p q f)) (λ w. inr (from-q p q w)) (h.listed p q e);
    load = h.load ∙ g.load;
    size = h.size ∙ g.size;
  }

-- x is taken out of a set: the pairs with x are visited first, and then those with the others
module _ (left rest : StateSet) (x : ℕ) (taken : Taken left rest x) (s t u : Worklist) where
  apart : (i : ℕ) → In i left → Dec (i ≡ x) → (i ≡ x) ⊎ In i rest
  apart i h (yes e) = inl e
  apart i h (no ne) = inr ((taken.others i).1 (h, ne))

  here : (i : ℕ) → i ≡ x → In i left
  here i e = subst (λ j. In j left) (sym e) taken.has

  pub visits_row : (first : ℕ) → Visits (λ p q. (p ≡ first) × (q ≡ x)) s t → Visits (λ p q. (p ≡ first) × In q rest) t u → Visits (λ p q. (p ≡ first) × In q left) s u
  visits_row first g h = visits_more (λ p q. (p ≡ first) × (q ≡ x)) (λ p q. (p ≡ first) × In q rest) (λ p q. (p ≡ first) × In q left) s t u g h
      (λ p q (a, e). (a, here q e))
      (λ p q (a, i). (a, ((taken.others q).0 i).0))
      (λ p q (a, i). ⊎_elim (λ e. inl (a, e)) (λ j. inr (a, j)) (apart q i (ℕ_discrete q x)))

  pub visits_product : (seconds : StateSet) → Visits (λ p q. (p ≡ x) × In q seconds) s t → Visits (λ p q. In p rest × In q seconds) t u → Visits (λ p q. In p left × In q seconds) s u
  visits_product seconds g h = visits_more (λ p q. (p ≡ x) × In q seconds) (λ p q. In p rest × In q seconds) (λ p q. In p left × In q seconds) s t u g h
      (λ p q (e, j). (here p e, j))
      (λ p q (i, j). (((taken.others p).0 i).0, j))
      (λ p q (i, j). ⊎_elim (λ e. inl (e, j)) (λ k. inr (k, j)) (apart p i (ℕ_discrete p x)))

-- the relations below n are visited, and then the one of the number n
pub visits_number : (has : ℕ → ℕ → ℕ → Type 0) (Q : ℕ → ℕ → Type 0) (n : ℕ) (s t u : Worklist) → ((p q : ℕ) → Q p q → has n p q) → ((p q : ℕ) → has n p q → Q p q) → Visits (Among n has) s t → Visits Q t u → Visits (Among (n + 1) has) s u
visits_number has Q n s t u there back g h = visits_more (Among n has) Q (Among (n + 1) has) s t u g h
    (λ p q a. record { number = a.number; below = omega (arith, a.below); holds = a.holds })
    (λ p q w. record { number = n; below = omega arith; holds = there p q w })
    (λ p q a. cases p q a (ℕ_discrete a.number n))
  where
    cases : (p q : ℕ) (a : Among (n + 1) has p q) → Dec (a.number ≡ n) → Among n has p q ⊎ Q p q
    cases p q a (yes e) = inr (back p q (subst (λ k. has k p q) e a.holds))
    cases p q a (no ne) = inl (record { number = a.number; below = omega (arith, a.below); holds = a.holds })

-- the rows of first states below n are visited, and then the row of n
pub visits_rows : (W : ℕ → ℕ → Type 0) (n : ℕ) (row : StateSet) (s t u : Worklist) → ((q : ℕ) → In q row ↔ W n q) → Visits (Below n W) s t → Visits (λ p q. (p ≡ n) × In q row) t u → Visits (Below (n + 1) W) s u
visits_rows W n row s t u is g h = visits_more (Below n W) (λ p q. (p ≡ n) × In q row) (Below (n + 1) W) s t u g h
    (λ p q (l, w). (omega arith, w))
    (λ p q (e, i). (omega arith, subst (λ z. W z q) (sym e) ((is q).0 i)))
    (λ p q (l, w). cases p q l w (ℕ_discrete p n))
  where
    cases : (p q : ℕ) → p < n + 1 → W p q → Dec (p ≡ n) → ((p < n) × W p q) ⊎ ((p ≡ n) × In q row)
    cases p q l w (yes e) = inr (e, (is q).1 (subst (λ z. W z q) e w))
    cases p q l w (no ne) = inl (omega arith, w)
