-- Going back from wanted pairs finds just those that come to one.
use Rattle.std.proofs.Common.{◌≡◌, ℕ, ◌<◌, ◌⊎◌, sym, refl, ap, subst, inl, inr, ⊎_elim, arith}
use Rattle.base.specs.Stacks.{used, Taken}
use Rattle.grading.specs.Pairing.{Has, blank, NoPairs}
use Rattle.grading.specs.Spreading.{Comes, there, move, Spreads}
use Rattle.grading.specs.Worklists.{Among, Found, Is, Waits, load, Visits}
use Rattle.grading.specs.declared.products.Pair.{Pair}
use Rattle.grading.specs.declared.worklist.Worklist.{Worklist}
use Rattle.grading.proofs.Stored.{pop_only, popped, pop_kept}

-- each pair that is found comes to a wanted one, and waits unless its predecessors are found
pub record Halfway (n : ℕ) (goes : ℕ → ℕ → ℕ → ℕ → ℕ → Type 0) (wanted : ℕ → ℕ → Type 0) (s : Worklist) : Type 0 where
  pub sound : (p q : ℕ) → Found s p q → Comes n goes wanted p q
  pub listed : (p q : ℕ) → Waits s p q → Comes n goes wanted p q
  pub handled : (p q : ℕ) → Found s p q → Waits s p q ⊎ ((a r u : ℕ) → a < n → goes a r u p q → Found s r u)
  pub seeded : (p q : ℕ) → wanted p q → Found s p q

module _ (n : ℕ) (goes : ℕ → ℕ → ℕ → ℕ → ℕ → Type 0) (wanted : ℕ → ℕ → Type 0) where
  pub halfway_begun : (s t : Worklist) → NoPairs s.found → used s.waiting ≡ 0 → Visits wanted s t → Halfway n goes wanted t
  halfway_begun s t none empty v = record {
    sound = λ p q e. there (fresh p q (v.only p q e)).0;
    listed = λ p q w. ⊎_elim (λ i. absurd (omega (arith, i.below, empty))) (λ h. there h) (v.listed p q w);
    handled = λ p q e. inl (fresh p q (v.only p q e)).1;
    seeded = v.all;
  }
    where
      fresh : (p q : ℕ) → Found s p q ⊎ (wanted p q × Waits t p q) → wanted p q × Waits t p q
      fresh p q (inl e) = absurd (none.none p q e)
      fresh p q (inr h) = h

  -- x is popped
  module _ (s t : Worklist) (x : Pair) (h : Halfway n goes wanted s) (same : t.found ≡ s.found) (taken : Taken s.waiting x t.waiting) where
    top : Comes n goes wanted x.first x.second
    top = h.listed x.first x.second (popped s t x taken x.first x.second (refl, refl))

  -- and its predecessors are visited
  module _ (s t u : Worklist) (x : Pair) (h : Halfway n goes wanted s) (same : t.found ≡ s.found) (taken : Taken s.waiting x t.waiting)
      (v : Visits (Among n (λ a p q. goes a p q x.first x.second)) t u) where
    found_back : (p q : ℕ) → Found t p q → Found s p q
    found_back p q = subst (λ f. Has f p q) same

    found_there : (p q : ℕ) → Found s p q → Found t p q
    found_there p q = subst (λ f. Has f p q) (sym same)

    comes : (p q : ℕ) → Among n (λ a p q. goes a p q x.first x.second) p q → Comes n goes wanted p q
    comes p q i = move i.below i.holds (top s t x h same taken)

    abbrev Handled : ℕ → ℕ → Type 0
    Handled p q = Waits u p q ⊎ ((a r w : ℕ) → a < n → goes a r w p q → Found u r w)

    left : (p q : ℕ) → Waits t p q ⊎ Is x p q → Handled p q
    left p q (inl w) = inl (v.waits p q w)
    left p q (inr (e, f)) = inr (λ a r w l k. v.all r w (record { number = a; below = l; holds = subst (λ p. goes a r w p x.second) (sym e) (subst (goes a r w p) (sym f) k) }))

    before : (p q : ℕ) → Waits s p q ⊎ ((a r w : ℕ) → a < n → goes a r w p q → Found s r w) → Handled p q
    before p q (inl w) = left p q (pop_kept s t x taken p q w)
    before p q (inr k) = inr (λ a r w l g. v.kept r w (found_there r w (k a r w l g)))

    pub load_falls : load u < load s
    load_falls = omega (arith, v.load, ap blank same, taken.used, taken.some)

    pub halfway_more : Halfway n goes wanted u
    halfway_more = record {
      sound = λ p q e. ⊎_elim (λ f. h.sound p q (found_back p q f)) (λ (i, _). comes p q i) (v.only p q e);
      listed = λ p q w. ⊎_elim (λ f. h.listed p q (pop_only s t x taken p q f)) (comes p q) (v.listed p q w);
      handled = λ p q e. ⊎_elim (λ f. before p q (h.handled p q (found_back p q f))) (λ (_, w). inl w) (v.only p q e);
      seeded = λ p q w. v.kept p q (found_there p q (h.seeded p q w));
    }

  -- nothing waits any more
  pub halfway_ended : (s : Worklist) → Halfway n goes wanted s → used s.waiting ≡ 0 → Spreads n goes wanted s.found
  halfway_ended s h empty p q = (h.sound p q, full p q)
    where
      closed : (a p q x y : ℕ) → a < n → goes a p q x y → Waits s x y ⊎ ((a r u : ℕ) → a < n → goes a r u x y → Found s r u) → Found s p q
      closed a p q x y l g (inl w) = absurd (omega (arith, w.below, empty))
      closed a p q x y l g (inr k) = k a p q l g

      full : (p q : ℕ) → Comes n goes wanted p q → Found s p q
      full p q (there w) = h.seeded p q w
      full p q (move {a = a} {x = x} {y = y} l g c) = closed a p q x y l g (h.handled x y (full x y c))
