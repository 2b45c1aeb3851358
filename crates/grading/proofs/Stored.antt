-- What waits after a push and after a pop.
use Rattle.std.proofs.Common.{◌≡◌, ℕ, ◌-◌, ◌≢◌, ◌⊎◌, get_or, sym, ap, ◌∙◌, subst, inl, inr, arith, get_or-set_other, get_or-set_same}
use native.Mathlib.Decide.{ℕ_discrete}
use Rattle.std.proofs.lemmas.List.{get_or_default}
use Rattle.base.specs.Stacks.{used, Stored, Taken}
use Rattle.grading.specs.Worklists.{Is, Waits}
use Rattle.grading.specs.declared.products.Pair.{Pair}
use Rattle.grading.specs.declared.worklist.Worklist.{Worklist}

same : (x y : Pair) (p q : ℕ) → x ≡ y → Is x p q → Is y p q
same x y p q e = subst (λ z. Is z p q) e

module _ (s t : Worklist) (x : Pair) (h : Stored s.waiting x t.waiting) where
  -- another place, and that of the push
  other : (k : ℕ) (d : Pair) → k ≢ used s.waiting → get_or t.waiting.places.now k d ≡ get_or s.waiting.places.now k d
  other k d ne = ap (λ l. get_or l k d) h.places ∙ get_or-set_other s.waiting.places.now (used s.waiting) k x d ne

  top : (d : Pair) → get_or t.waiting.places.now (used s.waiting) d ≡ x
  top d = ap (λ l. get_or l (used s.waiting) d) h.places ∙ get_or-set_same s.waiting.places.now (used s.waiting) x d h.room

  pub push_kept : (p q : ℕ) → Waits s p q → Waits t p q
  push_kept p q w = record {
    place = w.place;
    below = omega (arith, w.below, h.used);
    is = λ d. same _ _ p q (sym (other w.place d (omega (arith, w.below)))) (w.is d);
  }

  pub push_new : (p q : ℕ) → Is x p q → Waits t p q
  push_new p q e = record { place = used s.waiting; below = omega (arith, h.used); is = λ d. same _ _ p q (sym (top d)) e }

  pub push_only : (p q : ℕ) → Waits t p q → Waits s p q ⊎ Is x p q
  push_only p q w = cases (ℕ_discrete w.place (used s.waiting))
    where
      cases : Dec (w.place ≡ used s.waiting) → Waits s p q ⊎ Is x p q
      cases (yes e) = inr (same _ _ p q (ap (λ k. get_or t.waiting.places.now k x) e ∙ top x) (w.is x))
      cases (no e) = inl (record { place = w.place; below = omega (arith, w.below, h.used); is = λ d. same _ _ p q (other w.place d e) (w.is d) })

module _ (s t : Worklist) (x : Pair) (h : Taken s.waiting x t.waiting) where
  -- what a pop leaves
  pub pop_only : (p q : ℕ) → Waits t p q → Waits s p q
  pop_only p q w = record { place = w.place; below = omega (arith, w.below, h.used); is = λ d. same _ _ p q (ap (λ l. get_or l w.place d) h.places) (w.is d) }

  -- what it takes
  pub popped : (p q : ℕ) → Is x p q → Waits s p q
  popped p q e = record {
    place = used s.waiting - 1;
    below = omega (arith, h.some);
    is = λ d. same _ _ p q (h.entry ∙ get_or_default s.waiting.places.now (used s.waiting - 1) x d (omega (arith, h.some, s.waiting.within))) e;
  }

  pub pop_kept : (p q : ℕ) → Waits s p q → Waits t p q ⊎ Is x p q
  pop_kept p q w = cases (ℕ_discrete w.place (used s.waiting - 1))
    where
      cases : Dec (w.place ≡ used s.waiting - 1) → Waits t p q ⊎ Is x p q
      cases (yes f) = inr (same _ _ p q (ap (λ k. get_or s.waiting.places.now k x) f ∙ sym h.entry) (w.is x))
      cases (no f) = inl (record { place = w.place; below = omega (arith, w.below, h.used); is = λ d. same _ _ p q (sym (ap (λ l. get_or l w.place d) h.places)) (w.is d) })
