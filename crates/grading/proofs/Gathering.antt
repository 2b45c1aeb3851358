-- A set that grows by the numbers that pass a test, as they are passed.
use Rattle.std.proofs.Common.{◌≡◌, ℕ, ◌+◌, ◌<◌, Bool, true, false, ◌⊎◌, ◌↔◌, sym, subst, inl, inr, ⊎_elim, arith}
use native.Mathlib.Decide.{ℕ_discrete}
use Rattle.grading.specs.StateSets.{In, empty, Sifts}
use Rattle.grading.specs.declared.states.StateSet.{StateSet}
use Rattle.grading.proofs.Digits.{empty_none}

module _ (answers : ℕ → Bool → Type 0) where
  pub sifts_none : (s : StateSet) → s ≡ empty → Sifts answers 0 s
  sifts_none s e = record { has = λ i h. absurd (empty_none i (subst (In i) e h)); lacks = λ i l. absurd (omega arith) }

  pub sifts_with : (n : ℕ) (s t : StateSet) → answers n true → ((i : ℕ) → In i t ↔ (In i s ⊎ (i ≡ n))) → Sifts answers n s → Sifts answers (n + 1) t
  sifts_with n s t passes more h = record {
    has = λ i k. ⊎_elim (λ j. let b = h.has i j in (omega (arith, b.0), b.1)) (λ e. (omega arith, subst (λ i. answers i true) (sym e) passes)) ((more i).0 k);
    lacks = λ i l none. h.lacks i (let ne : ¬ (i ≡ n) = λ e. none ((more i).1 (inr e)) in omega arith) (λ j. none ((more i).1 (inl j)));
  }

  pub sifts_skip : (n : ℕ) (s : StateSet) → answers n false → Sifts answers n s → Sifts answers (n + 1) s
  sifts_skip n s fails h = record {
    has = λ i k. let b = h.has i k in (omega (arith, b.0), b.1);
    lacks = λ i l none. cases i l none (ℕ_discrete i n);
  }
    where
      cases : (i : ℕ) → i < n + 1 → ¬ In i s → Dec (i ≡ n) → answers i false
      cases i l none (yes e) = subst (λ i. answers i false) (sym e) fails
      cases i l none (no ne) = h.lacks i (omega arith) none
