-- Without its lowest bit a mask has the others.
use Rattle.std.proofs.Common.{◌≡◌, ℕ, ◌-◌, ◌^◌, ◌<◌, ◌≢◌, ◌↔◌, sym, refl, ap, ◌∙◌, subst, arith}
use lib.Count.{count_trailing_zeros}
use Rattle.std.proofs.lemmas.Nat.{one_shl, pow_pos}
use Rattle.grading.specs.StateSets.{digit, Taken}
use Rattle.grading.proofs.Digits.{digit_none, lowest_digit}
use Rattle.grading.proofs.states.StateSetIterator.next.Goals as goal

-- without its lowest digit a number has the others
taken : (m : ℕ) → 0 < m → m < 2 ^ 32 → Taken (record { mask = m }) (record { mask = m - 2 ^ count_trailing_zeros 32 m }) (count_trailing_zeros 32 m)
taken m some h =
    let t : ℕ = count_trailing_zeros 32 m in
    let l = lowest_digit 32 m some h in
    record {
      below = l.below;
      has = l.has;
      lowest = λ i k e. let z : ◌≡◌ {A = ℕ} 0 1 = sym (l.least i k) ∙ e in omega arith;
      others = λ i. others i l.gone (l.kept i);
      fewer = omega (arith, pow_pos t);
    }
  where
    others : (i : ℕ) → digit (m - 2 ^ count_trailing_zeros 32 m) (count_trailing_zeros 32 m) ≡ 0 → (i ≢ count_trailing_zeros 32 m → digit (m - 2 ^ count_trailing_zeros 32 m) i ≡ digit m i) → digit (m - 2 ^ count_trailing_zeros 32 m) i ≡ 1 ↔ ((digit m i ≡ 1) × (i ≢ count_trailing_zeros 32 m))
    others i gone kept = (
      λ e. let ne : i ≢ count_trailing_zeros 32 m = λ same. omega (arith, sym e ∙ ap (digit (m - 2 ^ count_trailing_zeros 32 m)) same ∙ gone) in (sym (kept ne) ∙ e, ne),
      λ (e, ne). kept ne ∙ e,
    )

pub returns-then-self-eq0-clause-steps : goal.returns-then-self-eq0-clause-steps
returns-then-self-eq0-clause-steps c = (λ i e. omega (arith, sym (ap (λ m. digit m i) c.if-self-eq0.true ∙ digit_none i) ∙ e), refl)

pub overflow_sub-self : goal.overflow_sub-self
overflow_sub-self c =
    let m = c.args.self.now.mask in
    let l = lowest_digit 32 m (omega arith) (omega arith) in
    omega (arith, one_shl (count_trailing_zeros 32 m) 32 l.below, l.within)

pub returns-clause-steps : goal.returns-clause-steps
returns-clause-steps c =
    let m = c.args.self.now.mask in
    let l = lowest_digit 32 m (omega arith) (omega arith) in
    subst (λ x. Taken (record { mask = m }) (record { mask = m - x }) (count_trailing_zeros 32 m)) (sym (one_shl (count_trailing_zeros 32 m) 32 l.below)) (taken m (omega arith) (omega arith))
