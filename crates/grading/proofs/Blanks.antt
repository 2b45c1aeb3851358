-- What a set of pairs has, and how many it lacks, as one is added.
use Rattle.std.proofs.Common.{◌≡◌, ℕ, zero, suc, ◌+◌, ◌-◌, ◌<◌, ◌≢◌, ◌⊎◌, ◌↔◌, length, get_or, set, replicate, sym, refl, ap, ◌∙◌, subst, inl, inr, ⊎_elim, arith, get_or-set_other, get_or-set_same}
use native.Mathlib.Decide.{ℕ_discrete, dec_lt}
use Rattle.grading.specs.Pairing.{row, Has, total, lacks, blank, NoPairs, Adds}
use Rattle.grading.specs.StateSets.{digit, In, empty}
use Rattle.grading.specs.declared.pairs.Pairs.{Pairs}
use Rattle.grading.specs.declared.states.StateSet.{StateSet}
use Rattle.grading.proofs.Cells.{replicated}
use Rattle.grading.proofs.Digits.{digit_below, digit_none}

pub total_same : (f g : ℕ → ℕ) (n : ℕ) → ((i : ℕ) → i < n → g i ≡ f i) → total g n ≡ total f n
unfolding total
total_same f g zero h = refl
total_same f g (suc n) h = omega (arith, h n (omega arith), total_same f g n (λ i l. h i (omega arith)))

-- one term falls by one
pub total_fewer : (f g : ℕ → ℕ) (n k : ℕ) → k < n → suc (g k) ≡ f k → ((i : ℕ) → i ≢ k → g i ≡ f i) → suc (total g n) ≡ total f n
unfolding total
total_fewer f g zero k l e h = absurd (omega arith)
total_fewer f g (suc n) k l e h = cases (dec_lt k n) (total_fewer f g n k)
  where
    cases : Dec (k < n) → (k < n → suc (g k) ≡ f k → ((i : ℕ) → i ≢ k → g i ≡ f i) → suc (total g n) ≡ total f n) → suc (g n + total g n) ≡ f n + total f n
    cases (yes d) rest = let ne : n ≢ k = omega arith in omega (arith, h n ne, rest d e h)
    cases (no d) rest =
        let same : k ≡ n = omega arith in
        let here : suc (g n) ≡ f n = subst (λ j. suc (g j) ≡ f j) same e in
        omega (arith, here, total_same f g n (λ i b. h i (omega arith)))

-- digits that agree on being 1 are equal
same_digit : (m n i : ℕ) → digit m i ≡ 1 ↔ digit n i ≡ 1 → digit m i ≡ digit n i
same_digit m n i h = cases (ℕ_discrete (digit m i) 1) (ℕ_discrete (digit n i) 1)
  where
    cases : Dec (digit m i ≡ 1) → Dec (digit n i ≡ 1) → digit m i ≡ digit n i
    cases (yes e) f = e ∙ sym (h.0 e)
    cases (no e) (yes f) = h.1 f ∙ sym f
    cases (no e) (no f) = omega (arith, digit_below m i, digit_below n i)

pub lacks_fewer : (s t : StateSet) (q : ℕ) → q < 32 → ((i : ℕ) → In i t ↔ (In i s ⊎ (i ≡ q))) → ¬ In q s → suc (lacks t) ≡ lacks s
unfolding lacks
lacks_fewer s t q l more new = total_fewer (λ i. 1 - digit s.mask i) (λ i. 1 - digit t.mask i) 32 q l
    (let was : digit s.mask q ≢ 1 = new in omega (arith, (more q).1 (inr refl), digit_below s.mask q))
    (λ i ne. ap (λ d. 1 - d) (same_digit t.mask s.mask i (λ e. ⊎_elim (λ h. h) (λ h. absurd (ne h)) ((more i).0 e), λ e. (more i).1 (inl e))))

module _ (m : Pairs) (p q : ℕ) (s : StateSet) (tall : p < length m.rows) (l : p < 32) (k : q < 32) (more : (i : ℕ) → In i s ↔ (In i (row m p) ⊎ (i ≡ q))) where
  abbrev new : Pairs
  new = record { rows = set m.rows p s }

  here : row new p ≡ s
  here = get_or-set_same m.rows p s empty tall

  other : (r : ℕ) → r ≢ p → row new r ≡ row m r
  other r ne = get_or-set_other m.rows p r s empty ne

  each : (r i : ℕ) → Dec (r ≡ p) → Has new r i ↔ (Has m r i ⊎ ((r ≡ p) × (i ≡ q)))
  each r i (yes e) =
      let at : row new r ≡ s = ap (row new) e ∙ here in
      let from : In i s ↔ (Has m r i ⊎ (i ≡ q)) = subst (λ r. In i s ↔ (Has m r i ⊎ (i ≡ q))) (sym e) (more i) in
      (λ h. ⊎_elim inl (λ f. inr (e, f)) (from.0 (subst (In i) at h)), λ h. subst (In i) (sym at) (from.1 (⊎_elim inl (λ (_, f). inr f) h)))
  each r i (no ne) = (λ h. inl (subst (In i) (other r ne) h), ⊎_elim (λ h. subst (In i) (sym (other r ne)) h) (λ (e, _). absurd (ne e)))

  pub adds : Adds m p q new
  unfolding blank
  adds = record {
    each = λ r i. each r i (ℕ_discrete r p);
    fewer = λ lacked. total_fewer (λ r. lacks (row m r)) (λ r. lacks (row new r)) 32 p l (ap (λ t. suc (lacks t)) here ∙ lacks_fewer (row m p) s q k more lacked) (λ r ne. ap lacks (other r ne));
  }

pub none_paired : (s : StateSet) → s ≡ empty → NoPairs (record { rows = replicate 32 s })
unfolding blank lacks total
none_paired s e = record {
  none = λ p q h. omega (arith, ap (λ t. digit t.mask q) (each p) ∙ digit_none q, h);
  blank = total_same (λ _. lacks empty) (λ p. lacks (get_or (replicate 32 s) p empty)) 32 (λ p _. ap lacks (each p)) ∙ total_same (λ _. 32) (λ _. lacks empty) 32 (λ _ _. total_same (λ _. 1) (λ i. 1 - digit 0 i) 32 (λ i _. omega (arith, digit_none i)));
}
  where
    each : (p : ℕ) → get_or (replicate 32 s) p empty ≡ empty
    each p = replicated (λ t. t ≡ empty) 32 p s empty e refl
