-- The lowest number that passes a test.
use Rattle.std.proofs.Common.{◌≡◌, ℕ, zero, suc, ◌<◌, ◌≤◌, Bool, true, false, cond, refl, ap, ◌∙◌, arith}
use native.Mathlib.Decide.{dec_lt}
use Rattle.automata.specs.Backward.{lowest}

module _ (test : ℕ → Bool) where
  pub lowest_below : (m n other : ℕ) → n ≤ m → other < m → lowest test n other < m
  lowest_below m zero other h k = k
  lowest_below m (suc n) other h k = lowest_below m n (cond (test n) n other) (omega arith) (at (test n))
    where
      at : (t : Bool) → cond t n other < m
      at true = h
      at false = k

  lowest_other : (n other : ℕ) → test other ≡ true → test (lowest test n other) ≡ true
  lowest_other zero other h = h
  lowest_other (suc n) other h = lowest_other n (cond (test n) n other) (at (test n) refl)
    where
      at : (t : Bool) → test n ≡ t → test (cond t n other) ≡ true
      at true e = e
      at false e = h

  pub lowest_passes : (n other k : ℕ) → k < n → test k ≡ true → test (lowest test n other) ≡ true
  lowest_passes zero other k h pass = absurd (omega arith)
  lowest_passes (suc n) other k h pass = cases (dec_lt k n) (lowest_passes n (cond (test n) n other) k)
    where
      cases : Dec (k < n) → (k < n → test k ≡ true → test (lowest test n (cond (test n) n other)) ≡ true) → test (lowest test n (cond (test n) n other)) ≡ true
      cases (yes l) rest = rest l pass
      cases (no l) rest =
          let e : n ≡ k = omega arith in
          let top : test n ≡ true = ap test e ∙ pass in
          lowest_other n (cond (test n) n other) (ap (λ t. test (cond t n other)) top ∙ top)
