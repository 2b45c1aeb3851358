-- Of n + 1 numbers below n two are equal.
use Rattle.std.proofs.Common.{◌≡◌, ℕ, zero, suc, ◌-◌, ◌<◌, ◌≤◌, min, ◌≢◌, ◌⊎◌, ap, ◌∙◌, inl, inr, arith}
use native.Mathlib.Decide.{ℕ_discrete, dec_lt}

-- f takes the value v somewhere below n
abbrev Takes : (ℕ → ℕ) → ℕ → ℕ → Type 0
Takes f v n = (k : ℕ) × (k < n) × (f k ≡ v)

-- and nowhere below n
abbrev Avoids : (ℕ → ℕ) → ℕ → ℕ → Type 0
Avoids f v n = (k : ℕ) → k < n → f k ≢ v

avoids_more : (f : ℕ → ℕ) (v n : ℕ) → Avoids f v n → f n ≢ v → Avoids f v (suc n)
avoids_more f v n before here k h = at (dec_lt k n)
  where
    at : Dec (k < n) → f k ≢ v
    at (yes l) = before k l
    at (no l) = let e : n ≡ k = omega arith in λ same. here (ap f e ∙ same)

-- a search over the numbers below n
takes : (f : ℕ → ℕ) (v n : ℕ) → Takes f v n ⊎ Avoids f v n
takes f v zero = inr (λ k h. absurd (omega arith))
takes f v (suc n) = here (ℕ_discrete (f n) v) (takes f v n)
  where
    here : Dec (f n ≡ v) → Takes f v n ⊎ Avoids f v n → Takes f v (suc n) ⊎ Avoids f v (suc n)
    here (yes e) before = inl (n, omega arith, e)
    here (no e) (inl (k, h, same)) = inl (k, omega arith, same)
    here (no e) (inr none) = inr (avoids_more f v n none e)

-- the numbers other than v, moved down to close the gap at v
abbrev squeeze : ℕ → ℕ → ℕ
squeeze v x = x - min 1 (x - v)

squeeze_below : (n v x : ℕ) → v < suc n → x < suc n → x ≢ v → squeeze v x < n
squeeze_below n v x h k e = omega arith

squeeze_inj : (v x y : ℕ) → x ≢ v → y ≢ v → squeeze v x ≡ squeeze v y → x ≡ y
squeeze_inj v x y h k e = omega arith

-- f takes some value twice
pub record Repeats (f : ℕ → ℕ) (n : ℕ) : Type 0 where
  pub early : ℕ
  pub late : ℕ
  pub order : early < late
  pub within : late ≤ n
  pub same : f early ≡ f late

-- squeeze the value at the last place out of the values before it
pub pigeonhole : (n : ℕ) (f : ℕ → ℕ) → ((k : ℕ) → k ≤ n → f k < n) → Repeats f n
pigeonhole zero f below = absurd (omega (arith, below 0 (omega arith)))
pigeonhole (suc n) f below = cases (takes f (f (suc n)) (suc n)) (pigeonhole n (λ k. squeeze (f (suc n)) (f k)))
  where
    cases : Takes f (f (suc n)) (suc n) ⊎ Avoids f (f (suc n)) (suc n) → (((k : ℕ) → k ≤ n → squeeze (f (suc n)) (f k) < n) → Repeats (λ k. squeeze (f (suc n)) (f k)) n) → Repeats f (suc n)
    cases (inl (k, h, same)) rest = record { early = k; late = suc n; order = h; within = omega arith; same = same }
    cases (inr none) rest =
        let r = rest (λ k h. squeeze_below n (f (suc n)) (f k) (below (suc n) (omega arith)) (below k (omega arith)) (none k (omega arith))) in
        record {
          early = r.early;
          late = r.late;
          order = r.order;
          within = omega (arith, r.within);
          same = squeeze_inj (f (suc n)) (f r.early) (f r.late) (none r.early (omega (arith, r.within, r.order))) (none r.late (omega (arith, r.within))) r.same;
        }
