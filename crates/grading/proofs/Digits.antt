-- The binary digits of numbers that stand for sets.
use Rattle.std.proofs.Common.{◌≡◌, ℕ, zero, suc, ◌+◌, ◌-◌, ◌*◌, ◌/◌, ◌%◌, ◌^◌, ◌<◌, ◌≤◌, eqb, ◌≢◌, ◌⊎◌, ◌↔◌, Decides, sym, refl, ap, ◌∙◌, subst, inl, inr, ⊎_elim, pow-suc, div-one, add-one, one-add, arith}
use native.Mathlib.Nat.{div-eq_of_lt, mul-mod_left}
use lib.Bits.{bit_and, bit_or}
use lib.Count.{count_trailing_zeros, under}
use Rattle.std.proofs.lemmas.Nat.{pow_below, pow-add, pow_pos, shl-shr, shr-shr, and_mask, and_shr, and_mod, or_shr, or_mod, mod_below, shr_below}
use Rattle.std.proofs.lemmas.Bool.{cases_order, cases_eq}
use Rattle.std.proofs.lemmas.Bool.Decides.{Decides-at, Decides-eqb}
use Rattle.grading.specs.StateSets.{digit, None, empty}

pub digit_below : (m i : ℕ) → digit m i < 2
unfolding digit
digit_below m i = mod_below (m / 2 ^ i) 2 (omega arith)

pub digit_none : (i : ℕ) → digit 0 i ≡ 0
unfolding digit
digit_none i = ap (λ x. x % 2) (div-eq_of_lt (pow_pos i))

pub empty_none : None empty
empty_none i e = omega (arith, digit_none i)

pub digit_read : (m i : ℕ) → Decides (eqb (bit_and (m / 2 ^ i) 1) 1) (digit m i ≡ 1)
unfolding digit
digit_read m i = Decides-at _ _ (ap (λ x. eqb x 1) (and_mask (m / 2 ^ i) 1)) (Decides-eqb (m / 2 ^ i % 2) 1)

-- the power of k has the digit k alone
power_same : (k : ℕ) → digit (2 ^ k) k ≡ 1
unfolding digit
power_same k = ap (λ x. x / 2 ^ k % 2) (let e : 2 ^ k ≡ 1 * 2 ^ k = omega arith in e) ∙ ap (λ x. x % 2) (shl-shr 1 k)

power_other : (k i : ℕ) → i ≢ k → digit (2 ^ k) i ≡ 0
unfolding digit
power_other k i ne = ⊎_elim
    (λ e. absurd (ne e))
    (λ o. ⊎_elim
    (λ (less : i < k).
    let d : ℕ = k - i - 1 in
    let e : k ≡ suc d + i = omega arith in
    ap (λ x. 2 ^ x / 2 ^ i % 2) e ∙ ap (λ x. x / 2 ^ i % 2) (pow-add 2 (suc d) i) ∙ ap (λ x. x % 2) (shl-shr (2 ^ suc d) i) ∙ even d)
    (λ (more : k < i). ap (λ x. x % 2) (div-eq_of_lt (pow_below k i more)))
    o)
    (cases_order i k)
  where
    even : (d : ℕ) → 2 ^ suc d % 2 ≡ 0
    even d = ap (λ x. x % 2) (pow-suc 2 d) ∙ mul-mod_left (2 ^ d) 2

-- one digit of `|` and of `&`
or_bit : (a b : ℕ) → a < 2 → b < 2 → bit_or a b ≡ 1 ↔ ((a ≡ 1) ⊎ (b ≡ 1))
or_bit zero zero _ _ = (λ e. inl e, ⊎_elim (λ e. e) (λ e. e))
or_bit zero (suc zero) _ _ = (λ e. inr refl, λ _. refl)
or_bit (suc zero) zero _ _ = (λ e. inl refl, λ _. refl)
or_bit (suc zero) (suc zero) _ _ = (λ e. inl refl, λ _. refl)
or_bit zero (suc (suc b)) _ h = absurd (omega arith)
or_bit (suc zero) (suc (suc b)) _ h = absurd (omega arith)
or_bit (suc (suc a)) b h _ = absurd (omega arith)

and_bit : (a b : ℕ) → a < 2 → b < 2 → bit_and a b ≡ 1 ↔ ((a ≡ 1) × (b ≡ 1))
and_bit zero zero _ _ = (λ e. (e, e), λ p. p.0)
and_bit zero (suc zero) _ _ = (λ e. (e, refl), λ p. p.0)
and_bit (suc zero) zero _ _ = (λ e. (refl, e), λ p. p.1)
and_bit (suc zero) (suc zero) _ _ = (λ e. (refl, refl), λ p. refl)
and_bit zero (suc (suc b)) _ h = absurd (omega arith)
and_bit (suc zero) (suc (suc b)) _ h = absurd (omega arith)
and_bit (suc (suc a)) b h _ = absurd (omega arith)

pub digit_or : (m n i : ℕ) → digit (bit_or m n) i ≡ 1 ↔ ((digit m i ≡ 1) ⊎ (digit n i ≡ 1))
unfolding digit
digit_or m n i =
    let e : bit_or m n / 2 ^ i % 2 ≡ bit_or (m / 2 ^ i % 2) (n / 2 ^ i % 2) = ap (λ x. x % 2) (or_shr m n i) ∙ or_mod (m / 2 ^ i) (n / 2 ^ i) 1 in
    let o = or_bit (m / 2 ^ i % 2) (n / 2 ^ i % 2) (mod_below _ 2 (omega arith)) (mod_below _ 2 (omega arith)) in
    (λ h. o.0 (sym e ∙ h), λ s. e ∙ o.1 s)

pub digit_and : (m n i : ℕ) → digit (bit_and m n) i ≡ 1 ↔ ((digit m i ≡ 1) × (digit n i ≡ 1))
unfolding digit
digit_and m n i =
    let e : bit_and m n / 2 ^ i % 2 ≡ bit_and (m / 2 ^ i % 2) (n / 2 ^ i % 2) = ap (λ x. x % 2) (and_shr m n i) ∙ and_mod (m / 2 ^ i) (n / 2 ^ i) 1 in
    let o = and_bit (m / 2 ^ i % 2) (n / 2 ^ i % 2) (mod_below _ 2 (omega arith)) (mod_below _ 2 (omega arith)) in
    (λ h. o.0 (sym e ∙ h), λ s. e ∙ o.1 s)

pub digit_with : (m k i : ℕ) → digit (bit_or m (2 ^ k)) i ≡ 1 ↔ ((digit m i ≡ 1) ⊎ (i ≡ k))
digit_with m k i =
    let o = digit_or m (2 ^ k) i in (
      λ h. ⊎_elim inl (λ s. inr (⊎_elim (λ e. e) (λ ne. absurd (omega (arith, sym s ∙ power_other k i ne))) (cases_eq i k))) (o.0 h),
      ⊎_elim (λ s. o.1 (inl s)) (λ e. o.1 (inr (subst (λ x. digit (2 ^ k) x ≡ 1) (sym e) (power_same k)))),
    )

-- the first digit, and the others
digit_first : (m : ℕ) → digit m 0 ≡ m % 2
unfolding digit
digit_first m = ap (λ x. x % 2) (div-one m)

digit_later : (m i : ℕ) → digit m (suc i) ≡ digit (m / 2) i
unfolding digit
digit_later m i = sym (ap (λ x. x % 2) (shr-shr m 1 i) ∙ ap (λ x. m / 2 ^ x % 2) (one-add i))

half_below : (k m : ℕ) → m < 2 ^ suc k → m / 2 < 2 ^ k
half_below k m h = shr_below m k 1 (subst (λ x. m < 2 ^ x) (sym (add-one k)) h)

-- t is the place of the lowest digit that is 1, and without it the others stay
pub record Lowest (k m t : ℕ) : Type 0 where
  pub below : t < k
  pub within : 2 ^ t ≤ m
  pub has : digit m t ≡ 1
  pub least : (i : ℕ) → i < t → digit m i ≡ 0
  pub gone : digit (m - 2 ^ t) t ≡ 0
  pub kept : (i : ℕ) → i ≢ t → digit (m - 2 ^ t) i ≡ digit m i

-- an odd number has its digit at 0
lowest_odd : (k m : ℕ) → m % 2 ≡ 1 → Lowest (suc k) m 0
lowest_odd k m odd = record {
  below = omega arith;
  within = omega arith;
  has = digit_first m ∙ odd;
  least = λ i h. absurd (omega arith);
  gone = digit_first (m - 1) ∙ omega arith;
  kept = kept;
}
  where
    kept : (i : ℕ) → i ≢ 0 → digit (m - 1) i ≡ digit m i
    kept zero ne = absurd (ne refl)
    kept (suc i) ne = digit_later (m - 1) i ∙ ap (λ x. digit x i) (let e : (m - 1) / 2 ≡ m / 2 = omega arith in e) ∙ sym (digit_later m i)

-- an even one has it one place after its half
lowest_even : (k m t : ℕ) → m % 2 ≡ 0 → Lowest k (m / 2) t → Lowest (suc k) m (suc t)
lowest_even k m t even h = record {
  below = omega (arith, h.below);
  within = omega (arith, pow-suc 2 t, h.within);
  has = digit_later m t ∙ h.has;
  least = least;
  gone = digit_later (m - 2 ^ suc t) t ∙ ap (λ x. digit x t) half ∙ h.gone;
  kept = kept;
}
  where
    half : (m - 2 ^ suc t) / 2 ≡ m / 2 - 2 ^ t
    half = omega (arith, pow-suc 2 t)

    least : (i : ℕ) → i < suc t → digit m i ≡ 0
    least zero l = digit_first m ∙ even
    least (suc i) l = digit_later m i ∙ h.least i (omega arith)

    kept : (i : ℕ) → i ≢ suc t → digit (m - 2 ^ suc t) i ≡ digit m i
    kept zero ne = digit_first (m - 2 ^ suc t) ∙ omega (arith, pow-suc 2 t) ∙ sym (digit_first m)
    kept (suc i) ne = digit_later (m - 2 ^ suc t) i ∙ ap (λ x. digit x i) half ∙ h.kept i (λ e. ne (ap suc e)) ∙ sym (digit_later m i)

pub lowest_digit : (k m : ℕ) → 0 < m → m < 2 ^ k → Lowest k m (count_trailing_zeros k m)
unfolding count_trailing_zeros
lowest_digit zero m some h = absurd (omega arith)
lowest_digit (suc k) m some h = cases (m % 2) refl (lowest_digit k (m / 2))
  where
    cases : (d : ℕ) → m % 2 ≡ d → (0 < m / 2 → m / 2 < 2 ^ k → Lowest k (m / 2) (count_trailing_zeros k (m / 2))) → Lowest (suc k) m (under d (count_trailing_zeros k (m / 2)))
    cases zero e half = lowest_even k m (count_trailing_zeros k (m / 2)) e (half (omega arith) (half_below k m h))
    cases (suc d) e half = lowest_odd k m (omega arith)
