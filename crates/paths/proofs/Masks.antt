-- Sets as numbers: a read, a position more, and when two are equal.
use Rattle.std.proofs.Common.{◌≡◌, ℕ, zero, suc, ◌+◌, ◌-◌, ◌*◌, ◌/◌, ◌%◌, ◌^◌, ◌<◌, ◌≢◌, ◌⊎◌, ◌↔◌, sym, refl, ap, ◌∙◌, subst, inl, inr, ⊎_elim, pow-suc, div-one, add-one, one-add, arith, pow_mono}
use native.Mathlib.Nat.{div-eq_of_lt, mul-mod_left}
use lib.Bits.{bit_or}
use Rattle.std.proofs.lemmas.Nat.{pow_below, pow-add, shl-shr, shr-shr, or_shr, or_mod, mod_below, shr_below}
use Rattle.std.proofs.lemmas.Bool.{cases_order, cases_eq}
use Rattle.paths.specs.Positions.{Holds}

-- position i alone is in the set 2 ^ i
power_same : (i : ℕ) → Holds (2 ^ i) i
power_same i = ap (λ x. x / 2 ^ i % 2) (let e : 2 ^ i ≡ 1 * 2 ^ i = omega arith in e) ∙ ap (λ x. x % 2) (shl-shr 1 i)

power_other : (k i : ℕ) → i ≢ k → 2 ^ k / 2 ^ i % 2 ≡ 0
power_other k i ne = ⊎_elim
    (λ e. absurd (ne e))
    (λ o. ⊎_elim
    (λ (less : i < k).
    let d : ℕ = k - i - 1 in
    let e : k ≡ suc d + i = omega arith in
    ap (λ x. 2 ^ x / 2 ^ i % 2) e ∙ ap (λ x. x / 2 ^ i % 2) (pow-add 2 (suc d) i) ∙ ap (λ x. x % 2) (shl-shr (2 ^ suc d) i) ∙ even d)
    (λ (more : k < i). ap (λ x. x % 2) (div-eq_of_lt (pow_below k i more)))
    o)
    (cases_order i k)
  where
    even : (d : ℕ) → 2 ^ suc d % 2 ≡ 0
    even d = ap (λ x. x % 2) (pow-suc 2 d) ∙ mul-mod_left (2 ^ d) 2

or_bit : (a b : ℕ) → a < 2 → b < 2 → bit_or a b ≡ 1 ↔ ((a ≡ 1) ⊎ (b ≡ 1))
or_bit zero zero _ _ = (λ e. inl e, ⊎_elim (λ e. e) (λ e. e))
or_bit zero (suc zero) _ _ = (λ e. inr refl, λ _. refl)
or_bit (suc zero) zero _ _ = (λ e. inl refl, λ _. refl)
or_bit (suc zero) (suc zero) _ _ = (λ e. inl refl, λ _. refl)
or_bit zero (suc (suc b)) _ h = absurd (omega arith)
or_bit (suc zero) (suc (suc b)) _ h = absurd (omega arith)
or_bit (suc (suc a)) b h _ = absurd (omega arith)

or_holds : (m n i : ℕ) → Holds (bit_or m n) i ↔ (Holds m i ⊎ Holds n i)
or_holds m n i =
    let e : bit_or m n / 2 ^ i % 2 ≡ bit_or (m / 2 ^ i % 2) (n / 2 ^ i % 2) = ap (λ x. x % 2) (or_shr m n i) ∙ or_mod (m / 2 ^ i) (n / 2 ^ i) 1 in
    let o = or_bit (m / 2 ^ i % 2) (n / 2 ^ i % 2) (mod_below _ 2 (omega arith)) (mod_below _ 2 (omega arith)) in
    (λ h. o.0 (sym e ∙ h), λ s. e ∙ o.1 s)

-- the set m and position k
pub with_holds : (m k i : ℕ) → Holds (bit_or m (2 ^ k)) i ↔ (Holds m i ⊎ (i ≡ k))
with_holds m k i =
    let o = or_holds m (2 ^ k) i in (
      λ h. ⊎_elim inl (λ s. inr (⊎_elim (λ e. e) (λ ne. absurd (omega (arith, sym s ∙ power_other k i ne))) (cases_eq i k))) (o.0 h),
      ⊎_elim (λ s. o.1 (inl s)) (λ e. o.1 (inr (subst (λ x. Holds (2 ^ k) x) (sym e) (power_same k)))),
    )

-- the rest of a set, behind its first position
tail_holds : (m j : ℕ) → m / 2 / 2 ^ j % 2 ≡ m / 2 ^ suc j % 2
tail_holds m j = ap (λ x. x % 2) (shr-shr m 1 j) ∙ ap (λ x. m / 2 ^ x % 2) (one-add j)

tail_below : (k m : ℕ) → m < 2 ^ suc k → m / 2 < 2 ^ k
tail_below k m h = shr_below m k 1 (subst (λ x. m < 2 ^ x) (sym (add-one k)) h)

same_bit : (x y : ℕ) → x < 2 → y < 2 → x ≡ 1 ↔ y ≡ 1 → x ≡ y
same_bit zero zero _ _ _ = refl
same_bit zero (suc y) _ h o = let e : suc y ≡ 1 = omega arith in o.1 e ∙ sym e
same_bit (suc x) y h _ o = let e : suc x ≡ 1 = omega arith in e ∙ sym (o.0 e)

-- sets with the same positions are equal
same_below : (k m n : ℕ) → m < 2 ^ k → n < 2 ^ k → ((j : ℕ) → Holds m j ↔ Holds n j) → m ≡ n
same_below zero m n h l same = omega arith
same_below (suc k) m n h l same =
    let rest : m / 2 ≡ n / 2 = same_below k (m / 2) (n / 2) (tail_below k m h) (tail_below k n l) (λ j. (λ e. tail_holds n j ∙ (same (suc j)).0 (sym (tail_holds m j) ∙ e), λ e. tail_holds m j ∙ (same (suc j)).1 (sym (tail_holds n j) ∙ e))) in
    let first : m % 2 ≡ n % 2 = same_bit (m % 2) (n % 2) (mod_below m 2 (omega arith)) (mod_below n 2 (omega arith)) (subst (λ x. x % 2 ≡ 1 ↔ n % 2 ≡ 1) (div-one m) (subst (λ x. m / 1 % 2 ≡ 1 ↔ x % 2 ≡ 1) (div-one n) (same 0))) in
    omega arith

below_power : (n : ℕ) → n < 2 ^ n
below_power zero = omega arith
below_power (suc n) = omega (arith, below_power n, pow-suc 2 n)

pub same_set : (m n : ℕ) → ((j : ℕ) → Holds m j ↔ Holds n j) → m ≡ n
same_set m n same =
    same_below (m + n) m n
    (omega (arith, below_power m, pow_mono {i = m} {j = m + n} (omega arith)))
    (omega (arith, below_power n, pow_mono {i = n} {j = m + n} (omega arith)))
    same
