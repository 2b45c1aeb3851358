-- Rounds that give distances to pairs: of one pair, of none, and of some after others.
use Rattle.std.proofs.Common.{◌≡◌, ℕ, zero, suc, ◌+◌, ◌-◌, ◌*◌, ◌<◌, ◌≤◌, ◌⊎◌, sym, refl, ap, ◌∙◌, subst, inl, inr, ⊎_elim, mul-suc, arith}
use native.Mathlib.Decide.{dec_lt}
use Rattle.automata.specs.Automata.{Automaton, WellFormed}
use Rattle.grading.specs.Measuring.{distance, unmeasured, Near, SomeNear, Given, Tries, Round}
use Rattle.grading.specs.Pairing.{total}
use Rattle.grading.specs.declared.distances.Distances.{Distances}
use Rattle.grading.proofs.Blanks.{total_same, total_fewer}

-- a sum of terms that are c at most, and of which one is less
pub total_most : (f : ℕ → ℕ) (c n : ℕ) → ((i : ℕ) → f i ≤ c) → total f n ≤ c * n
unfolding total
total_most f c zero h = omega arith
total_most f c (suc n) h = rw mul-suc (omega (arith, h n, total_most f c n h))

pub total_less : (f : ℕ → ℕ) (c n k : ℕ) → ((i : ℕ) → f i ≤ c) → k < n → f k < c → total f n < c * n
unfolding total
total_less f c zero k h l s = absurd (omega arith)
total_less f c (suc n) k h l s = rw mul-suc (cases (dec_lt k n) (λ d. total_less f c n k h d s))
  where
    cases : Dec (k < n) → (k < n → total f n < c * n) → f n + total f n < c * n + c
    cases (yes d) rest = omega (arith, h n, rest d)
    cases (no d) rest = let e : k ≡ n = omega arith in omega (arith, ap f e, s, total_most f c n h)

-- a pair without a distance gets one, and the others keep theirs
unmeasured_fewer : (d e : Distances) (p q : ℕ) → p < 32 → q < 32 → distance d p q ≡ 65535 → distance e p q < 65535 → ((r s : ℕ) → ((r ≡ p) × (s ≡ q)) ⊎ (distance e r s ≡ distance d r s)) → suc (unmeasured e) ≡ unmeasured d
unfolding unmeasured
unmeasured_fewer d e p q l k none small others = total_fewer (λ r. total (λ s. 1 - (65535 - distance d r s)) 32) (λ r. total (λ s. 1 - (65535 - distance e r s)) 32) 32 p l
    (total_fewer (λ s. 1 - (65535 - distance d p s)) (λ s. 1 - (65535 - distance e p s)) 32 q k (omega (arith, none)) (λ s ne. ⊎_elim (λ (_, f). absurd (ne f)) (ap (λ x. 1 - (65535 - x))) (others p s)))
    (λ r ne. total_same (λ s. 1 - (65535 - distance d r s)) (λ s. 1 - (65535 - distance e r s)) 32 (λ s _. ⊎_elim (λ (f, _). absurd (ne f)) (ap (λ x. 1 - (65535 - x))) (others r s)))

module _ (A : Automaton) (k : ℕ) (low : k < 1024) where
  pub round_none : (P : ℕ → ℕ → Type 0) (d : Distances) → ((p q : ℕ) → ¬ P p q) → Round A k P d d
  round_none P d none = record {
    each = λ p q l m. inl refl;
    all = λ p q l m h. absurd (none p q h);
    most = inl refl;
    load = λ h. omega arith;
  }

  -- a pair is tried
  pub round_one : (d e : Distances) (p q : ℕ) → p < A.states → q < A.states → A.states ≤ 32 → Tries A k d p q e → Round A k (λ r s. (r ≡ p) × (s ≡ q)) d e
  round_one d e p q l m small (inl g) = record {
    each = λ r s i j. ⊎_elim (λ (a, b). inr (at r s a b)) inl (g.others r s);
    all = λ r s i j (a, b) none. absurd (omega (arith, (at r s a b).next));
    most = inr (g.given.most, record { p = p; q = q; p_below = l; q_below = m; near = g.given.near });
    load = λ h. omega (arith, g.given.most, unmeasured_fewer d e p q (omega arith) (omega arith) g.given.none (omega (arith, g.given.next)) g.others);
  }
    where
      at : (r s : ℕ) → r ≡ p → s ≡ q → Given A k d e r s
      at r s a b = subst (λ r. Given A k d e r s) (sym a) (subst (Given A k d e p) (sym b) g.given)
  round_one d e p q l m small (inr (same, none)) = subst (Round A k (λ r s. (r ≡ p) × (s ≡ q)) d) (sym same) (record {
    each = λ r s i j. inl refl;
    all = λ r s i j (a, b) is near. none (omega (arith, ap (λ r. distance d r q) a, ap (distance d r) b, is)) (subst (λ r. Near A k d r q) a (subst (Near A k d r) b near));
    most = inl refl;
    load = λ h. omega arith;
  })

  -- which labels lead to a pair at k is as before
  module _ (f : WellFormed A) (P : ℕ → ℕ → Type 0) (d e : Distances) (g : Round A k P d e) (p q : ℕ) (l : p < A.states) (m : q < A.states) where
    same_at : (x y : ℕ) → x < A.states → y < A.states → (distance d x y ≡ k → distance e x y ≡ k) × (distance e x y ≡ k → distance d x y ≡ k)
    same_at x y i j = ⊎_elim (λ same. (λ h. same ∙ h, λ h. sym same ∙ h)) (λ n. (λ h. absurd (omega (arith, n.none)), λ h. absurd (omega (arith, n.next)))) (g.each x y i j)

    near_on : Near A k d p q → Near A k e p q
    near_on n = record { label = n.label; below = n.below; leads = (same_at (A.step p n.label) (A.step q n.label) (f.step p n.label l n.below) (f.step q n.label m n.below)).0 n.leads }

    near_back : Near A k e p q → Near A k d p q
    near_back n = record { label = n.label; below = n.below; leads = (same_at (A.step p n.label) (A.step q n.label) (f.step p n.label l n.below) (f.step q n.label m n.below)).1 n.leads }

  -- the pairs in either relation are tried
  pub round_more : WellFormed A → (P Q R : ℕ → ℕ → Type 0) (d e h : Distances) → Round A k P d e → Round A k Q e h → ((p q : ℕ) → p < A.states → q < A.states → R p q → P p q ⊎ Q p q) → Round A k R d h
  round_more f P Q R d e h g n either = record {
    each = λ p q l m. ⊎_elim (λ same. ⊎_elim (λ old. inl (same ∙ old)) (λ new. inr (kept p q new same)) (g.each p q l m)) (λ new. inr (moved p q l m new (g.each p q l m))) (n.each p q l m);
    all = λ p q l m r none. ⊎_elim (λ i. g.all p q l m i (was p q none (n.each p q l m))) (λ i near. n.all p q l m i none (near_on f P d e g p q l m near)) (either p q l m r);
    most = ⊎_elim (λ same. ⊎_elim (λ old. inl (same ∙ old)) (λ (is, some). inr (same ∙ is, some)) g.most) (λ (is, some). inr (is, back some)) n.most;
    load = λ i. omega (arith, g.load i, n.load (rises i g.most));
  }
    where
      most_kept : e.most ≡ k + 1 → (h.most ≡ e.most) ⊎ ((h.most ≡ k + 1) × SomeNear A k e) → h.most ≡ k + 1
      most_kept is (inl same) = same ∙ is
      most_kept is (inr (same, _)) = same

      kept : (p q : ℕ) → Given A k d e p q → distance h p q ≡ distance e p q → Given A k d h p q
      kept p q new same = record { none = new.none; near = new.near; next = same ∙ new.next; most = most_kept new.most n.most }

      moved : (p q : ℕ) → p < A.states → q < A.states → Given A k e h p q → (distance e p q ≡ distance d p q) ⊎ Given A k d e p q → Given A k d h p q
      moved p q l m new (inl same) = record { none = sym same ∙ new.none; near = near_back f P d e g p q l m new.near; next = new.next; most = new.most }
      moved p q l m new (inr old) = absurd (omega (arith, new.none, old.next))

      was : (p q : ℕ) → 65535 ≤ distance h p q → (distance h p q ≡ distance e p q) ⊎ Given A k e h p q → 65535 ≤ distance e p q
      was p q none (inl same) = omega arith
      was p q none (inr new) = omega (arith, new.none)

      back : SomeNear A k e → SomeNear A k d
      back s = record { p = s.p; q = s.q; p_below = s.p_below; q_below = s.q_below; near = near_back f P d e g s.p s.q s.p_below s.q_below s.near }

      rises : k ≤ d.most → (e.most ≡ d.most) ⊎ ((e.most ≡ k + 1) × SomeNear A k d) → k ≤ e.most
      rises i (inl same) = omega arith
      rises i (inr (is, _)) = omega arith

  -- no other pair of states is in the relation
  pub round_within : (P R : ℕ → ℕ → Type 0) (d e : Distances) → ((p q : ℕ) → p < A.states → q < A.states → R p q → P p q) → Round A k P d e → Round A k R d e
  round_within P R d e there g = record { each = g.each; all = λ p q l m r. g.all p q l m (there p q l m r); most = g.most; load = g.load }
