-- A table written place by place, its states numbered as they are met.
use Rattle.std.proofs.Common.{◌≡◌, ℕ, ◌+◌, ◌*◌, ◌<◌, ◌≤◌, cond, ltb, ◌⊎◌, sym, ap, ◌∙◌, subst, inl, inr, arith, le-ltb, lt-ltb}
use native.Mathlib.Decide.{dec_lt}
use Rattle.automata.specs.Automata.{Automaton, run}
use Rattle.automata.specs.States.{Differ, Equivalent}
use Rattle.automata.proofs.Pigeonhole.{Repeats, pigeonhole}
use Rattle.grading.specs.Drafts.{Origin, Building}

-- the first 32 values of o, and then t
abbrev with_last : (ℕ → ℕ) → ℕ → ℕ → ℕ
with_last o t k = cond (ltb k 32) (o k) t

module _ (A : Automaton) where
  pub not_differ_same : (p q : ℕ) → p ≡ q → Differ A p q → ⊥
  not_differ_same p q e d = d.differ (ap (λ x. A.yes (run A x d.by)) e)

  pub building_begun : (o : ℕ → ℕ) (T : ℕ → ℕ → ℕ) → o 0 ≡ A.start → A.start < A.states → Building A o 1 T 0
  building_begun o T e h = record {
    first = e;
    some = omega arith;
    within = omega arith;
    below = λ k l. let z : 0 ≡ k = omega arith in subst (λ x. o x < A.states) z (subst (λ x. x < A.states) (sym e) h);
    apart = λ j k l i. absurd (omega arith);
    inside = λ r b l i. absurd (omega arith);
    follows = λ r b l i. absurd (omega arith);
    met = λ r b v l i. absurd (omega arith);
    origin = λ v l i. absurd (omega arith);
  }

  -- the places of the row i are written
  pub building_row : A.labels ≤ 16 → (o : ℕ → ℕ) (m : ℕ) (T : ℕ → ℕ → ℕ) (i : ℕ) → i < m → Building A o m T (16 * i + A.labels) → Building A o m T (16 * (i + 1))
  building_row narrow o m T i h b = record {
    first = b.first;
    some = b.some;
    within = omega arith;
    below = b.below;
    apart = b.apart;
    inside = λ r a l k. b.inside r a l (omega arith);
    follows = λ r a l k. b.follows r a l (omega arith);
    met = λ r a v l k. b.met r a v l (omega arith);
    origin = λ v l k. origin v (b.origin v l k);
  }
    where
      origin : (v : ℕ) → (x : Origin A T (16 * i + A.labels) v) × (x.row < v) → (x : Origin A T (16 * (i + 1)) v) × (x.row < v)
      origin v (x, l) = (record { row = x.row; label = x.label; below = x.below; before = omega (arith, x.before, narrow); is = x.is }, l)

  -- other targets that are the same at the places before n
  pub building_as : (o : ℕ → ℕ) (m : ℕ) (T T' : ℕ → ℕ → ℕ) (n : ℕ) → ((r b : ℕ) → b < A.labels → 16 * r + b < n → T' r b ≡ T r b) → Building A o m T n → Building A o m T' n
  building_as o m T T' n same h = record {
    first = h.first;
    some = h.some;
    within = h.within;
    below = h.below;
    apart = h.apart;
    inside = λ r b l k. subst (λ x. x < m) (sym (same r b l k)) (h.inside r b l k);
    follows = λ r b l k. subst (λ x. Equivalent A (A.step (o r) b) (o x)) (sym (same r b l k)) (h.follows r b l k);
    met = λ r b v l k z j. origin_as (16 * r + b) v (omega arith) (h.met r b v l k z (subst (λ x. v < x) (same r b l k) j));
    origin = λ v z l. let y = h.origin v z l in (origin_as n v (omega arith) y.0, y.1);
  }
    where
      origin_as : (k v : ℕ) → k ≤ n → Origin A T k v → Origin A T' k v
      origin_as k v l y = record { row = y.row; label = y.label; below = y.below; before = y.before; is = same y.row y.label y.below (omega (arith, y.before)) ∙ y.is }

  -- there is a number left for a state that differs from all that are numbered
  pub room : (o : ℕ → ℕ) (m : ℕ) (T : ℕ → ℕ → ℕ) (n t : ℕ) → Building A o m T n → A.states ≤ 32 → t < A.states → ((j : ℕ) → j < m → Differ A (o j) t) → m < 32
  room o m T n t b small h fresh = cases (dec_lt m 32)
    where
      f_old : (k : ℕ) → k < 32 → with_last o t k ≡ o k
      f_old k l = ap (λ x. cond x (o k) t) (lt-ltb k 32 l)

      f_new : (k : ℕ) → 32 ≤ k → with_last o t k ≡ t
      f_new k l = ap (λ x. cond x (o k) t) (le-ltb k 32 l)

      f_below : 32 ≤ m → (k : ℕ) → k ≤ 32 → Dec (k < 32) → with_last o t k < 32
      f_below l k i (yes j) = omega (arith, f_old k j, b.below k (omega arith))
      f_below l k i (no j) = omega (arith, f_new k (omega arith))

      clash : 32 ≤ m → (r : Repeats (with_last o t) 32) → Dec (r.late < 32) → ⊥
      clash l r (yes j) = not_differ_same (o r.early) (o r.late) (sym (f_old r.early (omega (arith, r.order))) ∙ r.same ∙ f_old r.late j) (b.apart r.early r.late r.order (omega arith))
      clash l r (no j) = not_differ_same (o r.early) t (sym (f_old r.early (omega (arith, r.order, r.within))) ∙ r.same ∙ f_new r.late (omega arith)) (fresh r.early (omega (arith, r.order, r.within)))

      cases : Dec (m < 32) → m < 32
      cases (yes l) = l
      cases (no l) = let r = pigeonhole 32 (with_last o t) (λ k i. f_below (omega arith) k i (dec_lt k 32)) in absurd (clash (omega arith) r (dec_lt r.late 32))

-- one place more, i, a, is written: the number x, which may be new
module _ (A : Automaton) (narrow : A.labels ≤ 16) (o o' : ℕ → ℕ) (m m' : ℕ) (T T' : ℕ → ℕ → ℕ) (i a x : ℕ)
    (h : Building A o m T (16 * i + a)) (row : i < m) (label : a < A.labels)
    (more : m ≤ m') (kept : (k : ℕ) → k < m → o' k ≡ o k) (named : x < m') (low : x ≤ m) (like : Equivalent A (A.step (o i) a) (o' x))
    (below : (k : ℕ) → k < m' → o' k < A.states) (apart : (j k : ℕ) → j < k → k < m' → Differ A (o' j) (o' k))
    (next : (v : ℕ) → m ≤ v → v < m' → v ≡ x)
    (here : T' i a ≡ x) (others : (r b : ℕ) → ((r ≡ i) × (b ≡ a)) ⊎ (T' r b ≡ T r b)) where
  frame : (r b : ℕ) → 16 * r + b < 16 * i + a → T' r b ≡ T r b
  frame r b l = cases (others r b)
    where
      cases : ((r ≡ i) × (b ≡ a)) ⊎ (T' r b ≡ T r b) → T' r b ≡ T r b
      cases (inl (e, f)) = absurd (omega arith)
      cases (inr e) = e

  origin_kept : (n n' v : ℕ) → n ≤ 16 * i + a → n ≤ n' → (y : Origin A T n v) → Origin A T' n' v
  origin_kept n n' v l k y = record { row = y.row; label = y.label; below = y.below; before = omega (arith, y.before); is = frame y.row y.label (omega (arith, y.before)) ∙ y.is }

  -- a place within is the last one, or one before
  last : (r b : ℕ) → b < A.labels → 16 * r + b < 16 * i + (a + 1) → Dec (16 * r + b < 16 * i + a) → (16 * r + b < 16 * i + a) ⊎ ((i ≡ r) × (a ≡ b))
  last r b l k (yes j) = inl j
  last r b l k (no j) = inr (omega arith, omega arith)

  at : (r b : ℕ) → b < A.labels → 16 * r + b < 16 * i + (a + 1) → (16 * r + b < 16 * i + a) ⊎ ((i ≡ r) × (a ≡ b))
  at r b l k = last r b l k (dec_lt (16 * r + b) (16 * i + a))

  inside : (r b : ℕ) → b < A.labels → (16 * r + b < 16 * i + a) ⊎ ((i ≡ r) × (a ≡ b)) → T' r b < m'
  inside r b l (inl k) = omega (arith, frame r b k, h.inside r b l k)
  inside r b l (inr (e, f)) = subst (λ r. T' r b < m') e (subst (λ b. T' i b < m') f (omega (arith, here)))

  follows : (r b : ℕ) → b < A.labels → (16 * r + b < 16 * i + a) ⊎ ((i ≡ r) × (a ≡ b)) → Equivalent A (A.step (o' r) b) (o' (T' r b))
  follows r b l (inl k) =
      let there : r < m = omega (arith, h.within) in
      let to : o' (T' r b) ≡ o (T r b) = ap o' (frame r b k) ∙ kept (T r b) (h.inside r b l k) in
      subst (λ y. Equivalent A (A.step y b) (o' (T' r b))) (sym (kept r there)) (subst (Equivalent A (A.step (o r) b)) (sym to) (h.follows r b l k))
  follows r b l (inr (e, f)) =
      subst (λ r. Equivalent A (A.step (o' r) b) (o' (T' r b))) e (subst (λ b. Equivalent A (A.step (o' i) b) (o' (T' i b))) f
      (subst (λ y. Equivalent A (A.step y a) (o' (T' i a))) (sym (kept i row)) (subst (λ z. Equivalent A (A.step (o i) a) (o' z)) (sym here) like)))

  met : (r b v : ℕ) → b < A.labels → 0 < v → v < T' r b → (16 * r + b < 16 * i + a) ⊎ ((i ≡ r) × (a ≡ b)) → Origin A T' (16 * r + b) v
  met r b v l z k (inl j) = origin_kept (16 * r + b) (16 * r + b) v (omega arith) (omega arith) (h.met r b v l j z (omega (arith, frame r b j)))
  met r b v l z k (inr (e, f)) =
      let y : T' r b ≡ x = sym (ap (λ r. T' r b) e) ∙ sym (ap (T' i) f) ∙ here in
      origin_kept (16 * i + a) (16 * r + b) v (omega arith) (omega arith) (h.origin v z (omega (arith, y, low))).0

  origin : (v : ℕ) → 0 < v → v < m' → Dec (v < m) → (y : Origin A T' (16 * i + (a + 1)) v) × (y.row < v)
  unfolding origin_kept
  origin v z l (yes k) =
      let y = h.origin v z k in
      (origin_kept (16 * i + a) (16 * i + (a + 1)) v (omega arith) (omega arith) y.0, y.1)
  origin v z l (no k) = (record { row = i; label = a; below = label; before = omega arith; is = here ∙ sym (next v (omega arith) l) }, omega arith)

  pub building_more : Building A o' m' T' (16 * i + (a + 1))
  building_more = record {
    first = kept 0 h.some ∙ h.first;
    some = omega (arith, h.some);
    within = omega (arith, h.within);
    below = below;
    apart = apart;
    inside = λ r b l k. inside r b l (at r b l k);
    follows = λ r b l k. follows r b l (at r b l k);
    met = λ r b v l k z j. met r b v l z j (at r b l k);
    origin = λ v z l. origin v z l (dec_lt v m);
  }
