-- What a path means, label by label from the front.
use Rattle.std.proofs.Common.{◌≡◌, ℕ, Bool, true, false, ◌⊎◌, List, [], ◌∷◌, ◌++◌, sym, refl, ap, ◌∙◌, subst, inl, inr, arith}
use Rattle.std.proofs.lemmas.Bool.{both_ways}
use Rattle.paths.specs.declared.path.Step.{Step}
use Rattle.paths.specs.Meanings.{fits, Means}

-- no step means the empty list
pub means_some : (s : Step) (ss : List Step) → Means (s ∷ ss) [] → ⊥
means_some s ss (u, v, e, one, rest) = empty one.skipped (e ∙ ap (λ x. x ++ v) one.whole)
  where
    empty : (k : List ℕ) → [] ≡ (k ++ one.last ∷ []) ++ v → ⊥
    empty [] d = let z : ◌≡◌ {A = ℕ} 0 1 = cc in omega arith
    empty (b ∷ k) d = let z : ◌≡◌ {A = ℕ} 0 1 = cc in omega arith

-- the first label is the step's last, or one that it skips
pub means_first : (s : Step) (ss : List Step) (a : ℕ) (w : List ℕ) → Means (s ∷ ss) (a ∷ w) → ((fits s.test a ≡ true) × Means ss w) ⊎ ((s.descend ≡ true) × Means (s ∷ ss) w)
means_first s ss a w (u, v, e, one, rest) = cases one.skipped one.child (e ∙ ap (λ x. x ++ v) one.whole) s.descend refl
  where
    cases : (k : List ℕ) → (s.descend ≡ false → k ≡ []) → a ∷ w ≡ (k ++ one.last ∷ []) ++ v → (d : Bool) → s.descend ≡ d → ((fits s.test a ≡ true) × Means ss w) ⊎ ((s.descend ≡ true) × Means (s ∷ ss) w)
    cases [] child d b is =
        let first : a ≡ one.last = cc in
        let after : w ≡ v = cc in
        inl (ap (fits s.test) first ∙ one.fit, subst (Means ss) (sym after) rest)
    cases (x ∷ k) child d true is =
        let after : w ≡ (k ++ one.last ∷ []) ++ v = cc in
        inr (is, (k ++ one.last ∷ [], v, after, record { skipped = k; last = one.last; whole = refl; fit = one.fit; child = λ no. absurd (both_ways s.descend no is) }, rest))
    cases (x ∷ k) child d false is = let z : ◌≡◌ {A = ℕ} 0 1 = cc (child is) in absurd (omega arith)

pub means_fit : (s : Step) (ss : List Step) (a : ℕ) (w : List ℕ) → fits s.test a ≡ true → Means ss w → Means (s ∷ ss) (a ∷ w)
means_fit s ss a w fit rest = (a ∷ [], w, refl, record { skipped = []; last = a; whole = refl; fit = fit; child = λ _. refl }, rest)

pub means_skip : (s : Step) (ss : List Step) (a : ℕ) (w : List ℕ) → s.descend ≡ true → Means (s ∷ ss) w → Means (s ∷ ss) (a ∷ w)
means_skip s ss a w is (u, v, e, one, rest) =
    (a ∷ u, v, ap (λ x. a ∷ x) e, record { skipped = a ∷ one.skipped; last = one.last; whole = ap (λ x. a ∷ x) one.whole; fit = one.fit; child = λ no. absurd (both_ways s.descend no is) }, rest)
