-- Lists of one value, and rows of rows after a write.
use Rattle.std.proofs.Common.{◌≡◌, ℕ, zero, suc, ◌<◌, ◌⊎◌, List, [], length, get_or, set, replicate, sym, ap, ◌∙◌, subst, inl, inr, get_or-set_other, get_or-set_same}
use native.Mathlib.Decide.{ℕ_discrete}

-- what holds of the value and of the default holds at every place
pub replicated : {X : Type 0} (P : X → Type 0) (n i : ℕ) (x d : X) → P x → P d → P (get_or (replicate n x) i d)
replicated P zero i x d h k = k
replicated P (suc n) zero x d h k = h
replicated P (suc n) (suc i) x d h k = replicated P n i x d h k

module _ {X : Type 0} (d : X) (rows : List (List X)) (p q : ℕ) (x : X) (tall : p < length rows) (wide : q < length (get_or rows p [])) where
  -- after a write each cell is as it was, or is the one written
  pub cell_others : (r s : ℕ) → ((r ≡ p) × (s ≡ q)) ⊎ (get_or (get_or (set rows p (set (get_or rows p []) q x)) r []) s d ≡ get_or (get_or rows r []) s d)
  cell_others r s = cases (ℕ_discrete r p) (ℕ_discrete s q)
    where
      cases : Dec (r ≡ p) → Dec (s ≡ q) → ((r ≡ p) × (s ≡ q)) ⊎ (get_or (get_or (set rows p (set (get_or rows p []) q x)) r []) s d ≡ get_or (get_or rows r []) s d)
      cases (yes e) (yes f) = inl (e, f)
      cases (yes e) (no f) = inr (subst (λ r. get_or (get_or (set rows p (set (get_or rows p []) q x)) r []) s d ≡ get_or (get_or rows r []) s d) (sym e) (ap (λ y. get_or y s d) (get_or-set_same rows p (set (get_or rows p []) q x) [] tall) ∙ get_or-set_other (get_or rows p []) q s x d f))
      cases (no e) f = inr (ap (λ y. get_or y s d) (get_or-set_other rows p r (set (get_or rows p []) q x) [] e))

  pub cell_here : get_or (get_or (set rows p (set (get_or rows p []) q x)) p []) q d ≡ x
  cell_here = ap (λ y. get_or y q d) (get_or-set_same rows p (set (get_or rows p []) q x) [] tall) ∙ get_or-set_same (get_or rows p []) q x d wide
