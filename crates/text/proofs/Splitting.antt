-- Lemmas on bytes split at a separator.
use Rattle.std.proofs.Common.{◌≡◌, ℕ, zero, suc, ◌+◌, ◌<◌, ◌==◌, Bool, true, false, cond, List, [], ◌∷◌, Some, None, MatchOption, length, get_or, take, drop, nat_lt, position, refl, ap, ◌∙◌, add-one, arith}
use Rattle.std.specs.List.{position_or_len}
use Rattle.std.proofs.lemmas.Bool.{eq-eqb, ne_eqb, cond-true, cond-false, ltb-true, ltb-false, eqb-true, eqb-false}
use Rattle.std.proofs.lemmas.List.Sums.{fails_before_first, passes_at_first}
use Rattle.text.specs.Pieces.{last, next, begin, split}

-- no separator stands below n
abbrev pub Clear : ℕ → List ℕ → ℕ → Type 0
Clear sep s n = (k : ℕ) → k < n → get_or s k 0 ≡ sep → ⊥

clear_head : (sep b : ℕ) (s : List ℕ) (n : ℕ) → Clear sep (b ∷ s) (suc n) → split sep (b ∷ s) ≡ begin b (split sep s)
clear_head sep b s n h = cond-false _ _ _ (ne_eqb b sep (h 0 (omega arith)))

pub split_none : (sep : ℕ) (s : List ℕ) → Clear sep s (length s) → split sep s ≡ last s
split_none sep [] h = refl
split_none sep (b ∷ s) h = clear_head sep b s _ h ∙ ap (begin b) (split_none sep s (λ k l. h (suc k) (omega arith)))

split_suc : (sep : ℕ) (s : List ℕ) (n : ℕ) → n < length s → get_or s n 0 ≡ sep → Clear sep s n → split sep s ≡ next (take n s) (split sep (drop (suc n) s))
split_suc sep [] n l e h = absurd (omega arith)
split_suc sep (b ∷ s) zero l e h = cond-true _ _ _ (eq-eqb b sep e)
split_suc sep (b ∷ s) (suc n) l e h =
    clear_head sep b s n h ∙ ap (begin b) (split_suc sep s n (omega arith) e (λ k l. h (suc k) (omega arith)))

pub split_at : (sep : ℕ) (s : List ℕ) (n : ℕ) → n < length s → get_or s n 0 ≡ sep → Clear sep s n → split sep s ≡ next (take n s) (split sep (drop (n + 1) s))
split_at sep s n l e h = rw add-one (split_suc sep s n l e h)

module _ (sep : ℕ) (s : List ℕ) where
  abbrev ends : ℕ → Bool
  ends b = b == sep

  split_found : (b : Bool) → nat_lt (position_or_len ends s) (length s) ≡ b → MatchOption (cond b (Some (position_or_len ends s)) None) (split sep s ≡ last s) (λ n. (n < length s) × (split sep s ≡ next (take n s) (split sep (drop (n + 1) s))))
  split_found true e =
      let n = position_or_len ends s in
      let low = ltb-true _ _ e in
      (low, split_at sep s n low (eqb-true _ _ (passes_at_first ends s 0 low)) (λ k h. eqb-false _ _ (fails_before_first ends s k 0 h)))
  split_found false e =
      split_none sep s (λ k h. eqb-false _ _ (fails_before_first ends s k 0 (omega (arith, h, ltb-false _ _ e))))

  -- the first separator ends the first piece
  pub split_by_position : MatchOption (position (λ b. b == sep) s) (split sep s ≡ last s) (λ n. (n < length s) × (split sep s ≡ next (take n s) (split sep (drop (n + 1) s))))
  split_by_position = split_found _ refl
