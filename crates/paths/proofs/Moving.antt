-- Where labels lead from a set, by computing.
use Rattle.std.proofs.Common.{◌≡◌, ℕ, zero, suc, ◌+◌, ◌/◌, ◌%◌, ◌^◌, Bool, true, false, cond, eqb, ◌⊎◌, ◌↔◌, List, [], ◌∷◌, length, sym, refl, ap, ◌∙◌, subst, inl, inr, ⊎_elim, add-one, arith, pow_pos}
use native.Mathlib.Nat.{div-eq_of_lt}
use lib.Bits.{bit_or}
use Rattle.std.proofs.lemmas.Bool.{eqb-true, eqb-false, false≢true}
use Rattle.automata.specs.Automata.{Word}
use Rattle.paths.specs.declared.path.Step.{Step}
use Rattle.paths.specs.Positions.{Holds, keeps, takes, Goes, Moved, Reached, by_label}
use Rattle.paths.proofs.Masks.{with_holds}
use Rattle.paths.proofs.Moves.{From, from_skip, from_take, from_all}

-- the set m, and position j too where b
abbrev joined : ℕ → ℕ → Bool → ℕ
joined m j b = cond b (bit_or m (2 ^ j)) m

joined_holds : (m j : ℕ) (b : Bool) (i : ℕ) → Holds (joined m j b) i ↔ (Holds m i ⊎ ((i ≡ j) × (b ≡ true)))
joined_holds m j true i = let o = with_holds m j i in (λ h. ⊎_elim inl (λ e. inr (e, refl)) (o.0 h), ⊎_elim (λ h. o.1 (inl h)) (λ p. o.1 (inr p.0)))
joined_holds m j false i = (inl, ⊎_elim (λ h. h) (λ p. absurd (false≢true p.1)))

-- where the label leads from the positions of m below j
abbrev move_below : List Step → ℕ → ℕ → ℕ → ℕ
move_below steps a m zero = 0
move_below steps a m (suc j) = cond (eqb (m / 2 ^ j % 2) 1) (joined (joined (move_below steps a m j) j (keeps steps j)) (suc j) (takes steps a j)) (move_below steps a m j)

abbrev pub move : List Step → ℕ → ℕ → ℕ
move steps a m = move_below steps a m (length steps)

module _ (steps : List Step) (a m : ℕ) where
  joined_goes : (n j i : ℕ) → Holds (joined (joined n j (keeps steps j)) (suc j) (takes steps a j)) i ↔ (Holds n i ⊎ Goes steps a j i)
  joined_goes n j i =
      let kept = joined_holds n j (keeps steps j) i in
      let taken = joined_holds (joined n j (keeps steps j)) (suc j) (takes steps a j) i in (
        λ h. ⊎_elim (λ k. ⊎_elim inl (λ p. inr (inl p)) (kept.0 k)) (λ p. inr (inr p)) (taken.0 h),
        ⊎_elim (λ h. taken.1 (inl (kept.1 (inl h)))) (⊎_elim (λ p. taken.1 (inl (kept.1 (inr p)))) (λ p. taken.1 (inr p))),
      )

  from_below : (j : ℕ) → From steps a m j (move_below steps a m j)
  from_below zero = λ i. (
    λ h. let none : 0 / 2 ^ i ≡ 0 = div-eq_of_lt (pow_pos i) in absurd (omega (arith, sym h ∙ ap (λ x. x % 2) none)),
    λ o. absurd (omega (arith, o.1)),
  )
  from_below (suc j) = subst (λ k. From steps a m k (move_below steps a m (suc j))) (add-one j) (next (eqb (m / 2 ^ j % 2) 1) refl (from_below j))
    where
      next : (b : Bool) → eqb (m / 2 ^ j % 2) 1 ≡ b → From steps a m j (move_below steps a m j) → From steps a m (j + 1) (cond b (joined (joined (move_below steps a m j) j (keeps steps j)) (suc j) (takes steps a j)) (move_below steps a m j))
      next true e before = from_take steps a m j _ _ before (eqb-true _ 1 e) (joined_goes (move_below steps a m j) j)
      next false e before = from_skip steps a m j _ before (eqb-false _ 1 e)

  pub moved_move : Moved steps a m (move steps a m)
  moved_move = from_all steps a m _ (from_below (length steps))

-- where a list of labels leads
abbrev pub moves : List Step → List ℕ → ℕ → ℕ
moves steps [] m = m
moves steps (a ∷ w) m = moves steps w (move steps a m)

pub reached_moves : (steps : List Step) (n : ℕ) (w : List ℕ) (m : ℕ) → Word n w → Reached steps n m → Reached steps n (moves steps w m)
reached_moves steps n [] m word r = r
reached_moves steps n (a ∷ w) m (l, word) r = reached_moves steps n w (move steps a m) word (by_label r l (moved_move steps a m))
