-- Where a label leads from a set, position by position.
use Rattle.std.proofs.Common.{◌≡◌, ℕ, ◌+◌, ◌<◌, false, ◌⊎◌, ◌↔◌, List, length, get_or, sym, ap, ◌∙◌, subst, inl, inr, ⊎_elim, arith}
use Rattle.std.proofs.lemmas.List.{get_or-map}
use Rattle.paths.specs.Meanings.{fits}
use Rattle.std.proofs.lemmas.Bool.{cases_lt}
use Rattle.paths.specs.declared.path.Step.{Step}
use Rattle.paths.specs.Positions.{Holds, keeps, takes, StepGoes, Goes, Moved}
use Rattle.paths.proofs.Follow.{goes_before}
use Rattle.paths.proofs.Masks.{same_set}

-- where a label leads from position j, by the step behind it
pub goes_by : (steps : List Step) (a j : ℕ) (d : Step) → j < length steps → (i : ℕ) → StepGoes (get_or steps j d) a j i ↔ Goes steps a j i
goes_by steps a j d in' i =
    let keep : keeps steps j ≡ (get_or steps j d).descend = get_or-map (λ s. s.descend) steps j d false in' in
    let take : takes steps a j ≡ fits (get_or steps j d).test a = get_or-map (λ s. fits s.test a) steps j d false in' in (
      ⊎_elim (λ o. inl (o.0, keep ∙ o.1)) (λ o. inr (o.0, take ∙ o.1)),
      ⊎_elim (λ o. inl (o.0, sym keep ∙ o.1)) (λ o. inr (o.0, sym take ∙ o.1)),
    )

module _ (steps : List Step) (a m : ℕ) where
  -- n holds the positions that are led to from those of m below j
  abbrev pub From : ℕ → ℕ → Type 0
  From j n = (i : ℕ) → Holds n i ↔ ((k : ℕ) × (k < j) × Holds m k × Goes steps a k i)

  pub from_skip : (j n : ℕ) → From j n → (Holds m j → ⊥) → From (j + 1) n
  from_skip j n h out i = (
    λ s. let o = (h i).0 s in (o.0, omega (arith, o.1), o.2, o.3),
    λ o. ⊎_elim
        (λ less. (h i).1 (o.0, less, o.2, o.3))
        (λ more. let e : o.0 ≡ j = omega (arith, o.1) in absurd (out (subst (Holds m) e o.2)))
        (cases_lt o.0 j),
  )

  pub from_take : (j n l : ℕ) → From j n → Holds m j → ((i : ℕ) → Holds l i ↔ (Holds n i ⊎ Goes steps a j i)) → From (j + 1) l
  from_take j n l h in' more i = (
    λ s. ⊎_elim (λ t. let o = (h i).0 t in (o.0, omega (arith, o.1), o.2, o.3)) (λ g. (j, omega arith, in', g)) ((more i).0 s),
    λ o. ⊎_elim
        (λ less. (more i).1 (inl ((h i).1 (o.0, less, o.2, o.3))))
        (λ past. let e : o.0 ≡ j = omega (arith, o.1) in (more i).1 (inr (subst (λ k. Goes steps a k i) e o.3)))
        (cases_lt o.0 j),
  )

  -- the same, by the step behind position j
  pub from_step : (j n l : ℕ) (xs : List Step) (d : Step) → xs ≡ steps → j < length xs → From j n → Holds m j → ((i : ℕ) → Holds l i ↔ (Holds n i ⊎ StepGoes (get_or xs j d) a j i)) → From (j + 1) l
  from_step j n l xs d e in' h held more = from_take j n l h held (λ i.
      let g = goes_by steps a j d (omega (arith, ap length e)) i in
      let o = subst (λ ys. Holds l i ↔ (Holds n i ⊎ StepGoes (get_or ys j d) a j i)) e (more i) in
      (λ x. ⊎_elim inl (λ s. inr (g.0 s)) (o.0 x), ⊎_elim (λ y. o.1 (inl y)) (λ y. o.1 (inr (g.1 y)))))

  pub from_all : (n : ℕ) → From (length steps) n → Moved steps a m n
  from_all n h i = (λ s. let o = (h i).0 s in (o.0, o.2, o.3), λ o. (h i).1 (o.0, goes_before steps a o.0 i o.2, o.1, o.2))

  -- a label leads to one set
  pub moved_same : (n l : ℕ) → Moved steps a m n → Moved steps a m l → n ≡ l
  moved_same n l h k = same_set n l (λ i. (λ s. (k i).1 ((h i).0 s), λ s. (h i).1 ((k i).0 s)))
