-- An automaton that moves as the position sets do accepts what the path means.
use Rattle.std.proofs.Common.{◌≡◌, ℕ, zero, suc, ◌/◌, ◌%◌, ◌^◌, ◌<◌, ◌≤◌, true, ◌⊎◌, List, [], ◌∷◌, length, drop, Decides, sym, refl, ap, ◌∙◌, subst, inl, inr, ⊎_elim, arith}
use native.Mathlib.Nat.{div-eq_of_lt}
use Rattle.std.proofs.lemmas.Nat.{pow_below}
use Rattle.paths.specs.declared.path.Step.{Step}
use Rattle.automata.specs.Automata.{Automaton, Word, WellFormed, run, accepts}
use Rattle.paths.specs.Meanings.{fits, Means}
use Rattle.paths.specs.Positions.{Holds, start_set, keeps, takes, Goes, Moved, Named}
use Rattle.paths.proofs.Words.{means_some, means_first, means_fit, means_skip}

-- the step behind position j, and what is behind it
pub record Behind (steps : List Step) (j : ℕ) : Type 0 where
  pub step : Step
  pub before : j < length steps
  pub rest : drop j steps ≡ step ∷ drop (suc j) steps
  pub keep : keeps steps j ≡ step.descend
  pub take : (a : ℕ) → takes steps a j ≡ fits step.test a

pub behind : (steps : List Step) (j : ℕ) → Behind steps j ⊎ (length steps ≤ j)
behind [] j = inr (omega arith)
behind (s ∷ ss) zero = inl (record { step = s; before = omega arith; rest = refl; keep = refl; take = λ a. refl })
behind (s ∷ ss) (suc j) =
    ⊎_elim
    (λ b. inl (record { step = b.step; before = omega (arith, b.before); rest = b.rest; keep = b.keep; take = b.take }))
    (λ past. inr (omega arith))
    (behind ss j)

-- a position past the last leads nowhere
pub goes_before : (steps : List Step) (a j i : ℕ) → Goes steps a j i → j < length steps
goes_before [] a j i (inl (_, h)) = let z : ◌≡◌ {A = ℕ} 0 1 = cc in absurd (omega arith)
goes_before [] a j i (inr (_, h)) = let z : ◌≡◌ {A = ℕ} 0 1 = cc in absurd (omega arith)
goes_before (s ∷ ss) a zero i g = omega arith
goes_before (s ∷ ss) a (suc j) i (inl (_, h)) = omega (arith, goes_before ss a j j (inl (refl, h)))
goes_before (s ∷ ss) a (suc j) i (inr (_, h)) = omega (arith, goes_before ss a j (suc j) (inr (refl, h)))

-- from some position of the set m the rest of the path means w
pub record Ahead (steps : List Step) (m : ℕ) (w : List ℕ) : Type 0 where
  pub at : ℕ
  pub within : at ≤ length steps
  pub holds : Holds m at
  pub means : Means (drop at steps) w

-- behind all steps only the empty list is meant
ahead_end : (steps : List Step) (m : ℕ) → Ahead steps m [] → Holds m (length steps)
ahead_end steps m h = ⊎_elim
    (λ b. absurd (means_some b.step (drop (suc h.at) steps) (subst (λ r. Means r []) b.rest h.means)))
    (λ past. let e : h.at ≡ length steps = omega (arith, h.within) in subst (Holds m) e h.holds)
    (behind steps h.at)

drop_whole : (steps : List Step) → drop (length steps) steps ≡ []
drop_whole [] = refl
drop_whole (s ∷ ss) = drop_whole ss

end_ahead : (steps : List Step) (m : ℕ) → Holds m (length steps) → Ahead steps m []
end_ahead steps m h = record { at = length steps; within = omega arith; holds = h; means = subst (λ r. Means r []) (sym (drop_whole steps)) refl }

-- a label moves the set on
module _ (steps : List Step) (a m n : ℕ) (moved : Moved steps a m n) (w : List ℕ) where
  ahead_next : Ahead steps m (a ∷ w) → Ahead steps n w
  ahead_next h = ⊎_elim
      (λ b. ⊎_elim
      (λ (p : (fits b.step.test a ≡ true) × Means (drop (suc h.at) steps) w).
      record { at = suc h.at; within = omega (arith, b.before); holds = (moved (suc h.at)).1 (h.at, h.holds, inr (refl, b.take a ∙ p.0)); means = p.1 })
      (λ (p : (b.step.descend ≡ true) × Means (b.step ∷ drop (suc h.at) steps) w).
      record { at = h.at; within = h.within; holds = (moved h.at).1 (h.at, h.holds, inl (refl, b.keep ∙ p.0)); means = subst (λ r. Means r w) (sym b.rest) p.1 })
      (means_first b.step (drop (suc h.at) steps) a w (subst (λ r. Means r (a ∷ w)) b.rest h.means)))
      (λ past.
      let e : h.at ≡ length steps = omega (arith, h.within) in
      let none : a ∷ w ≡ [] = subst (λ r. Means r (a ∷ w)) (ap (λ j. drop j steps) e ∙ drop_whole steps) h.means in
      let z : ◌≡◌ {A = ℕ} 0 1 = cc in absurd (omega arith))
      (behind steps h.at)

  from : (i j : ℕ) → Holds m j → Behind steps j → Goes steps a j i → Means (drop i steps) w → Ahead steps m (a ∷ w)
  from i j holds b (inl (e, keep)) means =
      let was : Means (b.step ∷ drop (suc j) steps) w = subst (λ r. Means r w) (ap (λ k. drop k steps) e ∙ b.rest) means in
      record { at = j; within = omega (arith, b.before); holds = holds; means = subst (λ r. Means r (a ∷ w)) (sym b.rest) (means_skip b.step (drop (suc j) steps) a w (sym b.keep ∙ keep) was) }
  from i j holds b (inr (e, take)) means =
      let was : Means (drop (suc j) steps) w = subst (λ k. Means (drop k steps) w) e means in
      record { at = j; within = omega (arith, b.before); holds = holds; means = subst (λ r. Means r (a ∷ w)) (sym b.rest) (means_fit b.step (drop (suc j) steps) a w (sym (b.take a) ∙ take) was) }

  ahead_back : Ahead steps n w → Ahead steps m (a ∷ w)
  ahead_back h =
      let o = (moved h.at).0 h.holds in
      ⊎_elim
      (λ b. from h.at o.0 o.1 b o.2 h.means)
      (λ past. absurd (omega (arith, goes_before steps a o.0 h.at o.2)))
      (behind steps o.0)

-- the start-set holds position 0 alone
start_set_first : (j : ℕ) → Holds start_set j → j ≡ 0
start_set_first zero h = refl
start_set_first (suc j) h =
    let none : 1 / 2 ^ suc j ≡ 0 = div-eq_of_lt (pow_below 0 (suc j) (omega arith)) in
    absurd (omega (arith, sym h ∙ ap (λ x. x % 2) none))

ahead_start_set : (steps : List Step) (w : List ℕ) → Ahead steps start_set w → Means steps w
ahead_start_set steps w h = subst (λ j. Means (drop j steps) w) (start_set_first h.at h.holds) h.means

start_set_ahead : (steps : List Step) (w : List ℕ) → Means steps w → Ahead steps start_set w
start_set_ahead steps w h = record { at = 0; within = omega arith; holds = refl; means = h }

-- a state says yes after w just where w is ahead of its set
run_ahead : (steps : List Step) (A : Automaton) → WellFormed A → (h : Named steps A) → (p : ℕ) (w : List ℕ) → p < A.states → Word A.labels w → Decides (A.yes (run A p w)) (Ahead steps (h.set_of p) w)
run_ahead steps A f h p [] k word = (λ e. end_ahead steps _ ((h.yes p k).0 e), λ s. (h.yes p k).1 (ahead_end steps _ s))
run_ahead steps A f h p (a ∷ w) k (l, word) =
    let next = run_ahead steps A f h (A.step p a) w (f.step p a k l) word in
    let moved = h.step p a k l in
    (λ e. ahead_back steps a _ _ moved w (next.0 e), λ s. next.1 (ahead_next steps a _ _ moved w s))

pub follows_path : (steps : List Step) (A : Automaton) → WellFormed A → Named steps A → (w : List ℕ) → Word A.labels w → Decides (accepts A w) (Means steps w)
follows_path steps A f h w word =
    let all = run_ahead steps A f h A.start w f.start word in
    (λ e. ahead_start_set steps w (subst (λ m. Ahead steps m w) h.start (all.0 e)), λ s. all.1 (subst (λ m. Ahead steps m w) (sym h.start) (start_set_ahead steps w s)))
