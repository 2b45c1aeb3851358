-- The lowest state that can have been before: from sets of states to how they relate, and a table of them row by row.
use Rattle.std.proofs.Common.{◌≡◌, ℕ, ◌<◌, ◌≤◌, ◌↔◌, Some, None, Option, MatchOption, unwrap_or, List, [], ◌∷◌, ◌++◌, get_or, sym, refl, ap, ◌∙◌, subst, arith}
use mathlib.Core.Logic.{∥∥₁_elim}
use native.Mathlib.Bridge.{le_prop}
use Rattle.automata.specs.Automata.{Automaton, WellFormed}
use Rattle.automata.specs.Holding.{Before as BeforeInternal}
use Rattle.automata.specs.Lowest.{Lowest, found, none}
use Rattle.automata.specs.Noting.{Before as BeforeInside}
use Rattle.automata.specs.States.{Internal, Apart, Together}
use Rattle.automata.proofs.Together.{almost_sym}
use Rattle.automata.proofs.Words.{run_append, word_append}
use Rattle.grading.specs.Backward.{back, Homeward, Filled, Returns, Retraces}
use Rattle.grading.specs.StateSets.{In, Gathers}
use Rattle.grading.specs.declared.backward.Backward.{Backward}
use Rattle.grading.specs.declared.states.StateSet.{StateSet}
use Rattle.grading.proofs.Relating.{not_apart, almost_from_not_apart}

lowest_like : (P Q : ℕ → Type 0) (n other r : ℕ) → ((k : ℕ) → k < n → P k ↔ Q k) → Lowest P n other r → Lowest Q n other r
lowest_like P Q n other r like (found l h low) = found l ((like r l).0 h) (λ k i q. low k i ((like k (omega arith)).1 q))
lowest_like P Q n other r like (none never) = none (λ k l q. never k l ((like k l).1 q))

module _ (A : Automaton) (formed : WellFormed A) where
  -- the target t of a state of the set is in the set, and not in that of the states apart from p
  pub homeward_from : (home apart : StateSet) (p a s t : ℕ) → t ≡ A.step s a → s < A.states → a < A.labels → Gathers (Apart A p) A.states apart → In s home → In t home → ¬ In t apart → Homeward A home p a s
  homeward_from home apart p a s t is l k gathers here there outside = record {
    here = here;
    target = subst (λ x. In x home) is there;
    almost = almost_sym A p (A.step s a) (almost_from_not_apart A p (A.step s a) (λ d. outside (subst (λ x. In x apart) (sym is) ((gathers (A.step s a)).1 (formed.step s a l k, d)))));
  }

  -- the sets say that s can have been before
  abbrev pub Passes : StateSet → StateSet → ℕ → ℕ → Type 0
  Passes home apart a s = In s home × In (A.step s a) home × (¬ In (A.step s a) apart)

  passes_from : (home apart : StateSet) (p a s : ℕ) → Gathers (Apart A p) A.states apart → Homeward A home p a s → Passes home apart a s
  passes_from home apart p a s gathers h = (h.here, h.target, λ i. not_apart A p (A.step s a) (almost_sym A (A.step s a) p h.almost) ((gathers (A.step s a)).0 i).1)

  -- the first state that passes, if there is one
  pub lowest_read : (home apart : StateSet) (p a n : ℕ) → n ≡ A.states → a < A.labels → Gathers (Apart A p) A.states apart → (o : Option ℕ)
      → MatchOption o ((s : ℕ) → 0 ≤ s → s < n → ¬ Passes home apart a s) (λ r. (0 ≤ r) × (r < n) × Passes home apart a r × ((s : ℕ) → 0 ≤ s → s < r → ¬ Passes home apart a s))
      → Lowest (Homeward A home p a) A.states p (unwrap_or o p)
  lowest_read home apart p a n e k gathers None h = none (λ s l w. h s (omega arith) (omega arith) (passes_from home apart p a s gathers w))
  lowest_read home apart p a n e k gathers (Some r) (_, l, w, low) =
      found (omega arith) (homeward_from home apart p a r (A.step r a) refl (omega arith) k gathers w.0 w.1 w.2) (λ s i v. low s (omega arith) i (passes_from home apart p a s gathers v))

  internal_step : (s a : ℕ) → a < A.labels → Internal A s → Internal A (A.step s a)
  internal_step s a k i = record {
    first = i.first;
    rest = i.rest ++ a ∷ [];
    word = word_append A.labels (i.first ∷ i.rest) (a ∷ []) i.word (k, tt);
    leads = run_append A A.start (i.first ∷ i.rest) (a ∷ []) ∙ ap (λ x. A.step x a) i.leads;
  }

  -- the row of the state p, with the internal states at home
  row_internal : (home : StateSet) (p : ℕ) (row : List ℕ) → Gathers (Internal A) A.states home → Filled A home p A.labels row → (a : ℕ) → a < A.labels → Lowest (BeforeInternal A p a) A.states p (get_or row a 0)
  row_internal home p row gathers filled a k = lowest_like (Homeward A home p a) (BeforeInternal A p a) A.states p (get_or row a 0) like (filled a k)
    where
      like : (s : ℕ) → s < A.states → Homeward A home p a s ↔ BeforeInternal A p a s
      like s l = (
        λ h. (((gathers s).0 h.here).1, h.almost),
        λ (i, h). record { here = (gathers s).1 (l, i); target = (gathers (A.step s a)).1 (formed.step s a l k, internal_step s a k i); almost = h },
      )

  -- and with its component
  row_inside : (home : StateSet) (p : ℕ) (row : List ℕ) → Gathers (Together A p) A.states home → Filled A home p A.labels row → (a : ℕ) → a < A.labels → Lowest (BeforeInside A p a) A.states p (get_or row a 0)
  row_inside home p row gathers filled a k = lowest_like (Homeward A home p a) (BeforeInside A p a) A.states p (get_or row a 0) like (filled a k)
    where
      like : (s : ℕ) → s < A.states → Homeward A home p a s ↔ BeforeInside A p a s
      like s l = (
        λ h. record { together = ((gathers s).0 h.here).1; target = ((gathers (A.step s a)).0 h.target).1; almost = h.almost },
        λ h. record { here = (gathers s).1 (l, h.together); target = (gathers (A.step s a)).1 (formed.step s a l k, h.target); almost = h.almost },
      )

  -- so it is of all rows
  pub retraces_internal : (homes : ℕ → StateSet → Type 0) (b : Backward) → ((p : ℕ) (home : StateSet) → p < A.states → homes p home → Gathers (Internal A) A.states home) → Returns A homes b → Retraces A (BeforeInternal A) b
  retraces_internal homes b internal returns p a l k = let r = returns p l in ∣ row_internal r.home p (get_or b.targets p []) (internal p r.home l r.of) r.filled a k ∣₁

  pub retraces_inside : (homes : ℕ → StateSet → Type 0) (b : Backward) → ((p : ℕ) (home : StateSet) → p < A.states → homes p home → Gathers (Together A p) A.states home) → Returns A homes b → Retraces A (BeforeInside A) b
  retraces_inside homes b inside returns p a l k = let r = returns p l in ∣ row_inside r.home p (get_or b.targets p []) (inside p r.home l r.of) r.filled a k ∣₁

module _ (A : Automaton) (Before : ℕ → ℕ → ℕ → Type 0) where
  -- the way back stays among the states
  pub back_below : (b : Backward) → Retraces A Before b → (p a : ℕ) → p < A.states → a < A.labels → back b p a < A.states
  back_below b h p a l k = ∥∥₁_elim (h p a l k) le_prop (below (back b p a))
    where
      below : (r : ℕ) → Lowest (Before p a) A.states p r → r < A.states
      below r (found i _ _) = i
      below r (none _) = l
