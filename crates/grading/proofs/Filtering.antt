-- How many numbers below n a filter of a range lets through.
use Rattle.std.proofs.Common.{◌≡◌, ◌∙◌, ℕ, ◌+◌, ◌≤◌, Bool, true, false, Decides, Some, None, List, [], ◌∷◌, length, refl, sym, subst, arith}
use Rattle.std.proofs.lemmas.Bool.Decides.{not_from_Decides}
use Rattle.std.specs.Fn.{Called, CalledAt}
use Rattle.std.specs.Iterator.{Yields, Drains}
use Rattle.std.specs.Iterator.Adapters.{filter_source, filter_callee, filter_steps}
use Rattle.std.specs.List.{FoldsTo}
use Rattle.std.specs.declared.ops.Range.{Range}
use Rattle.std.specs.declared.iter.Filter.{Filter}
use Rattle.std.proofs.iter.Yields.{nat_range_steps}
use Rattle.automata.specs.Components.{Count, none}
use Rattle.grading.proofs.Counting.{count_has, count_lacks}
use denote.Param.Members.{Mut}
use denote.Ref.{Bor}

module _ {F : Type 0} (g : Mut F (Bor ℕ × Unit {0}) Bool) (f : F) (P : ℕ → Type 0) (n : ℕ)
    (answers : (x : Bor ℕ) (b : Bool) (q : F) → Called g f (x, tt) b q → (q ≡ f) × Decides b (P x.now)) where
  yes : (x : ℕ) (q : F) → CalledAt g f x true q → (q ≡ f) × P x
  yes x q k = let m = answers k.shown true q k.called in (m.0, subst P k.shows (m.1.0 refl))

  no : (x : ℕ) (q : F) → CalledAt g f x false q → (q ≡ f) × ¬ P x
  no x q k = let m = answers k.shown false q k.called in (m.0, subst (λ y. ¬ P y) k.shows (not_from_Decides false m.1 refl))

  -- c of the numbers before the range have the property, and it ends at n
  record At (s : Range ℕ) (c : ℕ) : Type 0 where
    pub count : Count P s.start c
    pub below : s.start ≤ n
    pub end : s.end ≡ n

  -- past those that fail
  passed : (xs : List ℕ) (s t : Range ℕ) (j q : F) (c : ℕ) → j ≡ f → At s c → Yields nat_range_steps s xs t → FoldsTo (λ p x o. CalledAt g p x false o) j xs q → (q ≡ f) × At t c
  passed [] s t j q c e a y h = (sym h ∙ e, subst (λ w. At w c) y a)
  passed (x ∷ xs) s t j q c e a y h =
      let m = no x h.0 (subst (λ w. CalledAt g w x false h.0) e h.1) in
      passed xs y.0 t h.0 q c m.0 (record {
        count = subst (λ k. Count P k c) (sym y.1.1.2) (count_lacks P s.start c (subst (λ k. ¬ P k) y.1.1.1 m.1) a.count);
        below = omega (arith, a.end, a.below, y.1.1.0, y.1.1.2);
        end = y.1.0 ∙ a.end;
      }) y.2 h.2

  -- past the next that passes
  came : (s t : Filter (Range ℕ) F) (x c : ℕ) → filter_callee s ≡ f → At (filter_source s) c → filter_steps nat_range_steps g s (Some x) t → (filter_callee t ≡ f) × At (filter_source t) (c + 1)
  came s t x c e a (xs, q, (u, y, z), h, k) =
      let p = passed xs (filter_source s) u (filter_callee s) q c e a y h in
      let m = yes x (filter_callee t) (subst (λ w. CalledAt g w x true (filter_callee t)) p.0 k) in (
        m.0,
        record {
          count = subst (λ i. Count P i (c + 1)) (sym z.1.2) (count_has P u.start c (subst P z.1.1 m.1) p.1.count);
          below = omega (arith, p.1.end, p.1.below, z.1.0, z.1.2);
          end = z.0 ∙ p.1.end;
        },
      )

  ended : (s t : Filter (Range ℕ) F) (c : ℕ) → filter_callee s ≡ f → At (filter_source s) c → filter_steps nat_range_steps g s None t → Count P n c
  ended s t c e a (xs, q, (u, y, z), h, k) =
      let p = passed xs (filter_source s) u (filter_callee s) q c e a y h in
      let i : u.start ≡ n = omega (arith, p.1.end, p.1.below, z.1.0) in
      subst (λ i. Count P i c) i p.1.count

  all : (xs : List ℕ) (s t u : Filter (Range ℕ) F) (c : ℕ) → filter_callee s ≡ f → At (filter_source s) c → Yields (filter_steps nat_range_steps g) s xs t → filter_steps nat_range_steps g t None u → Count P n (c + length xs)
  all [] s t u c e a y z = subst (Count P n) (omega arith) (ended t u c (subst (λ w. filter_callee w ≡ f) y e) (subst (λ w. At (filter_source w) c) y a) z)
  all (x ∷ xs) s t u c e a y z =
      let m = came s y.0 x c e a y.1 in
      subst (Count P n) (omega arith) (all xs y.0 t u (c + 1) m.0 m.1 y.2 z)

  pub counts_below : (s : Filter (Range ℕ) F) (r : ℕ) → filter_callee s ≡ f → filter_source s ≡ record { start = 0; end = n } → (xs : List ℕ) × Drains (filter_steps nat_range_steps g) s xs × (r ≡ length xs) → Count P n r
  counts_below s r e d (xs, h, l) =
      subst (Count P n) (omega (arith, l)) (all xs s h.1.0 h.0 0 e (subst (λ w. At w 0) (sym d) (record { count = none; below = omega arith; end = refl })) h.1.1 h.1.2)
