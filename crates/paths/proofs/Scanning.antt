-- One more row of the scan, and what stops it.
use Rattle.std.proofs.Common.{◌≡◌, ℕ, ◌+◌, ◌<◌, ◌≤◌, Bool, cond, ltb, ◌≢◌, List, [], ◌∷◌, length, get_or, set, Decides, sym, refl, ap, ◌∙◌, subst, ⊎_elim, add-one, arith, below_more}
use Rattle.std.proofs.lemmas.List.{get_or-set_same, get_or-set_other, length-take}
use Rattle.std.proofs.lemmas.Bool.{cases_lt, cond-true, lt-ltb}
use Rattle.base.specs.declared.table.Row.{Row as TableRow}
use Rattle.base.specs.Rows.{no_row, row, target}
use Rattle.paths.specs.declared.path.Step.{Step}
use Rattle.automata.specs.Numbering.{met_in_row, met}
use Rattle.paths.specs.Positions.{start_set, Holds, Moved, Reached, at_start, by_label, MoreThan}
use Rattle.paths.specs.declared.sets.Sets.{Sets}
use Rattle.paths.specs.Sets.{sets_of}
use Rattle.paths.specs.Scans.{Row, Stuck, Scanned}
use Rattle.automata.proofs.Meeting.{row_grows, row_same, rows_same, rows_meet}

pub sets_fit : (s : Sets) → length (sets_of s) ≤ 32
sets_fit s = omega (arith, length-take s.sets.len s.sets.places, s.sets.fits)

-- equal answers on equal sets
says_by : (k : ℕ) (b c : Bool) (m n : ℕ) → b ≡ c → m ≡ n → Decides c (Holds n k) → Decides b (Holds m k)
says_by k b c m n e f d = subst (λ x. Decides x (Holds m k)) (sym e) (subst (λ x. Decides c (Holds x k)) (sym f) d)

module _ (steps : List Step) (labels : ℕ) where
  pub scan_none : (rows : List TableRow) (sets : List ℕ) → sets ≡ start_set ∷ [] → Scanned steps labels rows 0 sets
  scan_none rows sets one = record {
    below = omega arith;
    start = ap (λ xs. get_or xs 0 0) one;
    moves = λ q a h. absurd (omega arith);
    next = λ q a h. absurd (omega arith);
    counts = ap length one;
    reached = λ q h. let e : q ≡ 0 = omega (arith, ap length one) in subst (λ i. Reached steps labels (get_or sets i 0)) (sym e) (subst (Reached steps labels) (sym (ap (λ xs. get_or xs 0 0) one)) at_start);
    yes = λ q h. absurd (omega arith);
  }

  -- the sets that a part of a row meets are reached
  row_reached : (from : ℕ) (old : List ℕ) (a : ℕ) (row new : List ℕ) → Reached steps labels from → ((q : ℕ) → q < length old → Reached steps labels (get_or old q 0)) → a ≤ labels → Row steps from old a row new → (q : ℕ) → q < length new → Reached steps labels (get_or new q 0)
  row_reached from old a row new base before part h q k = ⊎_elim
      (λ (less : q < length old). subst (Reached steps labels) (sym (h.kept q less)) (before q less))
      (λ (past : length old ≤ q). let o = h.led q past k in by_label base (omega (arith, o.1)) o.2)
      (cases_lt q (length old))

  pub scan_more : (rows : List TableRow) (p : ℕ) (old : List ℕ) (made : TableRow) (new : List ℕ) → p < length rows → p < length old → Scanned steps labels rows p old → Row steps (get_or old p 0) old labels made.targets new → Decides made.accepts (Holds (get_or old p 0) (length steps)) → Scanned steps labels (set rows p made) (p + 1) new
  scan_more rows p old made new room less h r says = record {
    below = omega (arith, r.counts, row_grows (λ a. get_or made.targets a 0) (length old) labels);
    start = r.kept 0 (omega arith) ∙ h.start;
    moves = λ q a i j. below_more (λ q. Moved steps a (get_or new q 0) (get_or new (after q a) 0)) p
        (λ q k. leads a q (target rows q a) (after q a) (omega arith) (omega (arith, h.counts, rows_meet labels (target rows) p q a k j)) (sym (other q a k)) (h.moves q a k j))
        (subst (λ s. Moved steps a s (get_or new (after p a) 0)) (sym (r.kept p less)) (subst (λ t. Moved steps a (get_or old p 0) (get_or new t 0)) (sym (here a)) (r.moves a j)))
        q i;
    next = λ q a i j. below_more (λ q. after q a ≤ met_in_row (after q) (met labels after q) a) p
        (λ q k. omega (arith, other q a k, h.next q a k j, row_same (after q) (target rows q) _ _ a (before q (omega arith)) (λ b _. other q b k)))
        (omega (arith, here a, r.next a j, row_same (after p) (λ b. get_or made.targets b 0) (met labels after p) (length old) a met_p (λ b _. here b)))
        q i;
    counts = r.counts ∙ sym (row_same (after p) (λ b. get_or made.targets b 0) (met labels after p) (length old) labels met_p (λ b _. here b)) ∙ ap (met labels after) (sym (add-one p));
    reached = row_reached (get_or old p 0) old labels made.targets new (h.reached p less) h.reached (omega arith) r;
    yes = λ q i. below_more (λ q. Decides (row (set rows p made) q).accepts (Holds (get_or new q 0) (length steps))) p
        (λ q k. says_by _ _ _ _ _ (ap (λ t. t.accepts) (get_or-set_other rows p q made no_row (λ e. omega arith))) (r.kept q (omega arith)) (h.yes q k))
        (says_by _ _ _ _ _ (ap (λ t. t.accepts) (get_or-set_same rows p made no_row room)) (r.kept p less) says)
        q i;
  }
    where
      after : ℕ → ℕ → ℕ
      after = target (set rows p made)

      other : (q a : ℕ) → q < p → after q a ≡ target rows q a
      other q a k = ap (λ t. get_or t.targets a 0) (get_or-set_other rows p q made no_row (λ e. omega arith))

      here : (a : ℕ) → after p a ≡ get_or made.targets a 0
      here a = ap (λ t. get_or t.targets a 0) (get_or-set_same rows p made no_row room)

      before : (q : ℕ) → q ≤ p → met labels after q ≡ met labels (target rows) q
      before q k = rows_same labels after (target rows) q (λ r a i _. other r a (omega arith))

      met_p : met labels after p ≡ length old
      met_p = before p (omega arith) ∙ sym h.counts

      leads : (a q t u : ℕ) → q < length old → t < length old → t ≡ u → Moved steps a (get_or old q 0) (get_or old t 0) → Moved steps a (get_or new q 0) (get_or new u 0)
      leads a q t u i j e s = subst (λ x. Moved steps a (get_or new q 0) (get_or new x 0)) e (subst (λ x. Moved steps a x (get_or new t 0)) (sym (r.kept q i)) (subst (Moved steps a (get_or old q 0)) (sym (r.kept t j)) s))

  -- the sets met, and one more
  abbrev one_over : List ℕ → ℕ → ℕ → ℕ
  one_over new over q = cond (ltb q 32) (get_or new q 0) over

  -- a row that leads to one set too many
  pub scan_stuck : (rows : List TableRow) (p : ℕ) (old new : List ℕ) → p < length old → ((p q : ℕ) → p < q → q < length new → get_or new p 0 ≢ get_or new q 0) → Scanned steps labels rows p old → Stuck steps labels (get_or old p 0) old new → MoreThan 32 steps labels
  scan_stuck rows p old new less distinct h s = record {
    set = one_over new s.over;
    distinct = λ q r i j. below_more (λ r. (q : ℕ) → q < r → one_over new s.over q ≢ one_over new s.over r) 32
        (λ r k q l e. distinct q r l (omega (arith, s.full.taken)) (sym (inside q (omega arith)) ∙ e ∙ inside r k))
        (λ q l e. s.full.other q (omega (arith, s.full.taken)) (sym (inside q l) ∙ e ∙ last))
        r j q i;
    reached = below_more (λ q. Reached steps labels (one_over new s.over q)) 32
        (λ q k. subst (Reached steps labels) (sym (inside q k)) (row_reached (get_or old p 0) old s.label s.row new (h.reached p less) h.reached (omega (arith, s.before)) s.scanned q (omega (arith, s.full.taken))))
        (subst (Reached steps labels) (sym last) (by_label (h.reached p less) s.before s.leads));
  }
    where
      inside : (q : ℕ) → q < 32 → one_over new s.over q ≡ get_or new q 0
      inside q k = cond-true (ltb q 32) (get_or new q 0) s.over (lt-ltb q 32 k)

      last : one_over new s.over 32 ≡ s.over
      last = refl
