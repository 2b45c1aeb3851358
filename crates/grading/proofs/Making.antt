-- The parts of a draft that is written whole make a table, and it is the minimal one.
use Rattle.std.proofs.Common.{◌≡◌, ℕ, zero, suc, ◌*◌, ◌<◌, ◌≤◌, Bool, true, not, ◌&&◌, ltb, leb, List, [], ◌∷◌, get_or, take, Some, None, refl, ap, ◌∙◌, arith}
use Rattle.std.proofs.lemmas.Bool.{and_from, lt-ltb, le-leb, not_from_true, cond-false}
use Rattle.std.specs.List.{list_all}
use Rattle.automata.specs.Minimising.{Minimised}
use Rattle.text.specs.declared.refusal.Refusal.TheVariants.{NameCount, StatesLine}
use Rattle.text.specs.declared.refusal.Refusal.{Refusal}
use Rattle.base.specs.Rows.{no_row, row, target, each_below, rows_each_below}
use Rattle.base.specs.Tables.{automaton, Parts, Has, parts_refusal}
use Rattle.base.specs.declared.table.Row.{Row}
use Rattle.base.specs.declared.table.Table.{Table}
use Rattle.grading.specs.Drafts.{olds, count, target as placed, Drafted, RowsOf}
use Rattle.grading.specs.declared.draft.Draft.{Draft}
use Rattle.grading.proofs.Drafting.{count_fits}
use Rattle.grading.proofs.Finishing.{minimised}

-- what passes at each of the first n indices passes everywhere among them
all_from : {X : Type 0} (test : X → Bool) (d : X) (n : ℕ) (xs : List X) → ((i : ℕ) → i < n → test (get_or xs i d) ≡ true) → list_all test (take n xs) ≡ true
all_from test d zero xs h = refl
all_from test d (suc n) [] h = refl
all_from test d (suc n) (x ∷ xs) h = and_from (test x) (list_all test (take n xs)) (h 0 (omega arith)) (all_from test d n xs (λ i l. h (suc i) (omega arith)))

rows_from : (labels states : ℕ) (rows : List Row) → ((p a : ℕ) → p < states → a < labels → target rows p a < states) → rows_each_below labels states (take states rows) ≡ true
rows_from labels states rows h = all_from (λ r. each_below states (take labels r.targets)) no_row states rows (λ p l. all_from (λ x. ltb x states) 0 labels (row rows p).targets (λ a k. lt-ltb (target rows p a) states (h p a l k)))

-- the parts of m numbers, with l labels
abbrev pub parts : ℕ → ℕ → List Row → Parts
parts l m rows = record { labels = l; states = m; start = 0; rows = rows }

module _ (t : Table) (d : Draft) (n : ℕ) (h : Drafted (automaton t) d n) (whole : 16 * (count d) ≤ n) (l m : ℕ) (labels : l ≡ t.labels) (numbers : m ≡ count d) (rows : List Row) (of : RowsOf (automaton t) d rows) where
  steps : (p a : ℕ) → p < (count d) → target rows p a ≡ placed d p a
  steps p a i = ap (λ xs. get_or xs a 0) (of p i).0

  pub not_refused : parts_refusal (parts l m rows) ≡ None
  not_refused =
      cond-false (not (leb 1 l && leb l 16)) (Some NameCount) _ (not_from_true _ (and_from _ _ (le-leb 1 l (omega (arith, labels, t.sized.0))) (le-leb l 16 (omega (arith, labels, t.sized.1)))))
      ∙ cond-false (not (leb 1 m && (leb m 32 && ltb 0 m))) (Some StatesLine) _ (not_from_true _ (and_from _ _ (le-leb 1 m (omega (arith, numbers, h.some))) (and_from _ _ (le-leb m 32 (omega (arith, numbers, count_fits d))) (lt-ltb 0 m (omega (arith, numbers, h.some))))))
      ∙ cond-false (not (rows_each_below l m (take m rows))) (Some Refusal.Row) None (not_from_true _ (rows_from l m rows (λ p a i k. omega (arith, numbers, steps p a (omega arith), h.inside p a (omega (arith, labels)) (omega (arith, labels, t.sized.1))))))

  pub made : (u : Table) → Has (parts l m rows) u → Minimised (automaton t) (automaton u)
  made u has = minimised (automaton t) t.sized.1 (olds d) (count d) (placed d) n h whole (automaton u) (has.labels ∙ labels) (has.states ∙ numbers) has.start (λ r b i. ap (λ rows. target rows r b) has.rows ∙ steps r b i) (λ k i. ap (λ rows. (row rows k).accepts) has.rows ∙ (of k i).1)
