-- Rows whose targets pass a test.
use Rattle.std.proofs.Common.{◌≡◌, ℕ, zero, suc, ◌<◌, ◌≤◌, Bool, true, ltb, List, [], ◌∷◌, get_or, take, refl}
use Rattle.std.specs.List.{list_all}
use Rattle.std.proofs.lemmas.List.{get_or-take}
use Rattle.std.proofs.lemmas.Bool.{and_parts, lt-ltb, ltb-true}
use Rattle.base.specs.declared.table.Row.{Row}
use Rattle.base.specs.Rows.{no_row, row, target, each_below, rows_each_below}

-- what passes everywhere passes at each index, and past the end where the default does
pub all_at : {X : Type 0} (test : X → Bool) (xs : List X) (i : ℕ) (d : X) → list_all test xs ≡ true → test d ≡ true → test (get_or xs i d) ≡ true
all_at test [] i d e h = h
all_at test (x ∷ xs) zero d e h = (and_parts _ _ e).0
all_at test (x ∷ xs) (suc i) d e h = all_at test xs i d (and_parts _ _ e).1 h

pub rows_inside : (labels states : ℕ) (rows : List Row) → 1 ≤ states → rows_each_below labels states (take states rows) ≡ true → (p a : ℕ) → p < states → a < labels → target rows p a < states
rows_inside labels states rows some e p a hp ha =
    let zero_below : ltb 0 states ≡ true = lt-ltb _ _ some in
    let in' : each_below states (take labels (row (take states rows) p).targets) ≡ true = all_at (λ r. each_below states (take labels r.targets)) (take states rows) p no_row e (all_none labels) in
    let in'' : each_below states (take labels (row rows p).targets) ≡ true = rw (get_or-take states rows p no_row hp) at in' in
    let cell : ltb (get_or (take labels (row rows p).targets) a 0) states ≡ true = all_at (λ x. ltb x states) (take labels (row rows p).targets) a 0 in'' zero_below in
    ltb-true _ _ (rw (get_or-take labels (row rows p).targets a 0 ha) at cell)
  where
    all_none : (n : ℕ) → each_below states (take n []) ≡ true
    all_none zero = refl
    all_none (suc n) = refl
