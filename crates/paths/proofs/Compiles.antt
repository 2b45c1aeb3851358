-- A scan that is done makes the table of the path.
use Rattle.std.proofs.Common.{◌≡◌, ℕ, suc, ◌<◌, ◌≤◌, Bool, true, not, ltb, ◌≢◌, List, [], ◌∷◌, length, get_or, take, Some, None, Ok, Err, Result, sym, refl, ap, ◌∙◌, subst, arith, MatchResult}
use Rattle.std.specs.List.{list_all}
use Rattle.std.proofs.lemmas.List.{get_or-take, length-take}
use Rattle.std.proofs.lemmas.Bool.{and_from, cond-false, le-leb, lt-ltb}
use Rattle.automata.specs.Automata.{Automaton, WellFormed}
use Rattle.text.specs.declared.refusal.Refusal.{Refusal}
use Rattle.base.specs.declared.table.Row.{Row}
use Rattle.base.specs.declared.table.Table.{Table}
use Rattle.base.specs.Rows.{no_row, row, target, each_below, rows_each_below}
use Rattle.base.specs.Tables.{automaton, Parts, parts_refusal, Has, Made}
use Rattle.paths.specs.declared.path.Step.{Step}
use Rattle.paths.specs.Positions.{Named}
use Rattle.paths.specs.Scans.{Scanned}
use Rattle.paths.specs.Tables.{Compiled, TableOf, Overfull}
use Rattle.paths.proofs.Counted.{set_reachable, few_sets}
use Rattle.paths.proofs.Follow.{follows_path}
use Rattle.automata.proofs.Meeting.{rows_meet}
use Rattle.paths.proofs.Once.{alike}

every_from : {X : Type 0} (test : X → Bool) (xs : List X) (d : X) → ((i : ℕ) → i < length xs → test (get_or xs i d) ≡ true) → list_all test xs ≡ true
every_from test [] d h = refl
every_from test (x ∷ xs) d h = and_from _ _ (h 0 (omega arith)) (every_from test xs d (λ i k. h (suc i) (omega arith)))

module _ (steps : List Step) (n : ℕ) (sets : List ℕ) (m : ℕ) (rows : List Row) (labels : (1 ≤ n) × (n ≤ 16)) (states : (1 ≤ m) × (m ≤ 32)) (all : m ≡ length sets) (scanned : Scanned steps n rows m sets) where
  abbrev parts : Parts
  parts = record { labels = n; states = m; start = 0; rows = rows }

  within : (p a : ℕ) → p < m → a < n → target rows p a < m
  within p a h k = omega (arith, all, scanned.counts, rows_meet n (target rows) m p a h k)

  below : rows_each_below n m (take m rows) ≡ true
  below = every_from (λ r. each_below m (take n r.targets)) (take m rows) no_row (λ p h.
      let inside : p < m = omega (arith, simp length-take at h) in
      let row : get_or (take m rows) p no_row ≡ get_or rows p no_row = get_or-take m rows p no_row inside in
      ap (λ r. each_below m (take n r.targets)) row ∙ every_from (λ x. ltb x m) (take n (get_or rows p no_row).targets) 0 (λ a k.
      let low : a < n = omega (arith, simp length-take at k) in
      ap (λ x. ltb x m) (get_or-take n (get_or rows p no_row).targets a 0 low) ∙ lt-ltb _ m (within p a inside low)))

  -- the parts break no rule
  unrefused : parts_refusal parts ≡ None
  unrefused =
      cond-false _ _ _ (ap not (and_from _ _ (le-leb 1 n labels.0) (le-leb n 16 labels.1))) ∙
      cond-false _ _ _ (ap not (and_from _ _ (le-leb 1 m states.0) (and_from _ _ (le-leb m 32 states.1) (lt-ltb 0 m states.0)))) ∙
      cond-false _ _ _ (ap not below)

  abbrev made : Automaton
  made = record { labels = n; states = m; start = 0; step = target rows; yes = λ p. (row rows p).accepts }

  written_out : (t : Table) → Has parts t → automaton t ≡ made
  written_out t h i = record { labels = h.labels i; states = h.states i; start = h.start i; step = target (h.rows i); yes = λ p. (row (h.rows i) p).accepts }

  formed : WellFormed made
  formed = record { start = states.0; step = within }

  module _ (distinct : (p q : ℕ) → p < q → q < m → get_or sets p 0 ≢ get_or sets q 0) where
    abbrev named : Named steps made
    named = record { set_of = λ p. get_or sets p 0; start = scanned.start; distinct = distinct; step = scanned.moves; yes = scanned.yes }

    compiled : Compiled steps n made
    compiled = record {
      labels = refl;
      formed = formed;
      named = named;
      reached = λ p h. set_reachable steps made formed named p h (scanned.reached p (omega arith));
      numbered = record { start = refl; next = scanned.next; whole = sym scanned.counts ∙ sym all };
      few = few_sets steps made formed named 32 states.1;
      follows = follows_path steps made formed named;
    }

    pub tabled : (r : Result Table Refusal) → Made parts r → MatchResult r (TableOf steps n) (Overfull steps n)
    tabled (Ok t) (_, h) = let c = subst (Compiled steps n) (sym (written_out t h)) compiled in record { compiled = c; only = λ B b. alike steps n (automaton t) B c b }
    tabled (Err why) e = let two : None ≡ Some why = sym unrefused ∙ e in let z : ◌≡◌ {A = ℕ} 0 1 = cc in absurd (omega arith)
