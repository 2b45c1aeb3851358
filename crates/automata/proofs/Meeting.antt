-- How many states a scan of the targets has met, and that it meets each state before its row.
use Rattle.std.proofs.Common.{◌≡◌, ℕ, zero, suc, ◌<◌, ◌≤◌, max, List, [], ◌∷◌, refl, ap, ⊎_elim, arith}
use Rattle.std.proofs.lemmas.Bool.{cases_lt}
use Rattle.automata.specs.Automata.{Automaton, Word, run}
use Rattle.automata.specs.States.{Reaches}
use Rattle.automata.specs.Numbering.{met_in_row, met, FirstMet}

pub row_grows : (row : ℕ → ℕ) (n a : ℕ) → n ≤ met_in_row row n a
row_grows row n zero = omega arith
row_grows row n (suc a) = omega (arith, row_grows row n a)

pub row_meets : (row : ℕ → ℕ) (n a b : ℕ) → b < a → row b < met_in_row row n a
row_meets row n zero b h = absurd (omega arith)
row_meets row n (suc a) b h = ⊎_elim
    (λ (less : b < a). omega (arith, row_meets row n a b less))
    (λ (past : a ≤ b). let e : b ≡ a = omega arith in omega (arith, ap row e))
    (cases_lt b a)

-- equal targets meet equally many states
pub row_same : (f g : ℕ → ℕ) (n m a : ℕ) → n ≡ m → ((b : ℕ) → b < a → f b ≡ g b) → met_in_row f n a ≡ met_in_row g m a
row_same f g n m zero e same = e
row_same f g n m (suc a) e same =
    let before = row_same f g n m a e (λ b h. same b (omega arith)) in
    let here = same a (omega arith) in
    λ i. max (before i) (suc (here i))

module _ (labels : ℕ) where
  pub rows_same : (f g : ℕ → ℕ → ℕ) (p : ℕ) → ((q a : ℕ) → q < p → a < labels → f q a ≡ g q a) → met labels f p ≡ met labels g p
  rows_same f g zero same = refl
  rows_same f g (suc p) same =
      row_same (f p) (g p) (met labels f p) (met labels g p) labels (rows_same f g p (λ q a h. same q a (omega arith))) (λ a. same p a (omega arith))

  rows_grow : (step : ℕ → ℕ → ℕ) (p q : ℕ) → p ≤ q → met labels step p ≤ met labels step q
  rows_grow step p zero h = let e : p ≡ 0 = omega arith in omega (arith, ap (met labels step) e)
  rows_grow step p (suc q) h = ⊎_elim
      (λ (less : p < suc q). omega (arith, rows_grow step p q (omega arith), row_grows (step q) (met labels step q) labels))
      (λ (past : suc q ≤ p). let e : p ≡ suc q = omega arith in omega (arith, ap (met labels step) e))
      (cases_lt p (suc q))

  pub rows_meet : (step : ℕ → ℕ → ℕ) (p q a : ℕ) → q < p → a < labels → step q a < met labels step p
  rows_meet step p q a h k = omega (arith, row_meets (step q) (met labels step q) labels a k, rows_grow step (suc q) p (omega arith))

-- the states below k lead no further
run_inside : (A : Automaton) (k : ℕ) → ((p a : ℕ) → p < k → a < A.labels → A.step p a < k) → (w : List ℕ) → Word A.labels w → (p : ℕ) → p < k → run A p w < k
run_inside A k closed [] word p h = h
run_inside A k closed (a ∷ w) (l, word) p h = run_inside A k closed w word (A.step p a) (closed p a h l)

-- were state p not met before its row, then no word would lead to it
pub met_before : (A : Automaton) → FirstMet A → (p : ℕ) → Reaches A A.start p → p < met A.labels A.step p
met_before A first p r = ⊎_elim
    (λ (less : p < n). less)
    (λ (past : n ≤ p).
    let start : A.start < n = omega (arith, first.start, rows_grow A.labels A.step 0 p (omega arith)) in
    let inside = run_inside A n (λ q a h. rows_meet A.labels A.step p q a (omega arith)) r.by r.word A.start start in
    absurd (omega (arith, inside, r.leads)))
    (cases_lt p n)
  where
    n : ℕ
    n = met A.labels A.step p
