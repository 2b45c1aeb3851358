-- A table that is written whole is the minimal one.
use Rattle.std.proofs.Common.{◌≡◌, ℕ, zero, suc, ◌+◌, ◌-◌, ◌*◌, ◌<◌, ◌≤◌, List, [], ◌∷◌, ◌++◌, sym, refl, ap, ◌∙◌, subst, arith}
use native.Mathlib.Decide.{ℕ_discrete, dec_lt, dec_le}
use Rattle.automata.specs.Automata.{Automaton, Word, run}
use Rattle.automata.specs.Minimising.{Minimised}
use Rattle.automata.specs.Numbering.{met_in_row, met}
use Rattle.automata.specs.States.{Differ, Equivalent, Reaches}
use Rattle.automata.proofs.Meeting.{row_grows, row_meets, rows_meet}
use Rattle.automata.proofs.Words.{word_append, run_append}
use Rattle.grading.specs.Drafts.{Origin, Building}

equivalent_run : (A : Automaton) (p q : ℕ) (w : List ℕ) → Word A.labels w → Equivalent A p q → Equivalent A (run A p w) (run A q w)
equivalent_run A p q w word e v h = ap A.yes (sym (run_append A p w v)) ∙ e (w ++ v) (word_append A.labels w v word h) ∙ ap A.yes (run_append A q w v)

-- all is written
module _ (A : Automaton) (narrow : A.labels ≤ 16) (o : ℕ → ℕ) (m : ℕ) (T : ℕ → ℕ → ℕ) (n : ℕ) (h : Building A o m T n) (whole : 16 * m ≤ n)
    (B : Automaton) (labels : B.labels ≡ A.labels) (states : B.states ≡ m) (start : B.start ≡ 0)
    (steps : (r b : ℕ) → r < m → B.step r b ≡ T r b) (says : (k : ℕ) → k < m → B.yes k ≡ A.yes (o k)) where
  done : (r b : ℕ) → r < m → b < A.labels → 16 * r + b < n
  done r b l k = omega arith

  -- the new automaton stays like the old one
  like : (p : ℕ) (w : List ℕ) → p < m → Word A.labels w → (run B p w < m) × Equivalent A (run A (o p) w) (o (run B p w))
  like p [] l word = (l, λ v k. refl)
  like p (a ∷ w) l (k, word) =
      let x : ℕ = T p a in
      let y = like x w (h.inside p a k (done p a l k)) word in
      let e : run B (B.step p a) w ≡ run B x w = ap (λ z. run B z w) (steps p a l) in (
        subst (λ z. z < m) (sym e) y.0,
        subst (λ z. Equivalent A (run A (A.step (o p) a) w) (o z)) (sym e) (λ v j. equivalent_run A (A.step (o p) a) (o x) w word (h.follows p a k (done p a l k)) v j ∙ y.1 v j),
      )

  same : (p : ℕ) (w : List ℕ) → p < m → Word A.labels w → B.yes (run B p w) ≡ A.yes (run A (o p) w)
  same p w l word = let y = like p w l word in says (run B p w) y.0 ∙ sym (y.1 [] tt)

  reach : (fuel v : ℕ) → v < fuel → v < m → Reaches B B.start v
  reach zero v l k = absurd (omega arith)
  reach (suc fuel) v l k = cases (ℕ_discrete v 0) (reach fuel)
    where
      later : (y : Origin A T n v) → y.row < m → Reaches B B.start y.row → Reaches B B.start v
      later y i r = record {
        by = r.by ++ y.label ∷ [];
        word = word_append B.labels r.by (y.label ∷ []) r.word (omega (arith, y.below, labels), tt);
        leads = run_append B B.start r.by (y.label ∷ []) ∙ ap (λ z. B.step z y.label) r.leads ∙ steps y.row y.label i ∙ y.is;
      }

      cases : Dec (v ≡ 0) → ((u : ℕ) → u < fuel → u < m → Reaches B B.start u) → Reaches B B.start v
      cases (yes e) before = record { by = []; word = tt; leads = start ∙ sym e }
      cases (no e) before = let y = h.origin v (omega arith) k in later y.0 (omega (arith, y.1)) (before y.0.row (omega (arith, y.1)) (omega (arith, y.1)))

  word_back : (w : List ℕ) → Word A.labels w → Word B.labels w
  word_back w = subst (λ z. Word z w) (sym labels)

  not_apart : (p q : ℕ) → p < m → q < m → Equivalent B p q → Differ A (o p) (o q) → ⊥
  not_apart p q l k e d = d.differ (sym (same p d.by l d.word) ∙ e d.by (word_back d.by d.word) ∙ same q d.by k d.word)

  distinct : (p q : ℕ) → p < m → q < m → Equivalent B p q → p ≡ q
  distinct p q l k e = cases (dec_lt p q) (dec_lt q p)
    where
      cases : Dec (p < q) → Dec (q < p) → p ≡ q
      cases (yes i) j = absurd (not_apart p q l k e (h.apart p q i k))
      cases (no i) (yes j) = absurd (not_apart q p k l (λ w d. sym (e w d)) (h.apart q p j l))
      cases (no i) (no j) = omega arith

  -- how many numbers are met before the row p, and behind its first a targets
  abbrev rows : ℕ → ℕ
  rows = met B.labels B.step

  abbrev places : ℕ → ℕ → ℕ
  places p = met_in_row (B.step p) (rows p)

  met_some : (p : ℕ) → 1 ≤ rows p
  met_some zero = omega arith
  met_some (suc p) = omega (arith, met_some p, row_grows (B.step p) (rows p) B.labels)

  -- a number that stands before a place is met there
  met_before : (p a v : ℕ) → p < m → a < A.labels → (y : Origin A T (16 * p + a) v) → Dec (y.row < p) → v < places p a
  met_before p a v k l y (yes e) =
      let there : T y.row y.label ≡ v = y.is in
      omega (arith, there, steps y.row y.label (omega arith), rows_meet B.labels B.step p y.row y.label e (omega (arith, y.below, labels)), row_grows (B.step p) (rows p) a)
  met_before p a v k l y (no e) =
      let here : y.row ≡ p = omega (arith, y.before, y.below) in
      let there : B.step p y.label ≡ v = sym (ap (λ z. B.step z y.label) here) ∙ steps y.row y.label (omega arith) ∙ y.is in
      omega (arith, there, row_meets (B.step p) (rows p) a y.label (omega (arith, y.before, y.below)))

  next : (p a : ℕ) → p < m → a < A.labels → Dec (B.step p a ≤ 1) → B.step p a ≤ places p a
  next p a l k (yes e) = omega (arith, met_some p, row_grows (B.step p) (rows p) a)
  next p a l k (no e) =
      let v : ℕ = B.step p a - 1 in
      let y : Origin A T (16 * p + a) v = h.met p a v k (done p a l k) (omega arith) (omega (arith, steps p a l)) in
      omega (arith, met_before p a v l k y (dec_lt y.row p))

  -- no number past the states is met
  row_low : (l p a : ℕ) → l ≤ m → p < m → a ≤ A.labels → met_in_row (B.step p) l a ≤ m
  row_low l p zero u k j = u
  row_low l p (suc a) u k j = omega (arith, row_low l p a u k (omega arith), steps p a k, h.inside p a (omega arith) (done p a k (omega arith)))

  met_low : (p : ℕ) → p ≤ m → rows p ≤ m
  met_low zero k = omega (arith, h.some)
  met_low (suc p) k = row_low (rows p) p B.labels (met_low p (omega arith)) (omega arith) (omega (arith, labels))

  -- and the last one is
  met_high : Dec (m ≤ 1) → m ≤ rows m
  met_high (yes e) = omega (arith, met_some m)
  met_high (no e) =
      let y = h.origin (m - 1) (omega arith) (omega arith) in
      let there : T y.0.row y.0.label ≡ m - 1 = y.0.is in
      omega (arith, there, steps y.0.row y.0.label (omega (arith, y.1)), rows_meet B.labels B.step m y.0.row y.0.label (omega (arith, y.1)) (omega (arith, y.0.below, labels)))

  all_met : rows m ≡ m
  all_met = omega (arith, met_low m (omega arith), met_high (dec_le m 1))

  pub minimised : Minimised A B
  minimised = record {
    labels = labels;
    minimal = record {
      reached = λ p l. reach (suc p) p (omega arith) (omega (arith, states));
      distinct = λ p q l k e. distinct p q (omega (arith, states)) (omega (arith, states)) e;
    };
    accepts = λ w word. ap (λ z. B.yes (run B z w)) start ∙ same 0 w h.some word ∙ ap (λ z. A.yes (run A z w)) h.first;
    numbered = record {
      start = start;
      next = λ p a l k. next p a (omega (arith, states)) (omega (arith, labels)) (dec_le (B.step p a) 1);
      whole = ap rows states ∙ all_met ∙ sym states;
    };
  }
