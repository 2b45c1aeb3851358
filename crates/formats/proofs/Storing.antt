-- Targets and rows that are read into arrays, one more.
use Rattle.std.proofs.Common.{◌≡◌, ℕ, zero, suc, ◌+◌, ◌-◌, ◌<◌, ◌≤◌, Bool, ◌≢◌, List, [], ◌∷◌, ◌++◌, map, length, get_or, set, codes, decimal, sym, refl, ap, ◌∙◌, subst, ⊎_elim, arith, below_more}
use native.Mathlib.Nat.{sub-zero}
use Rattle.std.specs.List.{range_with_len}
use Rattle.std.proofs.lemmas.List.{append_cancel_left, get_or_append_left, get_or-set_same, get_or-set_other}
use Rattle.std.proofs.lemmas.Bool.{cases_lt}
use Rattle.base.specs.declared.table.Row.{Row}
use Rattle.base.specs.Rows.{no_row}
use Rattle.formats.specs.Lines.{ending, line, lines}
use Rattle.formats.specs.Forms.{number_form, answer_form, targets_form, row_form, rows_form, Stored, HasRow, Filled}
use Rattle.formats.specs.Reading.{Found, Missing}
use Rattle.formats.specs.TableText.{answer, row_line}
use Rattle.formats.proofs.Leads.{Leads, found_as, leads_all, leads_none, leads_more}

module _ {X : Type 0} (P : ℕ → X → Type 0) (xs : List X) (n : ℕ) (x d : X) (l : n < length xs) where
  -- the array has what P asks for at each place below the bound
  abbrev Kept : ℕ → List X → Type 0
  Kept bound ys = (k : ℕ) → k < bound → P k (get_or ys k d)

  kept_more : Kept n xs → P n x → Kept (n + 1) (set xs n x)
  kept_more below here =
      below_more _ _
      (λ k h. let ne : k ≢ n = omega arith in subst (P k) (sym (get_or-set_other xs n k x d ne)) (below k h))
      (subst (P n) (sym (get_or-set_same xs n x d l)) here)

  kept_less : Kept (n + 1) (set xs n x) → Kept n xs × P n x
  kept_less all =
      (λ k h. let ne : k ≢ n = omega arith in subst (P k) (get_or-set_other xs n k x d ne) (all k (omega arith)), subst (P n) (get_or-set_same xs n x d l) (all n (omega arith)))

-- the places below the bound stay where others come behind them
module _ {X : Type 0} (P : ℕ → X → Type 0) (xs ys : List X) (n : ℕ) (d : X) (long : length xs ≡ n) where
  kept_longer : ((k : ℕ) → k < n → P k (get_or xs k d)) → (k : ℕ) → k < n → P k (get_or (xs ++ ys) k d)
  kept_longer h k l = subst (P k) (sym (get_or_append_left xs ys d k (omega arith))) (h k l)

  kept_shorter : ((k : ℕ) → k < n → P k (get_or (xs ++ ys) k d)) → (k : ℕ) → k < n → P k (get_or xs k d)
  kept_shorter h k l = subst (P k) (get_or_append_left xs ys d k (omega arith)) (h k l)

ending_some : (f : ℕ → List ℕ) (a n : ℕ) → 0 < n → ending (map f (range_with_len a n)) ≡ 9
ending_some f a zero h = absurd (omega arith)
ending_some f a (suc n) h = refl

ending_none : (f : ℕ → List ℕ) (a n : ℕ) → n ≤ 0 → ending (map f (range_with_len a n)) ≡ 10
ending_none f a zero h = refl
ending_none f a (suc n) h = absurd (omega arith)

-- the targets of the labels from a on
abbrev targets_from : ℕ → ℕ → (ℕ → ℕ) → List ℕ → List ℕ
targets_from labels a step = line (map (λ b. decimal (step b)) (range_with_len a (labels - a)))

-- the targets of the labels below a are read
abbrev pub TargetsRead : ℕ → List ℕ → ℕ → List ℕ → List ℕ → Type 0
TargetsRead labels s a targets left = Leads (targets_form labels) s (Stored a targets) left (targets_from labels a)

pub no_targets : (labels : ℕ) (s targets : List ℕ) → TargetsRead labels s 0 targets s
no_targets labels s targets = record { back = λ step tail h e. e ∙ whole step tail; on = λ step tail r e. (λ a h. absurd (omega arith), e ∙ sym (whole step tail)) }
  where
    whole : (step : ℕ → ℕ) (tail : List ℕ) → targets_from labels 0 step tail ≡ (targets_form labels).write step tail
    whole step tail = ap (λ n. line (map (λ a. decimal (step a)) (range_with_len 0 n)) tail) (sub-zero labels)

module _ (labels : ℕ) (s : List ℕ) (a : ℕ) (targets left : List ℕ) (end : ℕ) (h : a < labels) (tab : a + 1 < labels → end ≡ 9) (newline : labels ≤ a + 1 → end ≡ 10) (lead : TargetsRead labels s a targets left) where
  begins : (step : ℕ → ℕ) (tail : List ℕ) → targets_from labels a step tail ≡ decimal (step a) ++ end ∷ targets_from labels (a + 1) step tail
  begins step tail =
      let f : ℕ → List ℕ = λ b. decimal (step b) in
      let e : labels - a ≡ suc (labels - (a + 1)) = omega arith in
      let is : ending (map f (range_with_len (a + 1) (labels - (a + 1)))) ≡ end =
      ⊎_elim
      (λ (k : a + 1 < labels). ending_some f (a + 1) (labels - (a + 1)) (omega arith) ∙ sym (tab k))
      (λ (k : labels ≤ a + 1). ending_none f (a + 1) (labels - (a + 1)) (omega arith) ∙ sym (newline k))
      (cases_lt (a + 1) labels) in
      ap (λ n. line (map f (range_with_len a n)) tail) e ∙ ap (λ x. f a ++ x ∷ targets_from labels (a + 1) step tail) is

  pub target_missing : Missing (number_form end) left → Missing (targets_form labels) s
  target_missing =
      leads_none (targets_form labels) s (number_form end) (λ step. step a) (λ step r. r a h) (Stored a targets) left (targets_from labels a) (targets_from labels (a + 1)) begins lead

  pub target_more : (t : ℕ) (rest : List ℕ) → a < length targets → Found (number_form end) left (λ n. n ≡ t) rest → TargetsRead labels s (a + 1) (set targets a t) rest
  target_more t rest l =
      leads_more (targets_form labels) s (number_form end) (λ step. step a) (λ step r. r a h) (Stored a targets) left (targets_from labels a) (targets_from labels (a + 1)) begins lead (λ n. n ≡ t) rest (Stored (a + 1) (set targets a t)) (λ step. kept_more (λ k y. step k ≡ y) targets a t 0 l) (λ step. kept_less (λ k y. step k ≡ y) targets a t 0 l)

-- all targets are read, and the array is longer
pub targets_found : (labels : ℕ) (s : List ℕ) (a : ℕ) (targets others left : List ℕ) → a ≡ labels → length targets ≡ labels → TargetsRead labels s a targets left → Found (targets_form labels) s (Stored labels (targets ++ others)) left
targets_found labels s a targets others left all long lead =
    let none : labels - a ≡ 0 = omega arith in
    let found = leads_all (targets_form labels) s (Stored a targets) left (targets_from labels a) (λ step tail. ap (λ n. line (map (λ b. decimal (step b)) (range_with_len a n)) tail) none) lead in
    found_as (targets_form labels) s left found
    (λ v h b k. kept_shorter (λ b y. v b ≡ y) targets others labels 0 long h b (omega arith))
    (λ v h. kept_longer (λ b y. v b ≡ y) targets others labels 0 long (λ b k. h b (omega arith)))

-- the word and the state of a row are read
module _ (labels p n : ℕ) (some : 1 ≤ labels) (fits : p < 256) (is : n ≡ p) (s row after : List ℕ) (word : s ≡ codes "row" ++ 9 ∷ row) (number : Found (number_form 9) row (λ m. m ≡ n) after) where
  abbrev targets_on : Bool × (ℕ → ℕ) → List ℕ → List ℕ
  targets_on v = (targets_form labels).write v.1

  abbrev answer_on : Bool × (ℕ → ℕ) → List ℕ → List ℕ
  answer_on v tail = answer v.0 ++ 9 ∷ targets_on v tail

  parts : (v : Bool × (ℕ → ℕ)) (tail : List ℕ) → (row_form labels p).write v tail ≡ codes "row" ++ 9 ∷ (decimal p ++ 9 ∷ answer_on v tail)
  parts v tail =
      ap (λ e. codes "row" ++ 9 ∷ (decimal p ++ 9 ∷ (answer v.0 ++ e ∷ targets_on v tail))) (ending_some (λ a. decimal (v.1 a)) 0 labels some)

  state_read : Leads (row_form labels p) s (λ _. Unit {0}) after answer_on
  state_read = record {
    back = λ v tail _ e. word ∙ ap (λ t. codes "row" ++ 9 ∷ t) (number.written p (sym is) ∙ ap (λ t. decimal p ++ 9 ∷ t) e) ∙ sym (parts v tail);
    on = λ v tail r e.
        let rest = append_cancel_left (codes "row" ++ 9 ∷ []) row (decimal p ++ 9 ∷ answer_on v tail) (sym word ∙ e ∙ parts v tail) in
        (tt, sym (number.only p (answer_on v tail) fits rest).1);
  }

  module _ (accepts : Bool) (fields : List ℕ) (found : Found answer_form after (λ y. y ≡ accepts) fields) where
    answer_read : Leads (row_form labels p) s (λ v. v.0 ≡ accepts) fields targets_on
    answer_read =
        leads_more (row_form labels p) s answer_form (λ v. v.0) (λ _ _. tt) (λ _. Unit {0}) after answer_on targets_on (λ _ _. refl) state_read (λ y. y ≡ accepts) fields (λ v. v.0 ≡ accepts) (λ _ _ h. h) (λ _ h. (tt, h)) found

    pub targets_missing : Missing (targets_form labels) fields → Missing (row_form labels p) s
    targets_missing =
        leads_none (row_form labels p) s (targets_form labels) (λ v. v.1) (λ _ r. r) (λ v. v.0 ≡ accepts) fields targets_on (λ _ tail. tail) (λ _ _. refl) answer_read

    pub row_found : (targets rest : List ℕ) → Found (targets_form labels) fields (Stored labels targets) rest → Found (row_form labels p) s (HasRow labels (record { targets = targets; accepts = accepts })) rest
    row_found targets rest read =
        leads_all (row_form labels p) s (HasRow labels (record { targets = targets; accepts = accepts })) rest (λ _ tail. tail) (λ _ _. refl) (leads_more (row_form labels p) s (targets_form labels) (λ v. v.1) (λ _ r. r) (λ v. v.0 ≡ accepts) fields targets_on (λ _ tail. tail) (λ _ _. refl) answer_read (Stored labels targets) rest (HasRow labels (record { targets = targets; accepts = accepts })) (λ _ h k. (h, k)) (λ _ h. h) read)

-- the rows of the states from p on
abbrev rows_from : ℕ → ℕ → ℕ → (ℕ → Bool) × (ℕ → ℕ → ℕ) → List ℕ → List ℕ
rows_from labels states p v = lines (map (λ q. row_line labels q (v.0 q) (v.1 q)) (range_with_len p (states - p)))

-- the rows of the states below p are read
abbrev pub RowsRead : ℕ → ℕ → List ℕ → ℕ → List Row → List ℕ → Type 0
RowsRead labels states s p rows left = Leads (rows_form labels states) s (Filled labels p rows) left (rows_from labels states p)

pub no_rows : (labels states : ℕ) (s : List ℕ) (rows : List Row) → RowsRead labels states s 0 rows s
no_rows labels states s rows = record { back = λ v tail h e. e ∙ whole v tail; on = λ v tail r e. (λ p h. absurd (omega arith), e ∙ sym (whole v tail)) }
  where
    whole : (v : (ℕ → Bool) × (ℕ → ℕ → ℕ)) (tail : List ℕ) → rows_from labels states 0 v tail ≡ (rows_form labels states).write v tail
    whole v tail = ap (λ n. lines (map (λ q. row_line labels q (v.0 q) (v.1 q)) (range_with_len 0 n)) tail) (sub-zero states)

module _ (labels states : ℕ) (s : List ℕ) (p : ℕ) (rows : List Row) (left : List ℕ) (h : p < states) (lead : RowsRead labels states s p rows left) where
  row_begins : (v : (ℕ → Bool) × (ℕ → ℕ → ℕ)) (tail : List ℕ) → rows_from labels states p v tail ≡ (row_form labels p).write (v.0 p, v.1 p) (rows_from labels states (p + 1) v tail)
  row_begins v tail =
      let e : states - p ≡ suc (states - (p + 1)) = omega arith in
      ap (λ n. lines (map (λ q. row_line labels q (v.0 q) (v.1 q)) (range_with_len p n)) tail) e

  pub row_missing : Missing (row_form labels p) left → Missing (rows_form labels states) s
  row_missing =
      leads_none (rows_form labels states) s (row_form labels p) (λ v. (v.0 p, v.1 p)) (λ v r. r p h) (Filled labels p rows) left (rows_from labels states p) (rows_from labels states (p + 1)) row_begins lead

  pub row_more : (r : Row) (rest : List ℕ) → p < length rows → Found (row_form labels p) left (HasRow labels r) rest → RowsRead labels states s (p + 1) (set rows p r) rest
  row_more r rest l =
      leads_more (rows_form labels states) s (row_form labels p) (λ v. (v.0 p, v.1 p)) (λ v r. r p h) (Filled labels p rows) left (rows_from labels states p) (rows_from labels states (p + 1)) row_begins lead (HasRow labels r) rest (Filled labels (p + 1) (set rows p r))
      (λ v. kept_more (λ q x. HasRow labels x (v.0 q, v.1 q)) rows p r no_row l)
      (λ v. kept_less (λ q x. HasRow labels x (v.0 q, v.1 q)) rows p r no_row l)

-- all rows are read, and the array is longer
pub rows_found : (labels states : ℕ) (s : List ℕ) (p : ℕ) (rows others : List Row) (left : List ℕ) → p ≡ states → length rows ≡ states → RowsRead labels states s p rows left → Found (rows_form labels states) s (Filled labels states (rows ++ others)) left
rows_found labels states s p rows others left all long lead =
    let none : states - p ≡ 0 = omega arith in
    let found = leads_all (rows_form labels states) s (Filled labels p rows) left (rows_from labels states p) (λ v tail. ap (λ n. lines (map (λ q. row_line labels q (v.0 q) (v.1 q)) (range_with_len p n)) tail) none) lead in
    found_as (rows_form labels states) s left found
    (λ v h q k. kept_shorter (λ q x. HasRow labels x (v.0 q, v.1 q)) rows others states no_row long h q (omega arith))
    (λ v h. kept_longer (λ q x. HasRow labels x (v.0 q, v.1 q)) rows others states no_row long (λ q k. h q (omega arith)))
