-- The ways through a table text after its label line.
use Rattle.std.proofs.Common.{◌≡◌, ℕ, zero, suc, ◌<◌, ◌≤◌, Bool, true, false, ltb, List, [], ◌∷◌, map, length, get_or, take, Some, sym, refl, ap, ◌∙◌, subst, arith}
use Rattle.std.specs.List.{range_with_len, list_all}
use Rattle.std.proofs.lemmas.Bool.{and_from, lt-ltb, both_ways}
use Rattle.std.proofs.lemmas.Bool.Decides.{nat_tests}
use Rattle.base.specs.declared.table.Row.{Row}
use Rattle.base.specs.declared.table.Table.{Table}
use Rattle.base.specs.Rows.{no_row, row, target, each_below, rows_each_below}
use Rattle.base.specs.Tables.{Parts, Has, automaton, parts_refusal}
use Rattle.text.specs.declared.refusal.Refusal.{Refusal}
use Rattle.text.specs.declared.refusal.Refusal.TheVariants.{StatesLine, Row as RowRefusal}
use Rattle.formats.specs.LabelLine.{Headed}
use Rattle.formats.specs.Lines.{line, lines}
use Rattle.formats.specs.Forms.{states_form, rows_form, Filled}
use Rattle.formats.specs.Reading.{Found, Missing}
use Rattle.formats.specs.TableText.{states_line, row_line, row_lines, written, Bounded, Refused, states, row as no_row_lines}

every_from : {X : Type 0} (test : X → Bool) (xs : List X) (n : ℕ) (d : X) → ((i : ℕ) → i < n → test (get_or xs i d) ≡ true) → list_all test (take n xs) ≡ true
every_from test xs zero d h = refl
every_from test [] (suc n) d h = refl
every_from test (x ∷ xs) (suc n) d h = and_from _ _ (h 0 (omega arith)) (every_from test xs n d (λ i l. h (suc i) (omega arith)))

below_from : (labels bound : ℕ) (rows : List Row) → ((p : ℕ) → p < bound → (a : ℕ) → a < labels → target rows p a < bound) → rows_each_below labels bound (take bound rows) ≡ true
below_from labels bound rows h =
    every_from (λ r. each_below bound (take labels r.targets)) rows bound no_row (λ p hp. every_from (λ x. ltb x bound) (row rows p).targets labels 0 (λ a ha. lt-ltb _ _ (h p hp a ha)))

-- where the counts are in bounds, a table is refused only for a target
only_rows : (p : Parts) (why : Refusal) → 1 ≤ p.labels → p.labels ≤ 16 → Bounded p.states p.start → parts_refusal p ≡ Some why → (why ≡ RowRefusal) × (rows_each_below p.labels p.states (take p.states p.rows) ≡ false)
only_rows p why low high bound e = grind (arith, nat_tests)

-- what is written of a table goes by its parts
by_parts : (F : ℕ → ℕ → ℕ → List Row → List ℕ) (p : Parts) (t : Table) → Has p t → F p.labels p.states p.start p.rows ≡ F t.labels t.states t.start t.rows
by_parts F p t has = cc

abbrev written_parts : ℕ → ℕ → ℕ → List Row → List ℕ
written_parts n count start rows = written (record { labels = n; states = count; start = start; step = target rows; yes = λ p. (row rows p).accepts })

module _ (text : List ℕ) (names : List (List ℕ)) (rest : List ℕ) (head : Headed text names rest) where
  pub no_states : Missing states_form rest → Refused text StatesLine
  no_states none = states names rest head (λ count start tail bound e. none (count, start) tail bound e)

  module _ (count start : ℕ) (left : List ℕ) (bound : Bounded count start) (found : Found states_form rest (λ v. (v.0 ≡ count) × (v.1 ≡ start)) left) where
    stated : Headed text names (line (states_line count start) left)
    stated = subst (Headed text names) (found.written (count, start) (refl, refl)) head

    no_rows : ((v : (ℕ → Bool) × (ℕ → ℕ → ℕ)) → ((p : ℕ) → p < count → (a : ℕ) → a < length names → v.1 p a < count) → left ≡ (rows_form (length names) count).write v [] → ⊥) → Refused text RowRefusal
    no_rows none = no_row_lines names count start left stated bound (λ A well labels many e.
        let F : ℕ → ℕ → List ℕ = λ m k. lines (map (λ p. row_line m p (A.yes p) (A.step p)) (range_with_len 0 k)) [] in
        let same : lines (row_lines A) [] ≡ F (length names) count = ap (λ m. F m A.states) labels ∙ ap (F (length names)) many in
        none (A.yes, A.step) (λ p hp a ha. let h = well.step p a (omega arith) (omega arith) in omega arith) (e ∙ same))

    pub rows_missing : Missing (rows_form (length names) count) left → Refused text RowRefusal
    rows_missing none = no_rows (λ v inside e. none v [] (λ p hp a ha. let h = inside p hp a ha in omega arith) e)

    module _ (rows : List Row) (after : List ℕ) (read : Found (rows_form (length names) count) left (Filled (length names) count rows) after) where
      pub rows_followed : (after ≡ [] → ⊥) → Refused text RowRefusal
      rows_followed more = no_rows (λ v inside e. more (sym (read.only v [] (λ p hp a ha. let h = inside p hp a ha in omega arith) e).1))

      pub target_outside : (why : Refusal) → 1 ≤ length names → length names ≤ 16 → parts_refusal (record { labels = length names; states = count; start = start; rows = rows }) ≡ Some why → Refused text why
      target_outside why low high e =
          let o = only_rows (record { labels = length names; states = count; start = start; rows = rows }) why low high bound e in
          subst (Refused text) (sym o.0) (no_rows (λ v inside at.
          let small : (rows_form (length names) count).range v = λ p hp a ha. let h = inside p hp a ha in omega arith in
          let filled = (read.only v [] small at).0 in
          both_ways _ o.1 (below_from (length names) count rows (λ p hp a ha. let h = inside p hp a ha in let same = (filled p hp).1 a ha in omega arith))))

      pub table_made : (t : Table) → after ≡ [] → Has (record { labels = length names; states = count; start = start; rows = rows }) t → Headed text names (written (automaton t))
      table_made t none has =
          let v : (ℕ → Bool) × (ℕ → ℕ → ℕ) = (λ p. (row rows p).accepts, target rows) in
          let all = read.written v (λ p hp. (refl, λ a ha. refl)) ∙ ap ((rows_form (length names) count).write v) none in
          subst (Headed text names) (ap (line (states_line count start)) all ∙ by_parts written_parts _ t has) stated
