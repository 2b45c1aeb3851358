-- The tables of two table texts, and their minimal automata.
use Rattle.std.proofs.Common.{◌≡◌, ℕ, ◌-◌, ◌<◌, true, false, eqb, ltb, List, [], ◌∷◌, length, take, replicate, sym, refl, ap, ◌∙◌, arith}
use Rattle.std.specs.Fmt.{digits}
use Rattle.std.proofs.lemmas.Bool.{eqb-true, ltb-true}
use Rattle.automata.specs.Automata.{Automaton, Word, WellFormed, run}
use Rattle.base.specs.Tables.{automaton}
use Rattle.base.specs.Rows.{no_row, target}
use Rattle.base.specs.declared.table.Row.{Row}
use Rattle.base.specs.declared.table.Table.{Table}
use Rattle.formats.specs.declared.table_text.TableText.{TableText}
use Rattle.grading.specs.declared.grade.Grade.TheVariants.{Registerless}
use Rattle.text.specs.Names.{is_name}
use Rattle.text.specs.declared.labels.name.Name.{Name}
use Rattle.samples.specs.Samples.{TableGraded, turning, idle}
use Rattle.samples.proofs.Judging.{distinct_by, reached_by, numbered_by, registerless_by, unlike}
use Rattle.samples.proofs.Minimals.{minimal_has}
use Rattle.samples.proofs.Testing.{below, below_at}

-- a name of one byte
abbrev letter : (b : ℕ) → is_name (b ∷ []) ≡ true → Name
letter b rule = record { bytes = record { places = b ∷ replicate 15 0; len = 1; fits = omega arith }; rule = rule }

abbrev a : Name
a = letter 97 refl

abbrev b : Name
b = letter 98 refl

-- rows whose targets are among the states
closed_by : (rows : List Row) (states labels : ℕ) → below states (λ p. below labels (λ l. ltb (target rows p l) states)) ≡ true → (p l : ℕ) → p < states → l < labels → target rows p l < states
closed_by rows states labels h p l i k =
    ltb-true _ _ (below_at labels (λ l. ltb (target rows p l) states) (below_at states (λ p. below labels (λ l. ltb (target rows p l) states)) h p i) l k)

abbrev turning_rows : List Row
turning_rows = record { targets = 1 ∷ 0 ∷ replicate 14 0; accepts = true } ∷ record { targets = 0 ∷ 1 ∷ replicate 14 0; accepts = false } ∷ replicate 30 no_row

abbrev turning_table : Table
turning_table = record {
  labels = 2;
  states = 2;
  start = 0;
  rows = turning_rows;
  sized = (omega arith, omega arith, omega arith, omega arith, omega arith);
  closed = closed_by turning_rows 2 2 refl;
}

abbrev turning_read : TableText
turning_read = record {
  labels = record { names = record { places = a ∷ b ∷ replicate 14 a; len = 2; fits = omega arith }; some = omega arith; apart = refl };
  table = turning_table;
}

pub turning_graded : TableGraded turning 2 Registerless
unfolding digits
turning_graded =
    let A = automaton turning_table in
    let f : WellFormed A = record { start = omega arith; step = turning_table.closed } in
    record {
      read = turning_read;
      taken = record { whole = record { fits = omega arith; ended = (take (length turning - 1) turning, refl); named = refl; written = refl }; labels = refl };
      minimal = minimal_has A A 2 Registerless f
          (record {
            labels = refl;
            accepts = λ w k. refl;
            minimal = record { reached = reached_by A f ([] ∷ (0 ∷ []) ∷ []) refl; distinct = distinct_by A f ([] ∷ []) refl };
            numbered = numbered_by A f refl refl refl;
          })
          refl
          (registerless_by A f (λ _. true) (λ p q. unlike (eqb p 0) (eqb q 0)) refl refl refl);
    }

abbrev idle_rows : List Row
idle_rows = record { targets = replicate 16 0; accepts = true } ∷ record { targets = replicate 16 0; accepts = false } ∷ replicate 30 no_row

abbrev idle_table : Table
idle_table = record {
  labels = 1;
  states = 2;
  start = 0;
  rows = idle_rows;
  sized = (omega arith, omega arith, omega arith, omega arith, omega arith);
  closed = closed_by idle_rows 2 1 refl;
}

abbrev idle_read : TableText
idle_read = record {
  labels = record { names = record { places = replicate 16 a; len = 1; fits = omega arith }; some = omega arith; apart = refl };
  table = idle_table;
}

-- one state, which accepts every list
abbrev one : Automaton
one = record { labels = 1; states = 1; start = 0; step = λ _ _. 0; yes = λ _. true }

idle_stays : (w : List ℕ) → Word 1 w → run (automaton idle_table) 0 w ≡ 0
idle_stays [] k = refl
idle_stays (l ∷ w) (h, k) = ap (λ p. run (automaton idle_table) p w) (eqb-true _ _ (below_at 1 (λ l. eqb ((automaton idle_table).step 0 l) 0) refl l h)) ∙ idle_stays w k

pub idle_graded : TableGraded idle 1 Registerless
unfolding digits
idle_graded = record {
  read = idle_read;
  taken = record { whole = record { fits = omega arith; ended = (take (length idle - 1) idle, refl); named = refl; written = refl }; labels = refl };
  minimal = minimal_has (automaton idle_table) one 1 Registerless (record { start = omega arith; step = λ p l h k. omega arith })
      (record {
        labels = refl;
        accepts = λ w k. sym (ap (automaton idle_table).yes (idle_stays w k));
        minimal = record { reached = λ p h. record { by = []; word = tt; leads = omega arith }; distinct = λ p q h k _. omega arith };
        numbered = record { start = refl; next = λ p l h k. omega arith; whole = refl };
      })
      refl
      (λ p q i j m l w k. refl);
}
