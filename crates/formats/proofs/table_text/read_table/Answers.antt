-- The ways through a table text.
use Rattle.std.proofs.Common.{◌≡◌, ℕ, List, length, Some, Option, Bor, sym, ap, arith, MatchOption}
use Rattle.std.proofs.lemmas.List.{nil_from_length}
use Rattle.std.proofs.lemmas.Option.{MatchOption-at_some, MatchOption-at_none}
use Rattle.std.proofs.lemmas.Result.{err_from_is_err_and}
use Rattle.std.proofs.lemmas.Bool.{eqb-true, eqb-false}
use Rattle.text.specs.declared.refusal.Refusal.TheVariants.{StatesLine, Row as RowRefusal}
use Rattle.text.specs.Labelled.{names_of}
use Rattle.text.proofs.Naming.{few_names}
use Rattle.formats.specs.Forms.{states_form, rows_form, Filled}
use Rattle.formats.specs.Reading.{Found, Missing}
use Rattle.formats.specs.TableText.{unheaded}
use Rattle.formats.specs.declared.states.States.{States}
use Rattle.base.specs.declared.table.Row.{Row}
use Rattle.formats.proofs.Heading.{headed, badly_named}
use Rattle.formats.proofs.Tabling.{no_states, rows_missing, rows_followed, target_outside, table_made}
use Rattle.formats.proofs.table_text.read_table.Goals as goal

-- what the readers promise of the states line and of the rows
abbrev States_at : List ℕ → States × Bor (List ℕ) → Type 0
States_at lines p = Found states_form lines (λ v. (v.0 ≡ p.0.count) × (v.1 ≡ p.0.start)) p.1.now

abbrev Rows_at : ℕ → ℕ → List ℕ → List Row × Bor (List ℕ) → Type 0
Rows_at labels count left p = Found (rows_form labels count) left (Filled labels count p.0) p.1.now

states_found : (lines : List ℕ) (o : Option (States × Bor (List ℕ))) (x : States × Bor (List ℕ)) → o ≡ Some x → MatchOption o (Missing states_form lines) (States_at lines) → States_at lines x
states_found lines o x = MatchOption-at_some (Missing states_form lines) (States_at lines) x

rows_found : (labels count : ℕ) (left : List ℕ) (o : Option (List Row × Bor (List ℕ))) (x : List Row × Bor (List ℕ)) → o ≡ Some x → MatchOption o (Missing (rows_form labels count) left) (Rows_at labels count left) → Rows_at labels count left x
rows_found labels count left o x = MatchOption-at_some (Missing (rows_form labels count) left) (Rows_at labels count left) x

pub returns-in_err-line : goal.returns-in_err-line
returns-in_err-line c =
    let p = err_from_is_err_and c.from_residual.result c.from_residual.ensures.1 in
    rw (p.1, p.2) (unheaded _ c.in_err-line.ensures)

pub returns-in_err-labels : goal.returns-in_err-labels
returns-in_err-labels c =
    let p = err_from_is_err_and c.from_residual-in_err-labels.result c.from_residual-in_err-labels.ensures.1 in
    rw (p.1, p.2) (unheaded _ (badly_named _ _ _ c.in_ok-line.ensures _ c.in_err-labels.ensures))

pub returns-in_err-states : goal.returns-in_err-states
returns-in_err-states c =
    let head = headed _ _ _ c.in_ok-line.ensures _ c.in_ok-labels.ensures in
    let lines = c.in_ok-line.lines.now in
    let none = MatchOption-at_none (Missing states_form lines) (States_at lines) c.in_err-states.ensures.ok_part c.take_states.ensures in
    let p = err_from_is_err_and c.from_residual-in_err-states.result c.from_residual-in_err-states.ensures.1 in
    let why : c.in_err-states.field-0.0 ≡ StatesLine = grind arith in
    rw (p.1, p.2, why) (no_states _ _ _ head none)

pub returns-in_err-rows : goal.returns-in_err-rows
returns-in_err-rows c =
    let head = headed _ _ _ c.in_ok-line.ensures _ c.in_ok-labels.ensures in
    let states = c.in_ok-states.states in
    let found = states_found _ _ _ c.in_ok-states.ensures.ok_part c.take_states.ensures in
    let labels = length (names_of c.in_ok-labels.labels) in
    let left = c.in_ok-states.left.now in
    let none = MatchOption-at_none (Missing (rows_form labels states.count) left) (Rows_at labels states.count left) c.in_err-rows.ensures.ok_part c.take_rows.ensures in
    let p = err_from_is_err_and c.from_residual-in_err-rows.result c.from_residual-in_err-rows.ensures.1 in
    let why : c.in_err-rows.field-0.0 ≡ RowRefusal = grind arith in
    rw (p.1, p.2, why) (rows_missing _ _ _ head _ _ _ states.bounded found none)

pub returns-then-not-is_empty : goal.returns-then-not-is_empty
returns-then-not-is_empty c =
    let head = headed _ _ _ c.in_ok-line.ensures _ c.in_ok-labels.ensures in
    let found = states_found _ _ _ c.in_ok-states.ensures.ok_part c.take_states.ensures in
    let rows = rows_found _ _ _ _ _ c.in_ok-rows.ensures.ok_part c.take_rows.ensures in
    rows_followed _ _ _ head _ _ _ c.in_ok-states.states.bounded found c.in_ok-rows.rows c.in_ok-rows.rest.now rows (λ e. eqb-false _ _ (sym c.if-not-is_empty.ensures) (ap length e))

pub returns-in_err-table : goal.returns-in_err-table
returns-in_err-table c =
    let p = err_from_is_err_and c.from_residual-in_err-table.result c.from_residual-in_err-table.ensures.1 in
    let head = headed _ _ _ c.in_ok-line.ensures _ c.in_ok-labels.ensures in
    let found = states_found _ _ _ c.in_ok-states.ensures.ok_part c.take_states.ensures in
    let rows = rows_found _ _ _ _ _ c.in_ok-rows.ensures.ok_part c.take_rows.ensures in
    let labels = c.in_ok-labels.labels in
    rw (p.1, p.2) (target_outside _ _ _ head _ _ _ c.in_ok-states.states.bounded found c.in_ok-rows.rows c.in_ok-rows.rest.now rows _ labels.some (few_names labels.names) (rw c.count.ensures at c.in_err-table.ensures))

pub returns : goal.returns
returns c =
    let head = headed _ _ _ c.in_ok-line.ensures _ c.in_ok-labels.ensures in
    let found = states_found _ _ _ c.in_ok-states.ensures.ok_part c.take_states.ensures in
    let rows = rows_found _ _ _ _ _ c.in_ok-rows.ensures.ok_part c.take_rows.ensures in
    let none = nil_from_length _ (eqb-true _ _ (sym c.if-not-is_empty.ensures)) in
    let has = rw c.count.ensures at c.in_ok-table.ensures.1 in
    record {
      whole = table_made _ _ _ head _ _ _ c.in_ok-states.states.bounded found c.in_ok-rows.rows c.in_ok-rows.rest.now rows _ none has;
      labels = has.labels;
    }
