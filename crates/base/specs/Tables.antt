-- What a table means, and which parts make one.
use Rattle.std.specs.Prelude.{◌≡◌, ℕ, Bool, cond, not, ◌&&◌, List, [], ◌∷◌, take, Some, None, Ok, Err, Option, Result, nat_le, nat_lt}
use Rattle.automata.specs.Automata.{Automaton}
use Rattle.text.specs.declared.refusal.Refusal.{Refusal}
use Rattle.text.specs.declared.refusal.Refusal.TheVariants.{NameCount, StatesLine}
use Rattle.base.specs.Refusals.{first}
use Rattle.base.specs.Rows.{row, target, rows_each_below}
use Rattle.base.specs.declared.table.Row.{Row}
use Rattle.base.specs.declared.table.Table.{Table}

-- the automaton that a table writes out: all that is said of a table is said of it
abbrev pub automaton : Table → Automaton
automaton t = record {
  labels = t.labels;
  states = t.states;
  start = t.start;
  step = target t.rows;
  yes = λ p. (row t.rows p).accepts;
}

-- the target of a state under a label, where the automaton has both
abbrev pub target_of : Automaton → ℕ → ℕ → Option ℕ
target_of A p a = cond (nat_lt p A.states && nat_lt a A.labels) (Some (A.step p a)) None

-- yes or no of a state that the automaton has
abbrev pub answer_of : Automaton → ℕ → Option Bool
answer_of A p = cond (nat_lt p A.states) (Some (A.yes p)) None

-- what a table is to be made from
pub record Parts : Type 0 where
  pub labels : ℕ
  pub states : ℕ
  pub start : ℕ
  pub rows : List Row

-- the first rule that the parts break
abbrev pub parts_refusal : Parts → Option Refusal
parts_refusal p = first (
    (not (nat_le 1 p.labels && nat_le p.labels 16), NameCount) ∷
    (not (nat_le 1 p.states && (nat_le p.states 32 && nat_lt p.start p.states)), StatesLine) ∷
    (not (rows_each_below p.labels p.states (take p.states p.rows)), Refusal.Row) ∷ [])

-- the table has these parts
pub record Has (p : Parts) (t : Table) : Type 0 where
  pub labels : t.labels ≡ p.labels
  pub states : t.states ≡ p.states
  pub start : t.start ≡ p.start
  pub rows : t.rows ≡ p.rows

abbrev pub Made : Parts → Result Table Refusal → Type 0
Made p (Ok t) = (parts_refusal p ≡ None) × Has p t
Made p (Err why) = parts_refusal p ≡ Some why
