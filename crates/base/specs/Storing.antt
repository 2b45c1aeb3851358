-- How the stack selector holds its store.
use Rattle.std.specs.Prelude.{◌≡◌}
use Rattle.std.proofs.Common.{ap}
use Rattle.automata.specs.Storing.{Storing}
use Rattle.base.specs.Stacks.{used}
use Rattle.base.specs.Tables.{automaton}
use Rattle.base.specs.declared.stack_selector.StackSelector.{StackSelector}

-- the same table, and the same lent memory
pub record Kept (s t : StackSelector) : Type 0 where
  pub table : t.table.now ≡ s.table.now
  pub lent : t.store.places.ghost_name ≡ s.store.places.ghost_name

abbrev pub storing : Storing StackSelector
storing = record {
  automaton = λ s. automaton s.table.now;
  state = λ s. s.state;
  bytes = λ s. s.store.places.now;
  used = λ s. used s.store;
  kept = Kept;
  kept_automaton = λ s t k. ap automaton k.table;
}
