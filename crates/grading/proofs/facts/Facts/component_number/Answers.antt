-- The lowest state that shares the component is its number; the state itself is one that does.
use Rattle.base.specs.Tables.{automaton}
use Rattle.grading.proofs.Counting.{not_none, taken_numbers}
use Rattle.grading.proofs.facts.Facts.component_number.Goals as goal

pub unreachable-requires : goal.unreachable-requires
unreachable-requires c = absurd (not_none (automaton c.args.self.now.table.now) c.args.state c.component.result c.requires c.component.ensures c.in-None.ensures.steps.0)

pub returns : goal.returns
returns c = taken_numbers (automaton c.args.self.now.table.now) c.args.state c.component.result c.requires c.component.ensures c.next.new.self c.in-Some.lowest c.in-Some.ensures.steps
