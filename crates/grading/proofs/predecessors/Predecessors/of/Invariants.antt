-- The states below the counter are passed.
use Rattle.std.proofs.Common.{◌*◌}
use Rattle.base.specs.Tables.{automaton}
use Rattle.grading.specs.Preceding.{Indexed}
use Rattle.grading.proofs.predecessors.Predecessors.of.Given as goal

abbrev pub invariant-loop-state : goal.invariant-loop-state
invariant-loop-state l = Indexed (automaton l.table) l.entering (16 * l.state)
