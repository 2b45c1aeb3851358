-- The labels below the counter are passed.
use Rattle.std.proofs.Common.{◌≡◌, ◌+◌, ◌*◌, length}
use Rattle.base.specs.Tables.{automaton}
use Rattle.grading.specs.Preceding.{Indexed}
use Rattle.grading.proofs.predecessors.add.Given as goal

abbrev pub invariant-loop-label : goal.invariant-loop-label
invariant-loop-label l = Indexed (automaton l.table) l.pairs-items (16 * l.state + l.label) × (length l.pairs-items ≡ l.table.labels)
