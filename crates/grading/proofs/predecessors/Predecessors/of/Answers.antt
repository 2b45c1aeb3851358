-- The pairs begin empty, and at the end have every step.
use Rattle.std.proofs.Common.{arith}
use Rattle.base.specs.Tables.{automaton}
use Rattle.grading.proofs.Indexing.{indexed_none, indexed_all}
use Rattle.grading.proofs.predecessors.Predecessors.of.Goals as goal

pub loop-state-init : goal.loop-state-init
loop-state-init c = indexed_none (automaton c.args.table.now) c.args.table.now.sized.1 c.none-entering.result c.none-entering.ensures

pub invariant_of-result : goal.invariant_of-result
invariant_of-result c = record { indexes = indexed_all (automaton c.args.table.now) c.args.table.now.sized.1 c.loop-state.entering c.loop-state.state (omega arith) c.loop-state.invariant }
