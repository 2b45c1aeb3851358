-- The state is the lowest of its component where it is the component's number.
use Rattle.base.specs.Tables.{automaton}
use Rattle.grading.proofs.Counting.{lowest_decides}
use Rattle.grading.proofs.facts.Facts.is_lowest.Goals as goal

pub returns : goal.returns
returns c = lowest_decides (automaton c.args.self.now.table.now) c.args.state c.component_number.result c.component_number.ensures
