-- Each number's row has its targets and the answer of its old state.
use Rattle.std.proofs.Common.{arith, rules}
use Rattle.base.specs.Rows.{no_row}
use Rattle.grading.proofs.draft.Draft.rows.Goals as goal

pub returns : goal.returns
returns c k l = let h = c.tabulate.ensures k no_row (omega (arith, c.count.ensures)) in search rules
