-- A state of the set is marked, and no other.
use Rattle.std.proofs.Common.{rules}
use Rattle.grading.proofs.distances.row_of.Goals as goal

pub returns : goal.returns
returns c q l = let h = c.tabulate.ensures q 0 l in search rules
