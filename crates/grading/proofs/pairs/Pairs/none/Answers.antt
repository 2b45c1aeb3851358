-- No pair is in the set.
use Rattle.grading.proofs.Blanks.{none_paired}
use Rattle.grading.proofs.pairs.Pairs.none.Goals as goal

pub returns : goal.returns
returns c = none_paired c.none.result c.none.ensures
