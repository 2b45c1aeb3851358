-- One pair more is in the set.
use Rattle.std.proofs.Common.{rules}
use Rattle.grading.proofs.Blanks.{adds}
use Rattle.grading.proofs.pairs.Pairs.add.Goals as goal

pub returns : goal.returns
returns c = adds c.args.self.now c.args.first c.args.second c.with.result (search rules) c.requires.0 c.requires.1 c.with.ensures
