-- A bit is set where both are.
use Rattle.grading.proofs.Digits.{digit_and}
use Rattle.grading.proofs.states.StateSet.intersection.Goals as goal

pub returns : goal.returns
returns c = digit_and c.args.self.mask c.args.other.mask
