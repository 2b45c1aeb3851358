-- A bit is set where one is.
use Rattle.grading.proofs.Digits.{digit_or}
use Rattle.grading.proofs.states.StateSet.union.Goals as goal

pub returns : goal.returns
returns c = digit_or c.args.self.mask c.args.other.mask
