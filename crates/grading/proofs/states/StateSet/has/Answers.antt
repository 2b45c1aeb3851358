-- The bit of the state tells.
use Rattle.grading.proofs.Digits.{digit_read}
use Rattle.grading.proofs.states.StateSet.has.Goals as goal

pub returns : goal.returns
returns c = digit_read c.args.self.mask c.args.state
