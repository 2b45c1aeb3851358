-- The values, and then the places past them.
use Rattle.std.proofs.Common.{sym}
use Rattle.capi.proofs.Placing.{laid_over}
use Rattle.capi.proofs.laying.lay.Goals as goal

pub returns : goal.returns
returns c = rw c.copy_from_slice.ensures.after (sym (laid_over _ _ c.requires))
