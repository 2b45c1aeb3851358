-- One state more than none.
use Rattle.std.proofs.Common.{subst, inr, ⊎_elim}
use Rattle.grading.specs.StateSets.{In}
use Rattle.grading.proofs.Digits.{empty_none}
use Rattle.grading.proofs.states.StateSet.only.Goals as goal

pub returns : goal.returns
returns c i = (λ h. ⊎_elim (λ j. absurd (empty_none i (subst (In i) c.none.ensures j))) (λ e. e) ((c.with.ensures i).0 h), λ e. (c.with.ensures i).1 (inr e))
