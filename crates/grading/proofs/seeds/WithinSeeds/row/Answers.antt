-- A state that is not of the set has no wanted pair.
use Rattle.std.proofs.Common.{subst}
use Rattle.std.proofs.lemmas.Bool.Decides.{not_from_Decides}
use Rattle.grading.specs.StateSets.{In}
use Rattle.grading.proofs.Digits.{empty_none}
use Rattle.grading.proofs.seeds.WithinSeeds.row.Goals as goal

pub returns-else-has : goal.returns-else-has
returns-else-has c q = (λ i. absurd (empty_none q (subst (In q) c.none.ensures i)), λ (i, _). absurd (not_from_Decides c.has.result c.has.ensures c.if-has.false i))
