-- One pair more is visited, until none is left.
use Rattle.std.proofs.Common.{◌≡◌}
use Rattle.grading.specs.StateSets.{In}
use Rattle.grading.proofs.Visiting.{visits_none, visits_row}
use Rattle.grading.proofs.worklist.Worklist.visit_row.Goals as goal

pub loop-second-preserved : goal.loop-second-preserved
loop-second-preserved c t h = c.loop-second.invariant t (visits_row c.loop-second.second-iterator c.next.new.self c.in-Some.second c.in-Some.ensures.steps c.loop-second.self c.visit.new.self t c.args.first c.visit.ensures h)

pub returns : goal.returns
returns c = c.loop-second.invariant c.loop-second.self (visits_none (λ p q. (p ≡ c.args.first) × In q c.loop-second.second-iterator) c.loop-second.self (λ p q (_, i). c.in-None.ensures.steps.0 q i))
