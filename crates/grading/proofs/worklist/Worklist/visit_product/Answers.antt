-- The pairs of one first state more are visited, until none is left.
use Rattle.grading.specs.StateSets.{In}
use Rattle.grading.proofs.Visiting.{visits_none, visits_product}
use Rattle.grading.proofs.worklist.Worklist.visit_product.Goals as goal

pub loop-first-preserved : goal.loop-first-preserved
loop-first-preserved c t h = c.loop-first.invariant t (visits_product c.loop-first.first-iterator c.next.new.self c.in-Some.first c.in-Some.ensures.steps c.loop-first.self c.visit_row.new.self t c.args.product.seconds c.visit_row.ensures h)

pub returns : goal.returns
returns c = c.loop-first.invariant c.loop-first.self (visits_none (λ p q. In p c.loop-first.first-iterator × In q c.args.product.seconds) c.loop-first.self (λ p q (i, _). c.in-None.ensures.steps.0 p i))
