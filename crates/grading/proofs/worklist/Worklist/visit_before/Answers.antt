-- And then those by one label more.
use Rattle.grading.specs.StateSets.{In}
use Rattle.grading.proofs.Visiting.{visits_number}
use Rattle.grading.proofs.worklist.Worklist.visit_before.Goals as goal

pub loop-label-preserved : goal.loop-label-preserved
loop-label-preserved g c =
    let product = c.before-in-loop-label.result in
    visits_number (λ a p q. g.M.Moves.goes c.args.moves.now a p q c.args.pair.first c.args.pair.second) (λ p q. In p product.firsts × In q product.seconds) c.loop-label.label c.args.self.now c.loop-label.self c.visit_product.new.self
    (λ p q. (c.before-in-loop-label.ensures p q).0) (λ p q. (c.before-in-loop-label.ensures p q).1) c.loop-label.invariant c.visit_product.ensures
