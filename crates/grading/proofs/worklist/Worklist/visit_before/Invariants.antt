-- The predecessors by the labels below the counter are visited.
use Rattle.grading.specs.Worklists.{Visits, Among}
use Rattle.grading.proofs.worklist.Worklist.visit_before.Given as goal

abbrev pub invariant-loop-label : goal.invariant-loop-label
invariant-loop-label g l = Visits (Among l.label (λ a p q. g.M.Moves.goes l.moves a p q l.pair.first l.pair.second)) l.initial.self l.self
