-- The wanted pairs of the first states below the counter are visited.
use Rattle.grading.specs.Worklists.{Visits, Below}
use Rattle.grading.proofs.worklist.Worklist.visit_seeds.Given as goal

abbrev pub invariant-loop-first : goal.invariant-loop-first
invariant-loop-first g l = Visits (Below l.first (g.S.Seeds.wanted l.seeds)) l.initial.self l.self
