-- The distances up to the counter are given.
use Rattle.std.proofs.Common.{◌-◌, ◌≤◌}
use Rattle.base.specs.Tables.{automaton}
use Rattle.grading.proofs.Measured.{Measured}
use Rattle.grading.proofs.distances.Distances.of.Given as goal

abbrev pub invariant-loop-steps : goal.invariant-loop-steps
invariant-loop-steps g l = Measured (automaton l.table) (g.S.Seeds.wanted l.seeds) l.steps l.all × (l.all.most ≤ l.steps)

abbrev pub decreases-loop-steps : goal.decreases-loop-steps
decreases-loop-steps g l = 1024 - l.steps
