-- The pairs with the first states below the counter are tried.
use Rattle.std.proofs.Common.{◌<◌}
use Rattle.base.specs.Tables.{automaton}
use Rattle.grading.specs.Measuring.{Round}
use Rattle.grading.proofs.distances.Distances.measure_all.Given as goal

abbrev pub invariant-loop-first : goal.invariant-loop-first
invariant-loop-first l = Round (automaton l.table) l.steps (λ p _. p < l.first) l.initial.self l.self
