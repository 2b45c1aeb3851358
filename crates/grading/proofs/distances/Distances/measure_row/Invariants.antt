-- The pairs with the second states below the counter are tried.
use Rattle.std.proofs.Common.{◌≡◌, ◌<◌}
use Rattle.base.specs.Tables.{automaton}
use Rattle.grading.specs.Measuring.{Round}
use Rattle.grading.proofs.distances.Distances.measure_row.Given as goal

abbrev pub invariant-loop-second : goal.invariant-loop-second
invariant-loop-second l = Round (automaton l.table) l.steps (λ p q. (p ≡ l.first) × (q < l.second)) l.initial.self l.self
