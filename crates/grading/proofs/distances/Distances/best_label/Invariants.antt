-- Of the labels below the counter the best is known.
use Rattle.base.specs.Tables.{automaton}
use Rattle.grading.specs.Measuring.{distance_after}
use Rattle.grading.specs.Walks.{ArgMin}
use Rattle.grading.proofs.distances.Distances.best_label.Given as goal

abbrev pub invariant-loop-label : goal.invariant-loop-label
invariant-loop-label l = ArgMin (distance_after (automaton l.pair.table.now) l.self l.pair.first l.pair.second) l.label l.best
