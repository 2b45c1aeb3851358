-- A walk from here is the rest of one from the start.
use Rattle.std.proofs.Common.{◌≡◌, ◌-◌, length}
use Rattle.base.specs.Tables.{automaton}
use Rattle.grading.specs.Words.{labels_of}
use Rattle.grading.proofs.Walking.{Walked}
use Rattle.grading.proofs.walk.shortest.Given as goal

abbrev pub invariant-loop-pair : goal.invariant-loop-pair
invariant-loop-pair g l =
    Walked (automaton l.initial.pair.table.now) l.distances l.initial.pair.first l.initial.pair.second (labels_of l.word) (length (labels_of l.word)) l.pair.first l.pair.second
    × (l.pair.table.now ≡ l.initial.pair.table.now)

abbrev pub decreases-loop-pair : goal.decreases-loop-pair
decreases-loop-pair g l = 1024 - length (labels_of l.word)
