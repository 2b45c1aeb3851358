-- Each pair that is found comes to a wanted one, and waits unless its predecessors are found.
use Rattle.base.specs.Tables.{automaton}
use Rattle.grading.specs.Worklists.{load, Below}
use Rattle.grading.proofs.Halfway.{Halfway}
use Rattle.grading.proofs.spread.spread.Given as goal

abbrev pub invariant-loop-pair : goal.invariant-loop-pair
invariant-loop-pair g l = Halfway (automaton l.table).labels (g.M.Moves.goes l.moves) (Below (automaton l.table).states (g.S.Seeds.wanted l.seeds)) l.list

abbrev pub decreases-loop-pair : goal.decreases-loop-pair
decreases-loop-pair g l = load l.list
