-- The set has what the labels below the counter lead to from the start.
use Rattle.base.specs.Tables.{automaton}
use Rattle.grading.specs.StateSets.{Gathers}
use Rattle.grading.proofs.Relating.{Entered}
use Rattle.grading.proofs.facts.Facts.internal.Given as goal

abbrev pub invariant-loop-label : goal.invariant-loop-label
invariant-loop-label l = Gathers (Entered (automaton l.self.table.now) l.label) (automaton l.self.table.now).states l.set
