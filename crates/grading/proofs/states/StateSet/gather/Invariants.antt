-- The set has those below the counter that pass.
use Rattle.grading.specs.StateSets.{Sifts}
use Rattle.grading.proofs.states.StateSet.gather.Given as goal

abbrev pub invariant-loop-state : goal.invariant-loop-state
invariant-loop-state g l = Sifts (goal.F-post g l.test) l.state l.set
