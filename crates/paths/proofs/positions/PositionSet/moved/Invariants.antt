-- The positions below `at` are done.
use Rattle.std.proofs.Common.{◌≡◌}
use Rattle.paths.specs.Texts.{steps_of}
use Rattle.paths.proofs.Moves.{From}
use Rattle.paths.proofs.positions.PositionSet.moved.Given as goal

abbrev pub invariant-loop-at : goal.invariant-loop-at
invariant-loop-at l = (l.step-items ≡ steps_of l.path) × From (steps_of l.path) l.label l.self l.at l.next
