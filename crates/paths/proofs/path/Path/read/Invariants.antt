-- The steps read so far are those before the rest.
use Rattle.std.proofs.Common.{length}
use Rattle.text.specs.Labelled.{names_of}
use Rattle.paths.proofs.Reading.{Sofar}
use Rattle.paths.proofs.path.Path.read.Given as goal

abbrev pub invariant-loop-stored : goal.invariant-loop-stored
invariant-loop-stored l = Sofar (names_of l.labels) l.text l.rest l.steps l.stored

abbrev pub decreases-loop-stored : goal.decreases-loop-stored
decreases-loop-stored l = length l.rest
