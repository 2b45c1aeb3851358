-- The targets read so far.
use Rattle.std.proofs.Common.{◌≡◌, length}
use Rattle.text.specs.Labelled.{names_of}
use Rattle.formats.proofs.Storing.{TargetsRead}
use Rattle.formats.proofs.rows.take_targets.Given as goal

abbrev pub invariant-loop-label : goal.invariant-loop-label
invariant-loop-label l = record {
  long : length l.target-items ≡ length (names_of l.labels);
  read : TargetsRead (length (names_of l.labels)) l.text l.label l.target-items l.left;
}
