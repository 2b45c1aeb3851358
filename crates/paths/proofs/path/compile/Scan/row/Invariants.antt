-- The targets of the labels below `label` are found.
use Rattle.std.proofs.Common.{◌≡◌, length, get_or}
use Rattle.paths.specs.Scans.{steps_in, labels_in, sets_in, Row, Kept}
use Rattle.paths.proofs.path.compile.Scan.row.Given as goal

abbrev pub invariant-loop-label : goal.invariant-loop-label
invariant-loop-label l = record {
  long : length l.target-items ≡ labels_in l.initial.self;
  kept : Kept l.initial.self l.self;
  row : Row (steps_in l.initial.self) (get_or (sets_in l.initial.self) l.state 0) (sets_in l.initial.self) l.label l.target-items (sets_in l.self);
}
