-- The rows below `state` are found.
use Rattle.std.proofs.Common.{◌≡◌, ◌-◌, length}
use Rattle.paths.specs.Scans.{steps_in, labels_in, sets_in, Scanned, Kept}
use Rattle.paths.proofs.path.compile.Scan.rows.Given as goal

abbrev pub invariant-loop-state : goal.invariant-loop-state
invariant-loop-state l = record {
  long : length l.rows ≡ 32;
  kept : Kept l.initial.self l.self;
  scanned : Scanned (steps_in l.initial.self) (labels_in l.initial.self) l.rows l.state (sets_in l.self);
}

abbrev pub decreases-loop-state : goal.decreases-loop-state
decreases-loop-state l = 32 - l.state
