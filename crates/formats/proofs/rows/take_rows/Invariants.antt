-- The rows read so far.
use Rattle.std.proofs.Common.{◌≡◌, length}
use Rattle.text.specs.Labelled.{names_of}
use Rattle.formats.proofs.Storing.{RowsRead}
use Rattle.formats.proofs.rows.take_rows.Given as goal

abbrev pub invariant-loop-state : goal.invariant-loop-state
invariant-loop-state l = record {
  long : length l.row-items ≡ l.fn.states.count;
  read : RowsRead (length (names_of l.labels)) l.fn.states.count l.text l.state l.row-items l.left;
}
