-- The places before the row stand in the draft, those of the labels so far in the local row.
use Rattle.std.proofs.Common.{◌≡◌, ◌+◌, ◌*◌, ◌<◌, length}
use Rattle.base.specs.Tables.{automaton}
use Rattle.grading.specs.Drafts.{olds, count, Drafted}
use Rattle.grading.proofs.Drafting.{put}
use Rattle.grading.proofs.draft.Draft.write_row.Given as goal

abbrev pub invariant-loop-label : goal.invariant-loop-label
invariant-loop-label l = record {
  tall : length l.self.targets ≡ 32;
  long : length l.target-items ≡ l.differ.table.now.labels;
  drafted : Drafted (automaton l.differ.table.now) (put l.self l.number l.target-items) (16 * l.number + l.label);
  row : l.number < count l.self;
  state : l.state ≡ olds l.self l.number;
}
