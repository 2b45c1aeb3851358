-- The grade of the table that was read.
use Rattle.capi.proofs.Queried.{grades_read}
use Rattle.capi.proofs.grade.pintleapple_grade_table.Goals as goal

pub returns : goal.returns
returns c = rw c.number_of.ensures (grades_read _ _ _ c.of_text.ensures c.answer_grade.ensures)
