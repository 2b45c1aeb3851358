-- And then those of one first state more.
use Rattle.grading.proofs.Visiting.{visits_rows}
use Rattle.grading.proofs.worklist.Worklist.visit_seeds.Goals as goal

pub loop-first-preserved : goal.loop-first-preserved
loop-first-preserved g c = visits_rows (g.S.Seeds.wanted c.args.seeds.now) c.loop-first.first c.row.result c.args.self.now c.loop-first.self c.visit_row.new.self c.row.ensures c.loop-first.invariant c.visit_row.ensures
