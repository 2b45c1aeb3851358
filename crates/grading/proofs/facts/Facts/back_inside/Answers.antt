-- Each state's home has its component.
use Rattle.std.proofs.Common.{rules}
use Rattle.base.specs.Tables.{automaton}
use Rattle.grading.proofs.Agreeing.{well_formed}
use Rattle.grading.proofs.Retracing.{retraces_inside}
use Rattle.grading.proofs.facts.Facts.back_inside.Goals as goal

pub returns : goal.returns
returns c = let t = c.args.self.now.table.now in retraces_inside (automaton t) (well_formed t) _ c.back_to.result (λ p home l h. search rules) c.back_to.ensures
