-- Each state's home has the internal states.
use Rattle.std.proofs.Common.{rules}
use Rattle.base.specs.Tables.{automaton}
use Rattle.grading.proofs.Agreeing.{well_formed}
use Rattle.grading.proofs.Retracing.{retraces_internal}
use Rattle.grading.proofs.facts.Facts.back_to_internal.Goals as goal

pub returns : goal.returns
returns c = let t = c.args.self.now.table.now in retraces_internal (automaton t) (well_formed t) _ c.back_to.result (λ p home l h. search rules) c.back_to.ensures
