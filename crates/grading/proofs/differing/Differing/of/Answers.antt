-- The pairs that are found are those that some word tells apart.
use Rattle.base.specs.Tables.{automaton}
use Rattle.grading.proofs.Agreeing.{well_formed, differ_agrees}
use Rattle.grading.proofs.differing.Differing.of.Goals as goal

pub invariant_of-result : goal.invariant_of-result
invariant_of-result c =
    let b = c.args.before.now in
    record { agrees = ∣ differ_agrees (automaton b.table.now) (well_formed b.table.now) b.entering b.indexes c.spread-pairs.result c.of.result.yes c.of.result.no c.of.ensures.0 c.of.ensures.1 c.spread-pairs.ensures ∣₁ }
