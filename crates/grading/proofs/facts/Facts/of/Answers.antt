-- The pairs that are found are those of the four relations.
use Rattle.std.proofs.Common.{subst}
use mathlib.Core.Logic.{∥∥₁_map}
use Rattle.automata.specs.States.{Differ}
use Rattle.base.specs.Tables.{automaton}
use Rattle.grading.specs.Knowing.{Agrees}
use Rattle.grading.specs.Preceding.{Indexes}
use Rattle.grading.proofs.Agreeing.{well_formed, meet_agrees, reach_agrees, inside_agrees}
use Rattle.grading.proofs.facts.Facts.of.Goals as goal

pub invariant_of-result : goal.invariant_of-result
invariant_of-result c =
    let t = c.args.table.now in
    let A = automaton t in
    let before = c.of.result.entering in
    let indexes = subst (λ t. Indexes (automaton t) before) c.of.ensures c.of.result.indexes in
    let reach = reach_agrees A (well_formed t) before indexes c.spread-reach.result c.spread-reach.ensures in
    let d = c.of-2.result in
    let differ = subst (λ t. ∥ Agrees (automaton t).states (Differ (automaton t)) d.pairs ∥₁) c.of.ensures (subst (λ t. ∥ Agrees (automaton t).states (Differ (automaton t)) d.pairs ∥₁) c.of-2.ensures d.agrees) in
    record {
      known = ∥∥₁_map differ (λ agrees. record {
        differ = agrees;
        meet = meet_agrees A (well_formed t) before indexes c.spread.result c.spread.ensures;
        reach = reach;
        inside = inside_agrees A (well_formed t) before indexes c.spread-2.result c.spread-reach.result reach c.spread-2.ensures;
      });
    }
