-- The grade is of the minimal table, and settles the query of the table as given.
use Rattle.std.proofs.Common.{sym, subst}
use Rattle.automata.specs.Components.{Components}
use Rattle.automata.specs.Minimising.{Minimised}
use Rattle.base.specs.Tables.{automaton}
use Rattle.grading.specs.Grading.{Earns}
use Rattle.grading.proofs.Agreeing.{well_formed}
use Rattle.grading.proofs.Searching.{known_of}
use Rattle.grading.proofs.Settling.{settles}
use Rattle.grading.proofs.grade.Graded.of.Goals as goal

pub returns : goal.returns
returns c =
    let f = c.of-facts.result in
    let minimised = c.minimise-minimal.ensures.minimised in
    record {
      minimal = minimised;
      graded = subst (λ t. Earns (automaton t) c.grade_by.result) c.of-facts.ensures c.grade_by.ensures;
      counted = subst (λ t. Components (automaton t) c.components.result) c.of-facts.ensures c.components.ensures;
      settled = settles (automaton c.args.table.now) (automaton f.table.now) (subst (λ t. Minimised (automaton c.args.table.now) (automaton t)) (sym c.of-facts.ensures) minimised) (well_formed f.table.now) f.differ f.meet f.reach f.inside (known_of f) c.grade_by.result c.grade_by.ensures;
    }
