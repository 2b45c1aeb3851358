-- Some state makes a knot, or none does.
use Rattle.std.proofs.Common.{rules}
use borrow.Author.Tests.{tests}
use Rattle.automata.specs.Grades.{Knot}
use Rattle.base.specs.Tables.{automaton}
use Rattle.grading.specs.Knowing.{Plain}
use Rattle.grading.proofs.Ranges.{any_below}
use Rattle.grading.proofs.Relating.{stackless_read}
use Rattle.grading.proofs.facts.Facts.stackless.Goals as goal

pub returns : goal.returns
returns c =
    let A = automaton c.args.self.now.table.now in
    stackless_read A c.states.result c.states.ensures c.any.result
    (any_below c.states.result _ _ c.any.result (λ _. Knot A) (Plain A) c.any.ensures.ran (λ x q k. search (rules, tests)) (λ x q k. search (rules, tests)))
