-- The first state that the search finds is the lowest.
use Rattle.std.proofs.Common.{sym, subst, rules}
use borrow.Author.Tests.{tests}
use Rattle.std.proofs.lemmas.Iterator.{first_from_Range}
use Rattle.automata.specs.Lowest.{Lowest}
use Rattle.base.specs.Tables.{automaton}
use Rattle.grading.specs.Backward.{Homeward}
use Rattle.grading.proofs.Agreeing.{well_formed}
use Rattle.grading.proofs.Retracing.{Passes, lowest_read}
use Rattle.grading.proofs.backward.lowest_before.Goals as goal

pub returns : goal.returns
returns c =
    let t = c.args.table.now in
    let A = automaton t in
    let P = Passes A (well_formed t) c.args.home c.args.apart c.args.label in
    subst (Lowest (Homeward A c.args.home c.args.state c.args.label) A.states c.args.state) (sym c.unwrap_or.ensures)
    (lowest_read A (well_formed t) c.args.home c.args.apart c.args.state c.args.label c.states.result c.states.ensures c.requires.0 c.requires.1 c.find.result
    (first_from_Range _ _ _ c.find.result P (λ s. ¬ P s) c.find.ensures.ran (λ x q k. search (rules, tests)) (λ x q k. search (rules, tests))))
