-- Some label leads to states that differ, or none does.
use Rattle.std.proofs.Common.{ℕ, rules}
use borrow.Author.Tests.{tests}
use Rattle.base.specs.Tables.{automaton}
use Rattle.grading.specs.Pairing.{Has}
use Rattle.grading.proofs.Agreeing.{well_formed}
use Rattle.grading.proofs.Ranges.{all_below}
use Rattle.grading.proofs.Relating.{almost_read}
use Rattle.grading.proofs.Searching.{known_of}
use Rattle.grading.proofs.facts.Facts.almost.Goals as goal

pub returns : goal.returns
returns c =
    let f = c.args.self.now in
    let A = automaton f.table.now in
    let p = c.args.first in
    let q = c.args.second in
    let P : ℕ → Type 0 = λ a. Has f.differ (A.step p a) (A.step q a) in
    almost_read A (well_formed f.table.now) f.differ (known_of f).differ p q c.labels.result c.labels.ensures c.requires.0 c.requires.1 c.all.result
    (all_below c.labels.result _ _ c.all.result (λ a. ¬ P a) P c.all.ensures.ran (λ x q k. search (rules, tests)) (λ x q k. search (rules, tests)))
