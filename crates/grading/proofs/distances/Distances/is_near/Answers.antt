-- Some label leads to such a pair, or none does.
use Rattle.std.proofs.Common.{◌≡◌, ◌≢◌, ℕ, rules}
use borrow.Author.Tests.{tests}
use Rattle.base.specs.Tables.{automaton}
use Rattle.grading.specs.Measuring.{distance_after}
use Rattle.grading.proofs.Measured.{near_read}
use Rattle.grading.proofs.Ranges.{any_below}
use Rattle.grading.proofs.distances.Distances.is_near.Goals as goal

pub returns : goal.returns
returns c =
    let A = automaton c.args.pair.table.now in
    let f : ℕ → ℕ = distance_after A c.args.self.now c.args.pair.first c.args.pair.second in
    near_read A c.args.steps c.args.self.now c.args.pair.first c.args.pair.second c.labels.result c.labels.ensures c.any.result
    (any_below c.labels.result _ _ c.any.result (λ a. f a ≡ c.args.steps) (λ a. f a ≢ c.args.steps) c.any.ensures.ran (λ x q k. search (rules, tests)) (λ x q k. search (rules, tests)))
