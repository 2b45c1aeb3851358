-- The states that the filter lets through are the lowest of their components.
use Rattle.std.proofs.Common.{rules}
use Rattle.automata.specs.Components.{Lowest}
use Rattle.base.specs.Tables.{automaton}
use Rattle.grading.proofs.Filtering.{counts_below}
use Rattle.grading.proofs.facts.Facts.components.Goals as goal

pub returns : goal.returns
returns c = counts_below _ _ (Lowest (automaton c.args.self.now.table.now)) _ (λ x b q k. (search (rules, k.met), search (k.met))) _ c.count.result c.filter.ensures.closure (search rules) c.count.ensures.ran
