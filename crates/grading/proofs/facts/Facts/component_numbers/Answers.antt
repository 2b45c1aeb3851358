-- Each state has its number.
use Rattle.std.proofs.Common.{rules}
use Rattle.grading.proofs.facts.Facts.component_numbers.Goals as goal

pub returns : goal.returns
returns c p l = let h = c.tabulate.ensures p 0 (search rules) in search rules
