-- Each label has its lowest state.
use Rattle.std.proofs.Common.{rules}
use Rattle.grading.proofs.facts.Facts.back_from.Goals as goal

pub returns : goal.returns
returns c a l = let h = c.tabulate.ensures a 0 (search rules) in search rules
