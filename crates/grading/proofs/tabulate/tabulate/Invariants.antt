-- The places below the counter are made.
use Rattle.std.proofs.Common.{◌≡◌, length}
use Rattle.grading.specs.Tabulating.{Tabulates}
use Rattle.grading.proofs.tabulate.tabulate.Given as goal

abbrev pub invariant-loop-k : goal.invariant-loop-k
invariant-loop-k g l = Tabulates (goal.F-post g l.make) l.k l.item-items × (length l.item-items ≡ l.count)
