-- The rows below the counter are written.
use Rattle.std.proofs.Common.{◌-◌, ◌*◌}
use Rattle.base.specs.Tables.{automaton}
use Rattle.grading.specs.Drafts.{Drafted}
use Rattle.grading.proofs.minimise.minimise.Given as goal

abbrev pub invariant-loop-number : goal.invariant-loop-number
invariant-loop-number l = Drafted (automaton l.table) l.draft (16 * l.number)

abbrev pub decreases-loop-number : goal.decreases-loop-number
decreases-loop-number l = 32 - l.number
