use Rattle.std.proofs.Common.{length}
use Rattle.pintleapple.proofs.report.picks.Given as goal

-- a tag less waits after each turn
abbrev pub decreases-loop-picks : goal.decreases-loop-picks
decreases-loop-picks g l = length (g.T.TagSource.holds l.source).waiting
