use Rattle.std.proofs.Common.{length}
use Rattle.base.proofs.Draining.{Sofar}
use Rattle.base.proofs.run.Run.drain.Given as goal

abbrev pub invariant-loop-tag : goal.invariant-loop-tag
invariant-loop-tag g l =
    let holds = g.T.TagSource.holds in
    Sofar g.S.Selector.meaning g.S.Selector.moves l.initial.self (holds l.initial.source) l.initial.list l.self (holds l.source) l.list l.offered l.picks

abbrev pub decreases-loop-tag : goal.decreases-loop-tag
decreases-loop-tag g l = length (g.T.TagSource.holds l.source).waiting
