-- The state that it goes back to is one of the table's.
use Rattle.std.proofs.Common.{◌<◌, sym, subst, arith}
use Rattle.automata.specs.Holding.{Before}
use Rattle.base.specs.Tables.{automaton}
use Rattle.grading.proofs.Retracing.{back_below}
use Rattle.grading.proofs.registerless.RegisterlessSelectorSelector.close.Goals as goal

pub invariant_of-self : goal.invariant_of-self
invariant_of-self c =
    let s = c.args.self.now in
    let A = automaton s.table in
    record { inside = subst (λ p. p < A.states) (sym c.get-self.ensures) (back_below A (Before A) s.backward s.retraces s.state c.args.label s.inside (omega arith)); serves = s.serves; retraces = s.retraces }
