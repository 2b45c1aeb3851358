-- A state is added where it passes.
use Rattle.std.proofs.Common.{◌≡◌, ◌+◌, sym, subst, arith}
use Rattle.grading.specs.StateSets.{Sifts}
use Rattle.grading.proofs.Gathering.{sifts_none, sifts_with, sifts_skip}
use Rattle.grading.proofs.states.StateSet.gather.Goals as goal
use Rattle.grading.proofs.states.StateSet.gather.Goals.{then-test, else-test}

pub loop-state-init : goal.loop-state-init
loop-state-init g c = sifts_none _ c.none-set.result c.none-set.ensures

pub loop-state-preserved : goal.loop-state-preserved
loop-state-preserved g c =
    let n = c.loop-state.state in
    elim c.if-test.branch [
      | then-test w ↦ subst (Sifts (goal.F-post g c.args.test) (n + 1)) (sym w.set-is) (sifts_with _ n c.loop-state.set w.with-set.result w.if-test.ensures w.with-set.ensures c.loop-state.invariant)
      | else-test w ↦ subst (Sifts (goal.F-post g c.args.test) (n + 1)) (sym w.set-is) (sifts_skip _ n c.loop-state.set w.if-test.ensures c.loop-state.invariant)
    ]

pub returns : goal.returns
returns g c =
    let all : c.loop-state.state ≡ c.args.count = omega arith in
    subst (λ n. Sifts (goal.F-post g c.args.test) n c.loop-state.set) all c.loop-state.invariant
