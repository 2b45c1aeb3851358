-- One position more, and then all.
use Rattle.std.proofs.Common.{◌≡◌, ◌+◌, length, sym, ap, subst, arith}
use Rattle.std.proofs.lemmas.Bool.Decides.{not_from_Decides}
use Rattle.paths.specs.Texts.{steps_of}
use Rattle.paths.proofs.Moves.{From, from_all, from_skip, from_step}
use Rattle.paths.proofs.positions.PositionSet.moved.Goals as goal
use Rattle.paths.proofs.positions.PositionSet.moved.Goals.{then-holds, else-holds}

pub loop-at-preserved : goal.loop-at-preserved
loop-at-preserved c =
    let steps = steps_of c.args.path.now in (
      c.loop-at.invariant.0,
      elim c.if-holds.branch [
        | then-holds w ↦ subst (From steps c.args.label c.args.self (c.loop-at.at + 1)) (sym w.next-is) (from_step steps _ _ _ _ _ _ _ c.loop-at.invariant.0 c.loop-at-test.true c.loop-at.invariant.1 (c.holds.ensures.0 w.if-holds.true) w.with_next-next.ensures)
        | else-holds w ↦ subst (From steps c.args.label c.args.self (c.loop-at.at + 1)) (sym w.next-is) (from_skip steps _ _ _ _ c.loop-at.invariant.1 (not_from_Decides _ c.holds.ensures w.if-holds.false))
      ],
    )

pub returns : goal.returns
returns c =
    let steps = steps_of c.args.path.now in
    let e : c.loop-at.at ≡ length steps = omega (arith, ap length c.loop-at.invariant.0) in
    from_all steps _ _ _ (subst (λ j. From steps c.args.label c.args.self j c.loop-at.next) e c.loop-at.invariant.1)
