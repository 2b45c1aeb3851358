-- Once nothing waits, just the pairs that come to a wanted one are found.
use Rattle.std.proofs.Common.{sym, refl, subst, arith}
use Rattle.base.specs.Tables.{automaton}
use Rattle.grading.specs.Worklists.{Below}
use Rattle.grading.proofs.Halfway.{Halfway, halfway_begun, halfway_more, halfway_ended}
use Rattle.grading.proofs.spread.spread.Goals as goal

pub loop-pair-init : goal.loop-pair-init
loop-pair-init g c =
    let A = automaton c.args.table.now in
    let goes = g.M.Moves.goes c.args.moves.now in
    let wanted = g.S.Seeds.wanted c.args.seeds.now in
    let t = c.visit_seeds.new.self in
    subst (λ n. Halfway A.labels goes (Below n wanted) t) c.states.ensures (halfway_begun A.labels goes (Below c.states.result wanted) _ t c.none.ensures (omega (arith, c.new.ensures.len)) c.visit_seeds.ensures)

pub loop-pair-preserved : goal.loop-pair-preserved
loop-pair-preserved g c =
    let A = automaton c.args.table.now in
    let goes = g.M.Moves.goes c.args.moves.now in
    let wanted = Below A.states (g.S.Seeds.wanted c.args.seeds.now) in
    let s = c.loop-pair.list in
    let u = c.visit_before.new.self in
    let now : Halfway c.labels.result goes wanted s = subst (λ n. Halfway n goes wanted s) (sym c.labels.ensures) c.loop-pair.invariant in
    subst (λ n. Halfway n goes wanted u) c.labels.ensures (halfway_more c.labels.result goes wanted s _ u c.in-Some.pair now refl c.in-Some.ensures c.visit_before.ensures)

pub returns : goal.returns
returns g c =
    let A = automaton c.args.table.now in
    halfway_ended A.labels (g.M.Moves.goes c.args.moves.now) (Below A.states (g.S.Seeds.wanted c.args.seeds.now)) c.loop-pair.list c.loop-pair.invariant c.in_default.ensures.0
