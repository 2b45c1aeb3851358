-- Rounds are made until one gives no distance.
use Rattle.std.proofs.Common.{◌≡◌, refl, arith}
use Rattle.base.specs.Tables.{automaton}
use Rattle.grading.specs.declared.distances.Distances.{Distances}
use Rattle.grading.proofs.Agreeing.{well_formed}
use Rattle.grading.proofs.Measured.{measured_begun, measured_more, most_next, measured_ended}
use Rattle.grading.proofs.distances.Distances.of.Goals as goal

pub loop-steps-init : goal.loop-steps-init
loop-steps-init g c =
    let t = c.args.table.now in
    let d : Distances = record { steps = c.seeded.result; most = 0 } in
    (measured_begun (automaton t) (g.S.Seeds.wanted c.args.seeds.now) d t.sized.3 refl (λ p l. c.seeded.ensures p (omega (arith, c.states.ensures))), omega arith)

pub loop-steps-preserved : goal.loop-steps-preserved
loop-steps-preserved g c =
    let t = c.args.table.now in
    let A = automaton t in
    let wanted = g.S.Seeds.wanted c.args.seeds.now in
    let k = c.loop-steps.steps in
    let d = c.loop-steps.all in
    let e = c.measure_all.new.self in
    let top : d.most ≡ k = omega arith in
    (measured_more A wanted (well_formed t) k d e c.loop-steps.invariant.0 top c.measure_all.ensures, most_next A wanted (well_formed t) k d e c.loop-steps.invariant.0 top c.measure_all.ensures)

pub returns : goal.returns
returns g c =
    let t = c.args.table.now in
    measured_ended (automaton t) (g.S.Seeds.wanted c.args.seeds.now) (well_formed t) c.loop-steps.steps c.loop-steps.all c.loop-steps.invariant.0 (omega arith)
