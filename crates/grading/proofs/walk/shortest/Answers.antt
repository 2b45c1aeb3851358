-- Each label is the best one, until the distance is 0.
use Rattle.std.proofs.Common.{◌≡◌, [], ◌∷◌, length, refl, ap, ◌∙◌, subst, arith, length-append}
use Rattle.base.specs.Tables.{automaton}
use Rattle.grading.specs.Walks.{Best}
use Rattle.grading.specs.Words.{labels_of}
use Rattle.grading.proofs.Agreeing.{well_formed}
use Rattle.grading.proofs.Walking.{walked_none, walked_more, walked_all}
use Rattle.grading.proofs.walk.shortest.Goals as goal

pub loop-pair-init : goal.loop-pair-init
loop-pair-init g c =
    let x = c.args.pair in
    let w = c.empty-word.result in
    (walked_none (automaton x.table.now) (well_formed x.table.now) (g.S.Seeds.wanted c.args.seeds.now) c.of-distances.result c.of-distances.ensures x.first x.second (labels_of w) (length (labels_of w)) x.inside.0 x.inside.1 c.requires c.empty-word.ensures (ap length c.empty-word.ensures), refl)

pub returns-then-get-eq0 : goal.returns-then-get-eq0
returns-then-get-eq0 g c =
    let x = c.args.pair in
    let t = x.table.now in
    let d = c.of-distances.result in
    let u = c.loop-pair.word in
    let here = c.loop-pair.pair in
    let a = c.best_label-label.result in
    let next = c.step-pair.result in
    let same = c.loop-pair.invariant.1 in
    walked_all (automaton t) (well_formed t) (g.S.Seeds.wanted c.args.seeds.now) d c.of-distances.ensures x.first x.second (labels_of u) (length (labels_of u)) here.first here.second a c.loop-pair.invariant.0
    (subst (λ t. Best (automaton t) d here.first here.second a) same c.best_label-label.ensures) next.first next.second
    (subst (λ t. next.first ≡ (automaton t).step here.first a) same c.step-pair.ensures.first) (subst (λ t. next.second ≡ (automaton t).step here.second a) same c.step-pair.ensures.second)
    (labels_of c.push.new.self) c.push.ensures x.inside.0 x.inside.1 (omega (arith, c.get.ensures))

pub loop-pair-preserved : goal.loop-pair-preserved
loop-pair-preserved g c =
    let x = c.args.pair in
    let t = x.table.now in
    let d = c.of-distances.result in
    let u = c.loop-pair.word in
    let here = c.loop-pair.pair in
    let a = c.best_label-label.result in
    let next = c.step-pair.result in
    let same = c.loop-pair.invariant.1 in (
      walked_more (automaton t) (well_formed t) (g.S.Seeds.wanted c.args.seeds.now) d c.of-distances.ensures x.first x.second (labels_of u) (length (labels_of u)) here.first here.second a c.loop-pair.invariant.0
          (subst (λ t. Best (automaton t) d here.first here.second a) same c.best_label-label.ensures) next.first next.second
          (subst (λ t. next.first ≡ (automaton t).step here.first a) same c.step-pair.ensures.first) (subst (λ t. next.second ≡ (automaton t).step here.second a) same c.step-pair.ensures.second)
          (labels_of c.push.new.self) c.push.ensures (λ z. c.if-get-eq0.false (omega (arith, c.get.ensures))) (length (labels_of c.push.new.self)) (ap length c.push.ensures ∙ length-append (labels_of u) (a ∷ [])),
      c.step-pair.ensures.table ∙ same,
    )
