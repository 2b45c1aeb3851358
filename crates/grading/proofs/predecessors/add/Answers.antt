-- The step by each label is added to its pairs.
use Rattle.std.proofs.Common.{◌≡◌, ◌*◌, ◌<◌, length, take, sym, ◌∙◌, subst, add-zero, arith, rules, length-set, length-take}
use Rattle.std.proofs.lemmas.List.{get_or-take, get_or_append_left}
use Rattle.base.specs.Tables.{automaton}
use Rattle.grading.specs.Preceding.{Indexed}
use Rattle.grading.proofs.Indexing.{indexed_as, indexed_more, indexed_row}
use Rattle.grading.proofs.predecessors.add.Goals as goal

pub loop-label-init : goal.loop-label-init
loop-label-init c =
    let t = c.args.table.now in
    let m = c.args.entering.now in
    let n = c.labels-count.result in
    let long : length m ≡ 16 = search rules in (
      subst (Indexed (automaton t) (take n m)) (sym (add-zero (16 * c.args.state))) (indexed_as (automaton t) t.sized.1 m (take n m) (16 * c.args.state) (λ a l. get_or-take n m a _ (omega (arith, c.labels-count.ensures))) c.requires.1),
      omega (arith, length-take n m, long, c.labels-count.ensures, t.sized.1),
    )

pub loop-label-preserved : goal.loop-label-preserved
loop-label-preserved c =
    let t = c.args.table.now in
    let m = c.loop-label.pairs-items in
    let a = c.loop-label.label in
    let here : a < t.labels = omega (arith, c.loop-label-test.true, c.loop-label.auto.pairs-items, c.loop-label.invariant.1) in (
      indexed_more (automaton t) t.sized.1 m c.args.state a c.step.result c.add.new.self c.loop-label.invariant.0 here c.step.ensures (omega (arith, c.loop-label-test.true, c.loop-label.auto.pairs-items)) c.add.ensures,
      length-set m a c.add.new.self ∙ c.loop-label.invariant.1,
    )

pub returns : goal.returns
returns c =
    let t = c.args.table.now in
    let m = c.loop-label.pairs-items in
    let n = c.loop-label.label in
    let all : n ≡ t.labels = omega (arith, c.loop-label-test.false, c.loop-label.auto.label-end, c.loop-label.auto.pairs-items, c.loop-label.invariant.1) in
    indexed_as (automaton t) t.sized.1 m _ _ (λ a l. get_or_append_left m _ _ a (omega (arith, c.loop-label.invariant.1))) (indexed_row (automaton t) t.sized.1 m c.args.state n all c.loop-label.invariant.0)
