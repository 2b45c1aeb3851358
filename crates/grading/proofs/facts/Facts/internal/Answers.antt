-- What the labels lead to from the start, in one step or more, is internal.
use Rattle.std.proofs.Common.{◌≡◌, ◌<◌, ◌↔◌, sym, ap, ◌∙◌, subst, arith}
use Rattle.automata.specs.States.{Reaches}
use Rattle.base.specs.Tables.{automaton}
use Rattle.grading.specs.StateSets.{In}
use Rattle.grading.proofs.Relating.{entered_none, entered_more, entered_all}
use Rattle.grading.proofs.Searching.{known_of}
use Rattle.grading.proofs.facts.Facts.internal.Goals as goal

pub loop-label-init : goal.loop-label-init
loop-label-init c = entered_none (automaton c.args.self.now.table.now) c.none-set.result c.none-set.ensures

pub loop-label-preserved : goal.loop-label-preserved
loop-label-preserved c =
    let t = c.args.self.now.table.now in
    let A = automaton t in
    let a = c.loop-label.label in
    let x = c.step-entered.result in
    let is : x ≡ A.step A.start a = c.step-entered.ensures ∙ ap (λ s. A.step s a) c.start.ensures in
    entered_more A a x c.loop-label.set c.row.result c.union-set.result is (subst (λ z. z < t.states) (sym is) (t.closed t.start a t.sized.4 (omega arith)))
    (λ i. subst (λ s. In i s ↔ ((x < A.states) × (i < A.states) × Reaches A x i)) (sym c.row.ensures) ((known_of c.args.self.now).reach x i)) c.union-set.ensures c.loop-label.invariant

pub returns : goal.returns
returns c = entered_all (automaton c.args.self.now.table.now) c.loop-label.label c.loop-label.set (omega arith) c.loop-label.invariant
