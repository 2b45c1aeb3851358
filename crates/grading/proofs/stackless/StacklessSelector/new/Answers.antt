-- What is found of the minimal table is what the selector goes by; a knot is a clash too.
use Rattle.std.proofs.Common.{◌+◌, ◌-◌, ◌<◌, sym, refl, subst}
use Rattle.automata.specs.Components.{Components}
use Rattle.automata.specs.Grades.{Stackless, Knot}
use Rattle.automata.specs.Noting.{Serves, Before}
use Rattle.automata.proofs.Knots.{clash_of_knot}
use Rattle.base.specs.Tables.{automaton}
use Rattle.grading.specs.Backward.{Retraces}
use Rattle.grading.specs.Held.{held}
use Rattle.grading.specs.Numbered.{Numbered}
use Rattle.grading.proofs.Agreeing.{well_formed}
use Rattle.grading.proofs.Chained.{Led, led_none, led_below, led_few, some_component, components_again}
use Rattle.grading.proofs.stackless.StacklessSelector.new.Goals as goal

pub returns-then-not-stackless : goal.returns-then-not-stackless
returns-then-not-stackless c =
    let B = automaton c.minimise-minimal.result in
    let m = c.minimise-minimal.ensures.minimised in
    let k = subst (λ t. Knot (automaton t)) c.of-facts.ensures (c.stackless.ensures.1 c.if-not-stackless.true) in
    (refl, record { minimal = B; minimised = m; graded = (clash_of_knot B m.minimal k, k) })

pub overflow_sub-result : goal.overflow_sub-result
overflow_sub-result c =
    let t = c.of-facts.result.table.now in
    some_component (automaton t) c.component_numbers.result c.components.result t.start c.component_numbers.ensures c.components.ensures t.sized.4

pub invariant_of-result : goal.invariant_of-result
invariant_of-result c =
    let t = c.minimise-minimal.result in
    let A = automaton t in
    let p = c.start.result in
    let k = c.components.result - 1 in
    let ns = held c.none.result in
    let numbers = c.component_numbers.result in
    let serves : ∥ Serves A ∥₁ = ∣ record { formed = well_formed t; distinct = c.minimise-minimal.ensures.minimised.minimal.distinct; stackless = subst (λ t. Stackless (automaton t)) c.of-facts.ensures (c.stackless.ensures.0 c.if-not-stackless.false) } ∣₁ in
    let f = c.of-facts.result.table.now in
    let numbered : ∥ Numbered A numbers ∥₁ = ∣ subst (λ t. Numbered (automaton t) numbers) c.of-facts.ensures c.component_numbers.ensures ∣₁ in
    let counted : ∥ Components A (k + 1) ∥₁ = ∣ subst (λ t. Components (automaton t) (k + 1)) c.of-facts.ensures (components_again (automaton f) numbers c.components.result f.start c.component_numbers.ensures c.components.ensures f.sized.4) ∣₁ in
    let led : Led A ns p = led_none A ns p c.none.ensures (subst (λ x. x < A.states) (sym c.start.ensures) t.sized.4) in
    record { serves = serves; retraces = subst (λ t. Retraces (automaton t) (Before (automaton t)) c.back_inside.result) c.of-facts.ensures c.back_inside.ensures; numbered = numbered; counted = counted; placed = led_below A ns p led; chained = led; bounded = led_few A numbers k numbered counted ns p led }

pub returns : goal.returns
returns c =
    let f = c.of-facts.result.table.now in
    record {
      minimised = c.minimise-minimal.ensures.minimised;
      stackless = subst (λ t. Stackless (automaton t)) c.of-facts.ensures (c.stackless.ensures.0 c.if-not-stackless.false);
      state = c.start.ensures;
      depth = refl;
      notes = c.none.ensures;
      counted = subst (λ t. Components (automaton t) (c.components.result - 1 + 1)) c.of-facts.ensures (components_again (automaton f) c.component_numbers.result c.components.result f.start c.component_numbers.ensures c.components.ensures f.sized.4);
    }
