-- A step inside the component keeps the notes, and one out of it is noted, with room for it.
use Rattle.std.proofs.Common.{◌≡◌, ◌+◌, ◌<◌, sym, ap, ◌∙◌, subst, arith}
use Rattle.base.specs.Tables.{automaton}
use Rattle.grading.specs.Held.{held}
use Rattle.grading.proofs.Chained.{Led, led_inside, led_across, led_room, led_few}
use Rattle.grading.proofs.stackless.StacklessSelectorSelector.open.Goals as goal
use Rattle.grading.proofs.stackless.StacklessSelectorSelector.open.Goals.{then-leaves_for, else-leaves_for}

pub push-requires : goal.push-requires
push-requires c =
    let s = c.args.self.now in
    let A = automaton s.table in
    let q = c.step-target.result in
    let below : q < A.states = subst (λ x. x < A.states) (sym c.step-target.ensures) (s.table.closed s.state c.args.label s.placed (omega arith)) in
    led_room A s.component s.needed s.numbered s.counted (held s.notes) (s.depth + 1) s.state q c.args.label s.table.sized.3 c.step-target.ensures below (omega arith) (c.leaves_for.ensures.0 c.if-leaves_for.true) s.chained

pub invariant_of-self-2 : goal.invariant_of-self-2
invariant_of-self-2 c =
    let s = c.args.self.now in
    let A = automaton s.table in
    let q = c.step-target.result in
    let below : q < A.states = subst (λ x. x < A.states) (sym c.step-target.ensures) (s.table.closed s.state c.args.label s.placed (omega arith)) in
    let ns = held c.if-leaves_for.self.1.1.1.1.1.1.1.0 in
    let led : Led A ns q = elim c.if-leaves_for.branch [
      | then-leaves_for w ↦ let e : ns ≡ held w.push.new.self = ap (λ x. held x.1.1.1.1.1.1.1.0) w.self-is in led_across A (held s.notes) ns (s.depth + 1) s.state q c.args.label (e ∙ w.push.ensures) c.step-target.ensures below (omega arith) (c.leaves_for.ensures.0 w.if-leaves_for.true) s.chained
      | else-leaves_for w ↦ let e : ns ≡ held s.notes = ap (λ x. held x.1.1.1.1.1.1.1.0) w.self-is in led_inside A (held s.notes) ns s.state q e below (c.leaves_for.ensures.1 w.if-leaves_for.false) s.chained
    ] in
    record { serves = s.serves; retraces = s.retraces; numbered = s.numbered; counted = s.counted; placed = below; chained = led; bounded = led_few A s.component s.needed s.numbered s.counted ns q led }
