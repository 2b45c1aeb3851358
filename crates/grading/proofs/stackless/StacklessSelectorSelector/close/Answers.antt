-- Back to the newest note, or inside the component.
use Rattle.std.proofs.Common.{◌-◌, sym, ap, ◌∙◌, subst, arith}
use Rattle.automata.specs.Lowest.{Lowest}
use Rattle.automata.specs.Noting.{Before}
use Rattle.base.specs.Tables.{automaton}
use Rattle.grading.specs.Held.{held}
use Rattle.grading.proofs.Chained.{Led, led_recalled, led_retraced, led_below, led_few}
use Rattle.grading.proofs.stackless.StacklessSelectorSelector.close.Goals as goal
use Rattle.grading.proofs.stackless.StacklessSelectorSelector.close.Goals.{in-Some, in-None}

pub invariant_of-self : goal.invariant_of-self
invariant_of-self c =
    let s = c.args.self.now in
    let A = automaton s.table in
    let p = c.match-recall.self in
    let before = held s.notes in
    let ns = held c.recall.new.self in
    let led : Led A ns p = elim c.match-recall.branch [
      | in-Some w ↦ let h = w.in-Some.ensures in led_recalled A before ns (s.depth - 1) s.state p h.0 (w.self-is ∙ ap (λ n. n.state) h.1) h.2 s.chained
      | in-None w ↦ let h = w.in-None.ensures in led_retraced A before ns s.state p c.args.label h.1 (subst (λ x. ∥ Lowest (Before A s.state c.args.label) A.states s.state x ∥₁) (sym (w.self-is ∙ w.get-self.ensures)) (s.retraces s.state c.args.label s.placed (omega arith))) s.chained
    ] in
    record { serves = s.serves; retraces = s.retraces; numbered = s.numbered; counted = s.counted; placed = led_below A ns p led; chained = led; bounded = led_few A s.component s.needed s.numbered s.counted ns p led }
