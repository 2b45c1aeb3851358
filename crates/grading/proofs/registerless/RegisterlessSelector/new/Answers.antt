-- A table without a clash is registerless, and one with a clash is not.
use Rattle.std.proofs.Common.{sym, refl, subst, arith}
use Rattle.automata.specs.Grades.{Registerless, Clash}
use Rattle.automata.specs.Holding.{Before}
use Rattle.base.specs.Tables.{automaton}
use Rattle.grading.specs.Backward.{Retraces}
use Rattle.grading.proofs.Agreeing.{well_formed}
use Rattle.grading.proofs.Denying.{given, denied}
use Rattle.grading.proofs.registerless.RegisterlessSelector.new.Goals as goal

pub returns-then-is_some : goal.returns-then-is_some
returns-then-is_some c =
    let clash = subst (λ t. Clash (automaton t)) c.of-facts.ensures (denied _ c.lowest_clash.result (sym c.if-is_some.ensures) c.lowest_clash.ensures) in
    (refl, record { minimal = automaton c.minimise-minimal.result; minimised = c.minimise-minimal.ensures.minimised; clash = clash })

pub invariant_of-result : goal.invariant_of-result
invariant_of-result c =
    let t = c.minimise-minimal.result in
    let registerless = subst (λ t. Registerless (automaton t)) c.of-facts.ensures (given _ c.lowest_clash.result (sym c.if-is_some.ensures) c.lowest_clash.ensures) in
    record {
      inside = omega (arith, t.sized.4, c.start.ensures);
      serves = ∣ record { formed = well_formed t; distinct = c.minimise-minimal.ensures.minimised.minimal.distinct; registerless = registerless } ∣₁;
      retraces = subst (λ t. Retraces (automaton t) (Before (automaton t)) c.back_to_internal.result) c.of-facts.ensures c.back_to_internal.ensures;
    }

pub returns : goal.returns
returns c =
    record {
      minimised = c.minimise-minimal.ensures.minimised;
      registerless = subst (λ t. Registerless (automaton t)) c.of-facts.ensures (given _ c.lowest_clash.result (sym c.if-is_some.ensures) c.lowest_clash.ensures);
      state = c.start.ensures;
    }
