-- The first state that clashes decides, or none does.
use Rattle.std.proofs.Common.{ℕ, arith, below_more}
use Rattle.automata.specs.Grades.{Clashing}
use Rattle.base.specs.Tables.{automaton}
use Rattle.grading.proofs.Agreeing.{well_formed}
use Rattle.grading.proofs.Relating.{registerless_from, no_clash, lowest_clash}
use Rattle.grading.proofs.facts.Facts.lowest_clash.Goals as goal

pub loop-first-preserved : goal.loop-first-preserved
loop-first-preserved c =
    let t = c.args.self.now.table.now in
    below_more (λ p. (q : ℕ) → ¬ Clashing (automaton t) p q) c.loop-first.first c.loop-first.invariant
    (no_clash (automaton t) (well_formed t) c.loop-first.first c.clashing.result c.clashing.ensures c.in_default.ensures.steps.0)

pub returns : goal.returns
returns c =
    let t = c.args.self.now.table.now in
    registerless_from (automaton t) (well_formed t) (λ p l. c.loop-first.invariant p (omega arith))

pub returns-in-Some : goal.returns-in-Some
returns-in-Some c =
    let t = c.args.self.now.table.now in
    lowest_clash (automaton t) (well_formed t) c.loop-first.first c.clashing.result c.clashing.ensures c.next.new.self c.in-Some.second c.in-Some.ensures.steps c.loop-first.invariant
