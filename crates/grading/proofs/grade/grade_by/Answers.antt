-- The first grade that is not denied is given.
use Rattle.base.specs.Tables.{automaton}
use Rattle.grading.proofs.Denying.{given, denied}
use Rattle.grading.proofs.grade.grade_by.Goals as goal

pub returns-then-is_none : goal.returns-then-is_none
returns-then-is_none c = given (automaton c.args.facts.now.table.now) c.lowest_clash.result c.if-is_none.ensures c.lowest_clash.ensures

pub returns-then-stackless : goal.returns-then-stackless
returns-then-stackless c = (denied (automaton c.args.facts.now.table.now) c.lowest_clash.result c.if-is_none.ensures c.lowest_clash.ensures, c.stackless.ensures.0 c.if-stackless.true)

pub returns : goal.returns
returns c = (denied (automaton c.args.facts.now.table.now) c.lowest_clash.result c.if-is_none.ensures c.lowest_clash.ensures, c.stackless.ensures.1 c.if-stackless.false)
