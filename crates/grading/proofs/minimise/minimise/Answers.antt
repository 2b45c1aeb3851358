-- The rows of all numbers make a table, and it is the minimal one.
use Rattle.std.proofs.Common.{◌≡◌, ℕ, ◌*◌, arith}
use Rattle.automata.proofs.Only.{only_minimised}
use Rattle.base.specs.Tables.{automaton}
use Rattle.grading.proofs.Agreeing.{well_formed}
use Rattle.grading.proofs.Drafting.{drafted_begun}
use Rattle.grading.proofs.Making.{not_refused, made}
use Rattle.grading.proofs.minimise.minimise.Goals as goal

pub loop-number-init : goal.loop-number-init
loop-number-init c = drafted_begun c.args.table.now c.begun-draft.result c.start.result c.start.ensures c.begun-draft.ensures

pub unreachable-requires : goal.unreachable-requires
unreachable-requires c =
    let none = not_refused c.args.table.now c.loop-number.draft (16 * c.loop-number.number) c.loop-number.invariant (omega arith) c.labels.result c.count-2.result c.labels.ensures c.count-2.ensures c.rows.result c.rows.ensures in
    let some = c.in-Err.ensures in
    let z : ◌≡◌ {A = ℕ} 0 1 = cc in
    omega arith

pub returns : goal.returns
returns c =
    let t = c.args.table.now in
    let u = c.in-Ok.minimal in
    let m = made t c.loop-number.draft (16 * c.loop-number.number) c.loop-number.invariant (omega arith) c.labels.result c.count-2.result c.labels.ensures c.count-2.ensures c.rows.result c.rows.ensures u c.in-Ok.ensures.1 in
    record { minimised = m; only = only_minimised (automaton t) (automaton u) (well_formed u) m }
