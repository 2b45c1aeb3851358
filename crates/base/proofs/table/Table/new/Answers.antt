-- Parts that break no rule make a table that keeps its bounds.
use Rattle.std.proofs.Common.{◌≤◌, sym, arith}
use Rattle.base.proofs.Rows.{rows_inside}
use Rattle.base.proofs.table.Table.new.Goals as goal

pub invariant_of-result : goal.invariant_of-result
invariant_of-result c =
    let some : 1 ≤ c.args.states = omega arith in
    let rows = sym c.if-not-rows_below.ensures in
    record { sized = (omega arith, omega arith, some, omega arith, omega arith); closed = rows_inside c.args.labels c.args.states c.args.rows some rows }
