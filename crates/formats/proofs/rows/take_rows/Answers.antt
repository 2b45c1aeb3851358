-- One more row, or none, and all of them.
use Rattle.std.proofs.Common.{arith, length-set}
use Rattle.std.proofs.lemmas.List.{length-take-le}
use Rattle.formats.proofs.Storing.{no_rows, row_missing, row_more, rows_found}
use Rattle.formats.proofs.rows.take_rows.Goals as goal

pub loop-state-init : goal.loop-state-init
loop-state-init c = record { long = length-take-le c.args.states.count _ c.args.states.bounded.1; read = no_rows _ _ _ _ }

pub returns-in_err-row : goal.returns-in_err-row
returns-in_err-row c =
    rw c.from_residual.ensures (row_missing _ _ _ _ _ _ (omega (arith, c.loop-state.invariant.long)) c.loop-state.invariant.read c.in_err-row.ensures)

pub loop-state-preserved : goal.loop-state-preserved
loop-state-preserved c = record {
  long = simp length-set c.loop-state.invariant.long;
  read = row_more _ _ _ _ _ _ (omega (arith, c.loop-state.invariant.long)) c.loop-state.invariant.read _ _ (omega arith) c.in_ok-row.ensures;
}

pub returns : goal.returns
returns c = rows_found _ _ _ _ _ _ _ (omega (arith, c.loop-state.invariant.long)) c.loop-state.invariant.long c.loop-state.invariant.read
