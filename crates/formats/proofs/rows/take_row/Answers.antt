-- The parts of a row, one after the other.
use Rattle.std.proofs.Common.{[], ◌∷◌, ◌++◌, Some, codes, rules}
use Rattle.std.proofs.lemmas.Slice.Eq.{strip_prefix_is}
use Rattle.formats.proofs.Storing.{targets_missing, row_found}
use Rattle.formats.proofs.rows.take_row.Goals as goal
use Rattle.std.proofs.lemmas.Bool.Decides.{Decides-eqb}

pub returns-in_err-targets : goal.returns-in_err-targets
returns-in_err-targets c =
    let word = strip_prefix_is Decides-eqb c.args.text.now (codes "row" ++ 9 ∷ []) (Some c.in_ok-row.row) c.in_ok-row.ensures.cases in
    rw c.from_residual-in_err-targets.ensures (targets_missing _ _ _ c.args.labels.now.some (search rules) c.if-number-state.false _ _ _ word c.in_ok-number.ensures _ _ c.in_ok-accepts.ensures c.in_err-targets.ensures)

pub returns : goal.returns
returns c =
    let word = strip_prefix_is Decides-eqb c.args.text.now (codes "row" ++ 9 ∷ []) (Some c.in_ok-row.row) c.in_ok-row.ensures.cases in
    row_found _ _ _ c.args.labels.now.some (search rules) c.if-number-state.false _ _ _ word c.in_ok-number.ensures _ _ c.in_ok-accepts.ensures _ _ c.in_ok-targets.ensures
