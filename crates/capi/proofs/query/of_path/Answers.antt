-- The ways through a path's texts.
use Rattle.std.proofs.lemmas.Result.{err_from_is_err_and}
use Rattle.capi.specs.Queries.{no_path}
use Rattle.capi.proofs.Compiling.{compiled}
use Rattle.capi.proofs.query.of_path.Goals as goal

pub returns-in_err-path : goal.returns-in_err-path
returns-in_err-path c =
    let p = err_from_is_err_and c.from_residual-in_err-path.result c.from_residual-in_err-path.ensures.1 in
    rw (p.1, p.2) (no_path c.in_ok-labels.labels c.in_ok-labels.ensures c.in_err-path.ensures)

pub returns : goal.returns
returns c = compiled _ _ c.in_ok-labels.labels _ _ c.in_ok-labels.ensures c.in_ok-path.ensures c.table.ensures
