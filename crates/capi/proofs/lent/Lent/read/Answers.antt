-- The ways to a run, and the run.
use Rattle.std.proofs.Common.{sym, refl, ap}
use Rattle.std.proofs.lemmas.Result.{err_from_is_err_and}
use Rattle.choosing.specs.Kinds.{number_of_kind}
use Rattle.capi.specs.Outcomes.{no_selector, no_source}
use Rattle.capi.proofs.lent.Lent.read.Goals as goal

pub returns-in_err-chosen-clause-reads : goal.returns-in_err-chosen-clause-reads
returns-in_err-chosen-clause-reads c =
    let p = err_from_is_err_and c.from_residual-in_err-chosen.result c.from_residual-in_err-chosen.ensures.1 in
    rw (p.1, p.2) (no_selector c.in_ok-table.table (sym c.in_ok-table.was) c.in_err-chosen.ensures, refl, refl)

pub returns-in_err-source-clause-reads : goal.returns-in_err-source-clause-reads
returns-in_err-source-clause-reads c =
    let p = err_from_is_err_and c.from_residual-in_err-source.result c.from_residual-in_err-source.ensures.1 in
    let long = c.in_err-source.ensures in
    rw (p.1, p.2) (no_source c.in_ok-table.table c.in_ok-chosen.chosen (sym c.in_ok-table.was) c.in_ok-chosen.ensures long.0 long.1, refl, refl)

pub returns-clause-reads : goal.returns-clause-reads
returns-clause-reads c =
    let starts = c.in_ok-source.ensures in
    record {
      table = c.in_ok-table.table;
      chosen = c.in_ok-chosen.chosen;
      queried = sym c.in_ok-table.was;
      chooses = c.in_ok-chosen.ensures;
      few = starts.0;
      selected = ap number_of_kind c.kind.ensures;
      reads = rw (sym starts.1, sym c.in_ok-chosen.ensures.0) c.read.ensures;
    }
