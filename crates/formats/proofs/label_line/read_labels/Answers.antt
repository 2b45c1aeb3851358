-- The ways through a label line by itself.
use Rattle.std.proofs.Common.{ℕ, List, length, sym, ap, subst}
use Rattle.std.proofs.lemmas.List.{nil_from_length}
use Rattle.std.proofs.lemmas.Result.{err_from_is_err_and}
use Rattle.std.proofs.lemmas.Bool.{eqb-true, eqb-false}
use Rattle.text.specs.Labelled.{names_of}
use Rattle.formats.specs.LabelLine.{Headed, unheaded, followed}
use Rattle.formats.proofs.Heading.{headed, badly_named}
use Rattle.formats.proofs.label_line.read_labels.Goals as goal

pub returns-in_err-line : goal.returns-in_err-line
returns-in_err-line c =
    let p = err_from_is_err_and c.from_residual.result c.from_residual.ensures.1 in
    rw (p.1, p.2) (unheaded _ c.in_err-line.ensures)

pub returns-in_err-labels : goal.returns-in_err-labels
returns-in_err-labels c =
    let p = err_from_is_err_and c.from_residual-in_err-labels.result c.from_residual-in_err-labels.ensures.1 in
    rw (p.1, p.2) (unheaded _ (badly_named _ _ _ c.in_ok-line.ensures _ c.in_err-labels.ensures))

pub returns-then-is_empty : goal.returns-then-is_empty
returns-then-is_empty c =
    let none = nil_from_length _ (eqb-true _ _ (sym c.if-is_empty.ensures)) in
    subst (λ (rest : List ℕ). Headed c.args.text.now (names_of c.in_ok-labels.labels) rest) none (headed _ _ _ c.in_ok-line.ensures _ c.in_ok-labels.ensures)

pub returns-else-is_empty : goal.returns-else-is_empty
returns-else-is_empty c =
    followed _ _ (headed _ _ _ c.in_ok-line.ensures _ c.in_ok-labels.ensures) (λ e. eqb-false _ _ (sym c.if-is_empty.ensures) (ap length e))
