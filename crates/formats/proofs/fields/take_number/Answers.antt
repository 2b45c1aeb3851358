-- The piece before the byte is the decimal text of one number, or of none.
use Rattle.std.proofs.Common.{sym, ap, ◌∙◌, rules}
use Rattle.text.specs.Pieces.{split}
use Rattle.formats.proofs.Splitting.{not_last, number_found, number_missing}
use Rattle.formats.proofs.fields.take_number.Goals as goal

pub returns-in_err-field : goal.returns-in_err-field
returns-in_err-field c =
    rw c.from_residual.ensures (λ n tail small at. not_last c.args.end _ tail _ (ap (split c.args.end) (sym at) ∙ c.in_err-field.ensures))

pub returns-in_err-n : goal.returns-in_err-n
returns-in_err-n c =
    rw c.from_residual-in_err-n.ensures (number_missing c.args.end c.requires _ _ _ c.in_ok-field.ensures.0 c.in_err-n.ensures)

pub returns : goal.returns
returns c =
    number_found c.args.end c.requires _ _ _ c.in_ok-field.ensures.0 c.in_ok-n.n (search rules) c.in_ok-n.ensures
