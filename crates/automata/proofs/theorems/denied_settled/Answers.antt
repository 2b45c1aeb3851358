use Rattle.automata.proofs.Denied.{registerless_iff, denied_errs}
use Rattle.automata.proofs.theorems.denied_settled.Goals as goal

pub returns : goal.returns
returns c = (registerless_iff, denied_errs)
