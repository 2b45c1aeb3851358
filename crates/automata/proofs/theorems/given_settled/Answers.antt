use Rattle.automata.proofs.Stands.{opening_stands, closing_stands}
use Rattle.automata.proofs.Given.{given_stands, given_serves}
use Rattle.automata.proofs.theorems.given_settled.Goals as goal

pub returns : goal.returns
returns c = (opening_stands, closing_stands, given_stands, given_serves)
