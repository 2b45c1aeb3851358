-- Each selector's run, with the terms of the table.
use Rattle.std.proofs.Common.{ap, rules}
use Rattle.base.specs.Tables.{automaton}
use Rattle.choosing.proofs.Serving.{read_registerless, read_stackless, read_stack}
use Rattle.choosing.proofs.chosen.Chosen.read.Goals as goal

pub returns-in-Registerless : goal.returns-in-Registerless
returns-in-Registerless g c = read_registerless _ _ _ _ _ _ _ _ _ c.args.self.begins c.in-Registerless.is c.of.ensures

pub returns-in-Stackless : goal.returns-in-Stackless
returns-in-Stackless g c = read_stackless _ _ _ _ _ _ _ _ _ c.args.self.begins c.in-Stackless.is c.of-in-Stackless.ensures

pub returns-in-Stack : goal.returns-in-Stack
returns-in-Stack g c =
    let selector = c.new-selector in
    read_stack _ _ _ _ _ _ _ _ _ c.in-Stack.is (search rules) (record { selector = selector.result; table = ap automaton selector.ensures.table; lent = selector.ensures.bytes; runs = c.of-in-Stack.ensures })
