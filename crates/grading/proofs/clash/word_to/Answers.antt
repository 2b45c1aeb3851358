-- A word leads to the state just where it leads the start's pair with itself to the state's.
use Rattle.std.proofs.Common.{◌<◌, arith}
use Rattle.automata.proofs.Words.{internal_below}
use Rattle.base.specs.Tables.{automaton}
use Rattle.grading.specs.Words.{labels_of}
use Rattle.grading.proofs.Agreeing.{well_formed}
use Rattle.grading.proofs.Showing.{leads_brought, leads_shortest}
use Rattle.grading.proofs.clash.word_to.Goals as goal

pub only-set-requires : goal.only-set-requires
only-set-requires c = let t = c.args.table.now in omega (arith, internal_below (automaton t) (well_formed t) c.requires, t.sized.3)

pub shortest-requires : goal.shortest-requires
shortest-requires c =
    let t = c.args.table.now in
    let below : c.start-start.result < t.states = omega (arith, c.start-start.ensures, t.sized.4) in
    (leads_brought (automaton t) c.args.state c.only-set.result c.only-set.ensures c.start-start.result c.start-start.ensures c.requires)

pub returns : goal.returns
returns c = leads_shortest (automaton c.args.table.now) c.args.state c.only-set.result c.only-set.ensures c.start-start.result c.start-start.ensures (labels_of c.shortest.result) c.shortest.ensures
