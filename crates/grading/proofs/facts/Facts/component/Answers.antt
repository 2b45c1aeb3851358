-- The states that the state reaches and that reach it are its component.
use Rattle.std.proofs.Common.{◌<◌, ◌↔◌, sym, subst, arith}
use Rattle.automata.specs.States.{Reaches}
use Rattle.base.specs.Tables.{automaton}
use Rattle.grading.specs.StateSets.{In}
use Rattle.grading.proofs.Relating.{together_gathers}
use Rattle.grading.proofs.Searching.{known_of}
use Rattle.grading.proofs.facts.Facts.component.Goals as goal

pub returns : goal.returns
returns c =
    let t = c.args.self.now.table.now in
    let A = automaton t in
    let p = c.args.state in
    let reach = (known_of c.args.self.now).reach in
    together_gathers A p c.row.result c.column.result c.intersection.result c.requires
    (λ i. subst (λ s. In i s ↔ ((p < A.states) × (i < A.states) × Reaches A p i)) (sym c.row.ensures) (reach p i))
    (λ i h. (reach i p).0 ((c.column.ensures i).0 h).1)
    (λ i (h, r). (c.column.ensures i).1 (omega (arith, t.sized.3), (reach i p).1 (h, c.requires, r)))
    c.intersection.ensures
