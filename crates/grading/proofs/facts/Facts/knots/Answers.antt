-- A state of the component that the state meets in it and is apart from makes a knot.
use Rattle.std.proofs.Common.{ℕ, ◌<◌, ◌↔◌, sym, subst}
use Rattle.std.proofs.lemmas.Bool.{not-true, not-false}
use Rattle.automata.specs.States.{Together, MeetInside}
use Rattle.base.specs.Tables.{automaton}
use Rattle.grading.specs.StateSets.{In}
use Rattle.grading.proofs.Relating.{found, missed, knot_from}
use Rattle.grading.proofs.Searching.{known_of}
use Rattle.grading.proofs.facts.Facts.knots.Goals as goal

pub returns : goal.returns
returns c =
    let A = automaton c.args.self.now.table.now in
    let p = c.args.state in
    let two : (q : ℕ) → In q c.row.result ↔ ((p < A.states) × (q < A.states) × MeetInside A p q) = λ q. subst (λ s. In q s ↔ ((p < A.states) × (q < A.states) × MeetInside A p q)) (sym c.row.ensures) ((known_of c.args.self.now).inside p q) in (
      λ e. let h = c.is_empty.ensures.1 (not-true c.is_empty.result e) in knot_from A p h.0 c.requires (found A p c.component-component.result c.row.result c.intersection-met.result c.apart.result c.intersection.result (Together A p) (MeetInside A p) c.component-component.ensures two c.apart.ensures c.intersection-met.ensures c.intersection.ensures h),
      λ e. missed A p c.component-component.result c.row.result c.intersection-met.result c.apart.result c.intersection.result (Together A p) (MeetInside A p) c.component-component.ensures two c.apart.ensures c.intersection-met.ensures c.intersection.ensures (c.is_empty.ensures.0 (not-false c.is_empty.result e)) c.requires,
    )
