-- An internal state clashes with the internal states that it meets and is apart from.
use Rattle.std.proofs.Common.{ℕ, ◌<◌, ◌↔◌, sym, subst}
use Rattle.std.proofs.lemmas.Bool.Decides.{not_from_Decides}
use Rattle.automata.specs.States.{Internal, Meet}
use Rattle.base.specs.Tables.{automaton}
use Rattle.grading.specs.StateSets.{In}
use Rattle.grading.proofs.Digits.{empty_none}
use Rattle.grading.proofs.Relating.{found, gathered}
use Rattle.grading.proofs.Searching.{known_of}
use Rattle.grading.proofs.facts.Facts.clashing.Goals as goal

pub returns-then-not-has : goal.returns-then-not-has
returns-then-not-has c q = (
  λ i. absurd (empty_none q (subst (In q) c.none.ensures i)),
  λ (h, d). absurd (not_from_Decides c.has.result c.has.ensures c.if-not-has.true ((c.internal-internal.ensures c.args.state).1 (c.requires, d.p_internal))),
)

pub returns : goal.returns
returns c q =
    let A = automaton c.args.self.now.table.now in
    let p = c.args.state in
    let two : (q : ℕ) → In q c.row.result ↔ ((p < A.states) × (q < A.states) × Meet A p q) = λ q. subst (λ s. In q s ↔ ((p < A.states) × (q < A.states) × Meet A p q)) (sym c.row.ensures) ((known_of c.args.self.now).meet p q) in (
      λ i.
          let h = found A p c.internal-internal.result c.row.result c.intersection-met.result c.apart.result c.intersection.result (Internal A) (Meet A p) c.internal-internal.ensures two c.apart.ensures c.intersection-met.ensures c.intersection.ensures (q, i) in
          (h.0, record { p_internal = ((c.internal-internal.ensures p).0 (c.has.ensures.0 c.if-not-has.false)).1; q_internal = h.1; meet = h.2; apart = h.3 }),
      λ (h, d). gathered A p c.internal-internal.result c.row.result c.intersection-met.result c.apart.result c.intersection.result (Internal A) (Meet A p) c.internal-internal.ensures two c.apart.ensures c.intersection-met.ensures c.intersection.ensures c.requires q (h, d.q_internal, d.meet, d.apart),
    )
