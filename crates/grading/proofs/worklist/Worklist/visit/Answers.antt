-- A pair that is new is added and waits; an old one changes nothing.
use Rattle.std.proofs.Common.{◌≡◌, sym, subst}
use Rattle.std.proofs.lemmas.Bool.Decides.{not_from_Decides}
use Rattle.grading.specs.Worklists.{Found}
use Rattle.grading.proofs.Visiting.{visits_new, visits_old}
use Rattle.grading.proofs.worklist.Worklist.visit.Goals as goal

pub returns-then-not-has : goal.returns-then-not-has
returns-then-not-has c = visits_new c.args.self.now _ c.args.pair c.add.ensures (not_from_Decides c.has.result c.has.ensures c.if-not-has.true) c.push.result c.push.ensures

pub returns-else-not-has : goal.returns-else-not-has
returns-else-not-has c =
    let s = c.args.self.now in
    let x = c.args.pair in
    visits_old (λ p q. (p ≡ x.first) × (q ≡ x.second)) s (λ p q (e, f). subst (λ p. Found s p q) (sym e) (subst (Found s x.first) (sym f) (c.has.ensures.0 c.if-not-has.false)))
