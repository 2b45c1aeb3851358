-- Two states have one number just where they share a component.
use mathlib.Core.Logic.{∥∥₁_elim, ∥∥₁_prop}
use Rattle.std.proofs.Common.{eqb, get_or, eqb-true}
use borrow.Author.Tests.{eqb-false}
use Rattle.std.proofs.lemmas.Bool.{not-true, not-false}
use Rattle.automata.proofs.Representatives.{together_numbers, numbers_together}
use Rattle.base.specs.Tables.{automaton}
use Rattle.grading.proofs.stackless.StacklessSelector.leaves_for.Goals as goal

pub returns : goal.returns
returns c =
    let s = c.args.self.now in
    let A = automaton s.table in
    let m = get_or s.component s.state 0 in
    let n = get_or s.component c.args.target 0 in (
      λ e t. ∥∥₁_elim s.numbered (λ x y. absurd x) (λ h. eqb-false m n (not-true (eqb m n) e) (together_numbers A s.state c.args.target m n (h s.state s.placed) (h c.args.target c.requires) t)),
      λ e. ∥∥₁_elim s.numbered ∥∥₁_prop (λ h. ∣ numbers_together A s.state c.args.target m n (h s.state s.placed) (h c.args.target c.requires) (eqb-true m n (not-false (eqb m n) e)) ∣₁),
    )
