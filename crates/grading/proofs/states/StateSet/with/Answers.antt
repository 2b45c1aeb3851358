-- The bit of the state is set.
use Rattle.std.proofs.Common.{◌≡◌, ◌⊎◌, ◌↔◌, sym, subst}
use lib.Bits.{bit_or}
use Rattle.std.proofs.lemmas.Nat.{one_shl}
use Rattle.grading.specs.StateSets.{digit}
use Rattle.grading.proofs.Digits.{digit_with}
use Rattle.grading.proofs.states.StateSet.with.Goals as goal

pub returns : goal.returns
returns c i =
    let m = c.args.self.mask in
    subst (λ x. digit (bit_or m x) i ≡ 1 ↔ ((digit m i ≡ 1) ⊎ (i ≡ c.args.state))) (sym (one_shl c.args.state 32 c.requires)) (digit_with m c.args.state i)
