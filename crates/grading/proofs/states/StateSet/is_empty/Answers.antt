-- A mask that is not 0 has a lowest bit.
use Rattle.std.proofs.Common.{sym, ap, ◌∙◌, arith}
use lib.Count.{count_trailing_zeros}
use Rattle.std.proofs.lemmas.Bool.{eqb-true, eqb-false}
use Rattle.grading.specs.StateSets.{digit}
use Rattle.grading.proofs.Digits.{digit_none, lowest_digit}
use Rattle.grading.proofs.states.StateSet.is_empty.Goals as goal

pub returns : goal.returns
returns c =
    let m = c.args.self.mask in (
      λ e i h. omega (arith, sym (ap (λ x. digit x i) (eqb-true m 0 e) ∙ digit_none i) ∙ h),
      λ e. (count_trailing_zeros 32 m, (lowest_digit 32 m (let ne = eqb-false m 0 e in omega arith) (omega arith)).has),
    )
