-- The outcomes of a grading call.
use Rattle.std.proofs.Common.{sym, refl, ap, ◌∙◌}
use Rattle.std.proofs.lemmas.Result.{err_from_is_err_and}
use Rattle.base.specs.Courses.{laid}
use Rattle.capi.specs.Grades.{refused, graded}
use Rattle.capi.proofs.grade.answer_grade.Goals as goal

pub returns-in_err-query : goal.returns-in_err-query
returns-in_err-query c =
    let p = err_from_is_err_and c.from_residual.result c.from_residual.ensures.1 in
    rw (p.1, p.2) (refused _ c.if-answer-lt-PLACES.false (sym c.in_err-query.was) refl refl)

pub returns : goal.returns
returns c =
    let of = c.of-graded.ensures in
    graded _ c.of-graded.result c.if-answer-lt-PLACES.false (sym c.in_ok-query.was) (record { minimal = of.minimal; graded = of.graded; counted = of.counted; settled = of.settled }) refl
    (c.lay.ensures ∙ ap (λ vs. laid vs c.args.answer.now) c.from.ensures)
