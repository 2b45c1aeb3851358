-- The outcomes of a picking call.
use Rattle.std.proofs.Common.{sym, refl, ap, ◌∙◌}
use Rattle.std.proofs.lemmas.Result.{err_from_is_err_and}
use Rattle.base.specs.Courses.{laid}
use Rattle.capi.specs.Failures.{number_of_end}
use Rattle.capi.specs.Outcomes.{refused, read}
use Rattle.capi.proofs.lent.Lent.pick.Goals as goal

pub returns-in_err-run-clause-picks : goal.returns-in_err-run-clause-picks
returns-in_err-run-clause-picks c =
    let p = err_from_is_err_and c.from_residual-in_err-run.result c.from_residual-in_err-run.ensures.1 in
    let no = c.in_err-run.ensures in
    rw (p.1, p.2) (refused c.in_ok-asked.asked.wanted _ c.if-self-lt-PLACES.false c.in_ok-asked.ensures no.reads.0 refl (λ i. record { stack = no.reads.1 i; picks = no.reads.2 i; totals = no.totals i }))

pub returns-in_err-run-2-clause-picks : goal.returns-in_err-run-2-clause-picks
returns-in_err-run-2-clause-picks c =
    let p = err_from_is_err_and c.from_residual-in_err-run-2.result c.from_residual-in_err-run-2.ensures.1 in
    rw (p.1, p.2) (read c.in_ok-asked.asked.wanted _ _ c.if-self-lt-PLACES.false c.in_ok-asked.ensures c.in_ok-run.ensures.reads (sym (ap number_of_end c.in_err-run-2.was))
    (c.lay.ensures ∙ (λ i. laid (c.places.ensures i) (c.in_ok-run.ensures.totals i))))

pub returns-clause-picks : goal.returns-clause-picks
returns-clause-picks c =
    read c.in_ok-asked.asked.wanted _ _ c.if-self-lt-PLACES.false c.in_ok-asked.ensures c.in_ok-run.ensures.reads (sym (ap number_of_end c.in_ok-run-2.was))
    (c.lay.ensures ∙ (λ i. laid (c.places.ensures i) (c.in_ok-run.ensures.totals i)))
