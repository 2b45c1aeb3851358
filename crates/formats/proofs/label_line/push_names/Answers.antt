-- One more name, or one that stands twice.
use Rattle.std.proofs.Common.{◌∙◌, arith, rules, tests}
use Rattle.std.proofs.lemmas.List.{length_push, take_all}
use Rattle.std.proofs.lemmas.Result.{err_from_is_err_and}
use Rattle.formats.proofs.NameFields.{fields, field_first, field_later, field_last, first_taken, push_refused, names_split, names_more}
use Rattle.formats.proofs.label_line.push_names.Goals as goal

pub returns-in_err-labels : goal.returns-in_err-labels
returns-in_err-labels c =
    let s = c.args.names.now in
    let cut = c.split-fields in
    let first = field_first _ s cut.result cut.ensures.rest cut.ensures.done (λ x b q k. search (rules, tests)) _ _ _ c.in-Some.is c.next.ensures.steps in
    let taken = first_taken (fields s) _ _ c.requires.0 first c.in_err-labels.ensures in
    absurd (grind arith)

pub loop-name-init : goal.loop-name-init
loop-name-init c =
    let s = c.args.names.now in
    let cut = c.split-fields in
    let first = field_first _ s cut.result cut.ensures.rest cut.ensures.done (λ x b q k. search (rules, tests)) _ _ _ c.in-Some.is c.next.ensures.steps in
    let taken = first_taken (fields s) _ _ c.requires.0 first c.in_ok-labels.ensures in
    cc

pub loop-name-preserved : goal.loop-name-preserved
loop-name-preserved c =
    let s = c.args.names.now in
    let cut = c.split-fields in
    let next = field_later _ s cut.result cut.ensures.rest cut.ensures.done (λ x b q k. search (rules, tests)) _ _ _ c.in-Some.is c.next.ensures.steps _ c.into_iter-name-iterator.ensures.into_iter_gives _ _ c.loop-name.yielded_by _ _ c.next-in-loop-name.ensures.steps _ c.in-Some-name.is in
    names_more (fields s) _ _ _ c.loop-name.invariant next _ _ (length_push c.loop-name.yielded c.in-Some-name.name) c.in_ok-push.ensures.names

pub returns-in_err-push : goal.returns-in_err-push
returns-in_err-push c =
    let s = c.args.names.now in
    let cut = c.split-fields in
    let next = field_later _ s cut.result cut.ensures.rest cut.ensures.done (λ x b q k. search (rules, tests)) _ _ _ c.in-Some.is c.next.ensures.steps _ c.into_iter-name-iterator.ensures.into_iter_gives _ _ c.loop-name.yielded_by _ _ c.next-in-loop-name.ensures.steps _ c.in-Some-name.is in
    let p = err_from_is_err_and c.from_residual-in_err-push.result c.from_residual-in_err-push.ensures.1 in
    rw (p.1, p.2) (push_refused _ _ _ _ _ (names_split (fields s) _ _ _ c.loop-name.invariant next) c.requires.0 c.requires.1 c.in_err-push.ensures.result)

pub returns : goal.returns
returns c =
    let s = c.args.names.now in
    let cut = c.split-fields in
    let last = field_last _ s cut.result cut.ensures.rest cut.ensures.done (λ x b q k. search (rules, tests)) _ _ _ c.in-Some.is c.next.ensures.steps _ c.into_iter-name-iterator.ensures.into_iter_gives _ _ c.loop-name.yielded_by _ _ c.next-in-loop-name.ensures.steps c.in-None.is in
    c.loop-name.invariant ∙ take_all _ (fields s) (omega arith)
