-- Step by step, and then all steps, or the first refusal that fits.
use Rattle.std.proofs.Common.{◌≡◌, ℕ, ◌<◌, ◌≤◌, true, false, eqb, rules, List, [], length, sym, ◌∙◌, ⊎_elim, arith}
use Rattle.std.proofs.lemmas.List.{nil_from_length}
use Rattle.std.proofs.lemmas.Bool.{eqb-true, eqb-false}
use Rattle.std.proofs.lemmas.Option.{MatchOption-at_some, MatchOption-at_none}
use Rattle.std.proofs.lemmas.Result.{err_from_is_err_and}
use Rattle.text.specs.declared.refusal.Refusal.TheVariants.{NotSteps}
use Rattle.text.specs.Labelled.{names_of}
use Rattle.text.specs.Lists.{items}
use Rattle.text.proofs.Naming.{stored_rule}
use Rattle.paths.specs.FirstSteps.{First}
use Rattle.paths.specs.Texts.{Sized, Unread, bad_length}
use Rattle.paths.proofs.Reading.{one_read, not_read, many_read, all_read}
use Rattle.paths.proofs.path.Path.read.Goals as goal

sized_by : (text : List ℕ) → false ≡ eqb (length text) 0 → length text ≤ 200 → Sized text
sized_by text e h = let some = eqb-false _ 0 (sym e) in (omega (arith, some), h)

ended : (rest : List ℕ) → true ≡ eqb (length rest) 0 → rest ≡ []
ended rest e = nil_from_length rest (eqb-true _ 0 (sym e))

pub loop-stored-preserved : goal.loop-stored-preserved
loop-stored-preserved c =
    let labels = c.args.labels.now in
    let names = names_of labels in
    let rest = c.loop-stored.rest.now in
    let first = MatchOption-at_some (Unread names rest) (λ p. First names rest p.0 p.1.now) _ c.in_ok-step.ensures.ok_part c.first_step.ensures in
    search (rules, one_read)

pub returns-then-is_empty : goal.returns-then-is_empty
returns-then-is_empty c = bad_length (λ h. ⊎_elim
    (λ empty. omega (arith, h.0, eqb-true _ 0 (sym c.is_empty.ensures ∙ empty)))
    (λ (long : (c.is_empty.result ≡ false) × (200 < length c.args.text.now)). omega (arith, h.1, long.1))
    c.then-is_empty.either)

pub returns-in_err-step : goal.returns-in_err-step
returns-in_err-step c =
    let names = names_of c.args.labels.now in
    let rest = c.loop-stored.rest.now in
    let none = MatchOption-at_none (Unread names rest) (λ p. First names rest p.0 p.1.now) c.in_err-step.ensures.ok_part c.first_step.ensures in
    let p = err_from_is_err_and c.from_residual.result c.from_residual.ensures.1 in
    let why : c.in_err-step.field-0.0 ≡ NotSteps = grind arith in
    rw (p.1, p.2, why) (not_read names c.args.text.now _ _ _ c.loop-stored.invariant (sized_by c.args.text.now c.if-is_empty.ensures c.if-text-gt-MAX_TEXT.false) none)

pub returns-in_err-or : goal.returns-in_err-or
returns-in_err-or c =
    let p = err_from_is_err_and c.from_residual-in_err-or.result c.from_residual-in_err-or.ensures.1 in
    rw (p.1, p.2) (many_read (names_of c.args.labels.now) _ _ _ (ended _ c.loop-stored-test.ensures) (sized_by c.args.text.now c.if-is_empty.ensures c.if-text-gt-MAX_TEXT.false) _ _ c.loop-stored.invariant c.in_err-or.ensures)

pub invariant_of-result : goal.invariant_of-result
invariant_of-result c =
    let labels = c.args.labels.now in
    record { some = (all_read (names_of labels) _ _ _ (ended _ c.loop-stored-test.ensures) (sized_by c.args.text.now c.if-is_empty.ensures c.if-text-gt-MAX_TEXT.false) _ _ (stored_rule (items labels.names)) c.loop-stored.invariant c.in_ok-or.ensures).0 }

pub returns : goal.returns
returns c =
    let labels = c.args.labels.now in
    (all_read (names_of labels) _ _ _ (ended _ c.loop-stored-test.ensures) (sized_by c.args.text.now c.if-is_empty.ensures c.if-text-gt-MAX_TEXT.false) _ _ (stored_rule (items labels.names)) c.loop-stored.invariant c.in_ok-or.ensures).1
