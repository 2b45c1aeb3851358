-- A number that no kind has, and that isn't 0, asks for nothing.
use Rattle.std.proofs.Common.{◌≡◌, ◌≢◌, ℕ, None, refl, arith, rules}
use Rattle.std.proofs.lemmas.Bool.Decides.{nat_tests}
use Rattle.std.proofs.lemmas.Result.{err_from_is_err_and}
use Rattle.choosing.specs.Kinds.{number_of_kind}
use Rattle.choosing.specs.declared.kind.SelectorKind.{SelectorKind}
use Rattle.choosing.specs.declared.kind.SelectorKind.TheVariants.{Registerless, Stackless, Stack}
use Rattle.capi.specs.Asking.{wanted_of}
use Rattle.capi.proofs.lent.AskedTryFromU32.try_from.Goals as goal

unasked : (n : ℕ) → n ≢ 0 → ((kind : SelectorKind) → n ≢ number_of_kind kind) → wanted_of n ≡ None
unasked n some unknown =
    let no_registerless : n ≢ 1 = unknown Registerless in
    let no_stackless : n ≢ 2 = unknown Stackless in
    let no_stack : n ≢ 3 = unknown Stack in
    grind (arith, nat_tests)

pub returns-in_err-try_from-in_default : goal.returns-in_err-try_from-in_default
returns-in_err-try_from-in_default c =
    let p = err_from_is_err_and c.from_residual.result c.from_residual.ensures.1 in
    rw (p.1, p.2) (unasked c.args.number (search rules) c.in_err-try_from-in_default.ensures, refl)
