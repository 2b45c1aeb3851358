-- The number of a call's outcome.
use Rattle.std.specs.Prelude.{◌≡◌, ℕ, ⊤, Ok, Err, Result}
use Rattle.text.specs.Refusals.{number}
use Rattle.text.specs.declared.refusal.Refusal.{Refusal}
use Rattle.base.specs.declared.run.Cause.{Cause}
use Rattle.base.specs.declared.run.Cause.TheVariants.{Fault as AtFault, Refused as CauseRefused}
use Rattle.choosing.specs.declared.kind.UnknownSelector.{UnknownSelector}
use Rattle.capi.specs.declared.failure.Failure.{Failure}
use Rattle.capi.specs.declared.failure.Failure.TheVariants.{TooFew, NoSelector, Refused}

abbrev pub number_of_failure : Failure → ℕ
number_of_failure TooFew = 255
number_of_failure NoSelector = 254
number_of_failure (Refused why) = number why

-- 0 where all went well, else the number of what did not
abbrev pub outcome_number : Result ⊤ Failure → ℕ
outcome_number (Ok done) = 0
outcome_number (Err why) = number_of_failure why

-- why a drain stopped before a clean end
abbrev pub refusal_of : Cause → Refusal
refusal_of (AtFault fault) = fault.refusal
refusal_of (CauseRefused why tag) = why

-- 0 where a drain ended clean, else the number of what ended it
abbrev pub number_of_end : Result ⊤ Cause → ℕ
number_of_end (Ok done) = 0
number_of_end (Err cause) = number (refusal_of cause)

abbrev pub IsRefused : Refusal → Failure → Type 0
IsRefused why failure = failure ≡ Refused why

abbrev pub IsUnknown : UnknownSelector → Failure → Type 0
IsUnknown unknown failure = failure ≡ NoSelector
