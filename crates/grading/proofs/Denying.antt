-- What the lowest clash says of the registerless grade, by whether there is one.
use Rattle.std.proofs.Common.{◌≡◌, true, false, is_some, Some, None, Option, true≢false, MatchOption}
use mathlib.Core.Bool.{false≢true}
use Rattle.automata.specs.Automata.{Automaton}
use Rattle.automata.specs.Grades.{Registerless, LowestClash, Clash}
use Rattle.grading.specs.declared.products.Pair.{Pair}
use Rattle.grading.proofs.Relating.{clash_from}

module _ (A : Automaton) where
  pub given : (o : Option Pair) → is_some o ≡ false → MatchOption o (Registerless A) (λ x. LowestClash A x.first x.second) → Registerless A
  given None e h = h
  given (Some x) e h = absurd (true≢false e)

  pub denied : (o : Option Pair) → is_some o ≡ true → MatchOption o (Registerless A) (λ x. LowestClash A x.first x.second) → Clash A
  denied None e h = absurd (false≢true e)
  denied (Some x) e h = clash_from A x.first x.second h.clashing
