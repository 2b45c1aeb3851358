-- Runs of the chosen selectors keep the law with the terms of the table.
use Rattle.std.proofs.Common.{◌≡◌, ℕ, min, List, length, refl, ap}
use mathlib.Core.Bool.{Bool-set}
use mathlib.Core.Logic.{∥∥₁_elim, ∥∥₁_prop}
use native.Mathlib.Nat.{ℕ_set}
use Rattle.automata.specs.Automata.{Automaton, accepts}
use Rattle.automata.specs.Holding.{meaning as held_meaning, moves as held_moves}
use Rattle.automata.specs.Minimising.{Minimised}
use Rattle.automata.specs.Noted.{meaning as noted_meaning, moves as noted_moves}
use Rattle.automata.specs.Storing.{meaning as stored_meaning}
use Rattle.base.specs.History.{terms}
use Rattle.base.specs.Sources.{Source}
use Rattle.base.specs.Storing.{storing}
use Rattle.base.specs.Tables.{automaton}
use Rattle.grading.specs.Holding.{holding}
use Rattle.grading.specs.Noting.{noting}
use Rattle.grading.specs.declared.registerless.RegisterlessSelector.{RegisterlessSelector}
use Rattle.grading.specs.declared.stackless.StacklessSelector.{StacklessSelector}
use Rattle.choosing.specs.Choices.{Begins}
use Rattle.choosing.specs.Readings.{Runs, StackRuns, Reads, agreed}
use Rattle.choosing.specs.declared.chosen.Made.{Made}
use Rattle.choosing.specs.declared.chosen.Made.TheVariants.{Registerless, Stackless, Stack}
use Rattle.choosing.specs.declared.reading.Reading.{Reading}
use Rattle.choosing.proofs.Booking.{Agree, agreed_so}

module _ (A : Automaton) (limit : ℕ) (source : Source) (stack list list' : List ℕ) (r : Reading) where
  -- the minimal automaton of A's query has its labels and accepts its lists
  alike : (B : Automaton) → ∥ Minimised A B ∥₁ → Agree (agreed B limit 65535) (agreed A limit 65535)
  alike B same = record { limit = refl; labels = ∥∥₁_elim same (ℕ_set _ _) (λ m. m.labels); carry = refl; wants = λ w word. ∥∥₁_elim same (Bool-set _ _) (λ m. m.accepts w word) }

  pub read_registerless : (m : Made) (s : RegisterlessSelector) → ∥ Begins A m ∥₁ → m ≡ Registerless s → Runs (held_meaning holding) (held_moves holding) s limit source list list' r → Reads A m limit source stack stack list list' r
  read_registerless m s begins e runs =
      let same = ∥∥₁_elim (rw e at begins) ∥∥₁_prop (λ b. ∣ b.minimised ∣₁) in
      rw e (record { runs = (runs, refl); law = agreed_so (terms (held_meaning holding) s limit) (agreed A limit 65535) (alike (automaton s.table) same) source list list' r runs.law })

  pub read_stackless : (m : Made) (s : StacklessSelector) → ∥ Begins A m ∥₁ → m ≡ Stackless s → Runs (noted_meaning noting) (noted_moves noting) s limit source list list' r → Reads A m limit source stack stack list list' r
  read_stackless m s begins e runs =
      let same = ∥∥₁_elim (rw e at begins) ∥∥₁_prop (λ b. ∣ b.minimised ∣₁) in
      rw e (record { runs = (runs, refl); law = agreed_so (terms (noted_meaning noting) s limit) (agreed A limit 65535) (alike (automaton s.table) same) source list list' r runs.law })

  pub read_stack : (m : Made) (stack' : List ℕ) → m ≡ Stack → length stack' ≡ length stack → StackRuns A stack limit source list list' r → Reads A m limit source stack stack' list list' r
  read_stack m stack' e long runs =
      rw e (record {
        runs = (runs, long);
        law = agreed_so (terms (stored_meaning storing) runs.selector limit) (agreed A limit (min 65535 (length stack))) (record {
          limit = refl;
          labels = ap (λ B. B.labels) runs.table;
          carry = ap (λ bytes. min 65535 (length bytes)) runs.lent;
          wants = λ w _. ap (λ B. accepts B w) runs.table;
        }) source list list' r runs.runs.law;
      })
