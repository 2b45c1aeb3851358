-- What a grade settles for the query of the table as given.
use Rattle.std.proofs.Common.{ℕ, zero, suc, ◌<◌, Bool, true, false, not, ◌&&◌, ◌||◌, eqb, Decides, refl}
use Rattle.std.proofs.lemmas.Bool.Decides.{Decides-eqb, Decides-not, Decides-like, Decides-below_and, Decides-below_or}
use Rattle.automata.specs.Automata.{Automaton, WellFormed}
use Rattle.automata.specs.Backward.{Tests, machine}
use Rattle.automata.specs.Minimising.{Minimised}
use Rattle.automata.specs.States.{Internal, Almost}
use Rattle.automata.proofs.Settled.{no_machine_alike, machine_alike}
use Rattle.automata.proofs.Denied.{denied_errs}
use Rattle.automata.proofs.Given.{given_serves}
use Rattle.grading.specs.Grading.{Earns, Settles}
use Rattle.grading.specs.Knowing.{Known}
use Rattle.grading.specs.Pairing.{row, Has}
use Rattle.grading.specs.StateSets.{digit}
use Rattle.grading.specs.declared.grade.Grade.{Grade}
use Rattle.grading.specs.declared.grade.Grade.TheVariants.{Registerless, Stackless, Neither}
use Rattle.grading.specs.declared.pairs.Pairs.{Pairs}
use Rattle.grading.proofs.Relating.{almost_from_labels, apart_from_label, not_apart}

-- whether a pair is in a set
test : Pairs → ℕ → ℕ → Bool
unfolding digit
test m p q = eqb (digit (row m p).mask q) 1

test_decides : (m : Pairs) (p q : ℕ) → Decides (test m p q) (Has m p q)
unfolding test
test_decides m p q = Decides-eqb (digit (row m p).mask q) 1

-- whether one number below n, or each, passes
abbrev some : (ℕ → Bool) → ℕ → Bool
some f zero = false
some f (suc n) = f n || some f n

abbrev each : (ℕ → Bool) → ℕ → Bool
each f zero = true
each f (suc n) = f n && each f n

module _ (A : Automaton) (f : WellFormed A) (d m r n : Pairs) (known : Known A d m r n) where
  internal : ℕ → Bool
  internal p = some (λ a. test r (A.step A.start a) p) A.labels

  internal_decides : (p : ℕ) → p < A.states → Decides (internal p) (Internal A p)
  unfolding internal
  internal_decides p h = Decides-like (internal p)
      (λ (a, l, i). let w = ((known.reach (A.step A.start a) p).0 i).2 in record { first = a; rest = w.by; word = (l, w.word); leads = w.leads })
      (λ i. (i.first, i.word.0, (known.reach (A.step A.start i.first) p).1 (f.step A.start i.first f.start i.word.0, h, record { by = i.rest; word = i.word.1; leads = i.leads })))
      (Decides-below_or (λ a. test r (A.step A.start a) p) (λ a. Has r (A.step A.start a) p) (some (λ a. test r (A.step A.start a) p)) (λ a. test_decides r (A.step A.start a) p) refl (λ _. refl) A.labels)

  almost : ℕ → ℕ → Bool
  almost p q = each (λ a. not (test d (A.step p a) (A.step q a))) A.labels

  almost_decides : (p q : ℕ) → p < A.states → q < A.states → Decides (almost p q) (Almost A p q)
  unfolding almost
  almost_decides p q h k = Decides-like (almost p q)
      (λ none. almost_from_labels A p q (λ a l e. none a l ((known.differ (A.step p a) (A.step q a)).1 (f.step p a h l, f.step q a k l, e))))
      (λ e a l i. not_apart A p q e (apart_from_label A p q a l ((known.differ (A.step p a) (A.step q a)).0 i).2))
      (Decides-below_and (λ a. not (test d (A.step p a) (A.step q a))) (λ a. ¬ Has d (A.step p a) (A.step q a)) (each (λ a. not (test d (A.step p a) (A.step q a)))) (λ a. Decides-not (test d (A.step p a) (A.step q a)) (test_decides d (A.step p a) (A.step q a))) refl (λ _. refl) A.labels)

  tests : Tests A
  tests = record { internal = internal; almost = almost; internal_decides = internal_decides; almost_decides = almost_decides }

pub settles : (A B : Automaton) → Minimised A B → WellFormed B → (d n r i : Pairs) → Known B d n r i → (g : Grade) → Earns B g → Settles A g
settles A B m f d n r i known Registerless earned =
    let t : Tests B = tests B f d n r i known in
    let s = given_serves B f m.minimal earned t in
    machine_alike A B m.labels m.accepts (record { machine = machine B t; finite = s.0; right = s.1 })
settles A B m f d n r i known Stackless earned = no_machine_alike A B m.labels m.accepts (denied_errs B f earned.0)
settles A B m f d n r i known Neither earned = no_machine_alike A B m.labels m.accepts (denied_errs B f earned.0)
