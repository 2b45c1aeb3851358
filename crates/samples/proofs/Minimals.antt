-- From one minimal automaton of a query to all of them.
use Rattle.std.proofs.Common.{◌≡◌, ℕ, sym, ◌∙◌}
use Rattle.automata.specs.Automata.{Automaton, WellFormed}
use Rattle.automata.specs.Minimising.{Minimised}
use Rattle.automata.specs.Numbering.{FirstMet, Alike}
use Rattle.automata.specs.States.{Minimal}
use Rattle.automata.proofs.Alike.{accepts_alike, registerless_alike, clash_alike, stackless_alike, knot_alike}
use Rattle.automata.proofs.Only.{only_minimised}
use Rattle.grading.specs.Grading.{Earns}
use Rattle.grading.specs.declared.grade.Grade.{Grade}
use Rattle.grading.specs.declared.grade.Grade.TheVariants.{Registerless, Stackless, Neither}
use Rattle.samples.specs.Minimals.{MinimalHas}

earns_alike : (A B : Automaton) → WellFormed A → Alike A B → (grade : Grade) → Earns A grade → Earns B grade
earns_alike A B f same Registerless earned = registerless_alike A B f same earned
earns_alike A B f same Stackless (clash, rest) = (clash_alike A B f same clash, stackless_alike A B f same rest)
earns_alike A B f same Neither (clash, knot) = (clash_alike A B f same clash, knot_alike A B f same knot)

pub minimal_has : (A M : Automaton) (k : ℕ) (grade : Grade) → WellFormed M → Minimised A M → M.states ≡ k → Earns M grade → MinimalHas A k grade
minimal_has A M k grade f m counted earned = record {
  some = (M, f, m);
  each = λ B b n. let same = only_minimised A M f m B b n in (sym same.states ∙ counted, earns_alike M B f same grade earned);
}

-- an automaton that is like a minimal one has it for its own
pub minimised_alike : (A M : Automaton) → WellFormed A → Alike A M → Minimal M → FirstMet M → Minimised A M
minimised_alike A M f same minimal numbered = record { labels = sym same.labels; accepts = accepts_alike A M f same; minimal = minimal; numbered = numbered }
