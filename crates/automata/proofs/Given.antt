-- The machine of an automaton without a clash errs on no document.
use Rattle.std.proofs.Common.{ℕ, ◌<◌, ◌≢◌, List, [], ◌∷◌, ◌++◌, reverse, sym, refl, ap, ◌∙◌, subst}
use mathlib.Core.List.{reverse-cons}
use Rattle.automata.specs.Automata.{Automaton, run, WellFormed}
use Rattle.automata.specs.States.{Minimal}
use Rattle.automata.specs.Grades.{Registerless}
use Rattle.automata.specs.declared.tag.Tag.{Tag}
use Rattle.automata.specs.declared.tag.Tag.TheVariants.{Open, Close}
use Rattle.automata.specs.Tags.{label}
use Rattle.automata.specs.Streams.{Rest, Document, opened, path, Finite, reads, Errs}
use Rattle.automata.specs.Backward.{Tests, back, moves, machine, Stands}
use Rattle.automata.specs.Theorems.{GivenStands, GivenServes}
use Rattle.automata.proofs.Tags.{path_open, reads_append}
use Rattle.automata.proofs.Bends.{some_reverse}
use Rattle.automata.proofs.Stands.{opening_stands, back_below, closing_stands}

-- nothing comes after the root closes
rest_none : (n : ℕ) (ts : List (Tag ℕ)) (t : Tag ℕ) (us : List (Tag ℕ)) → ¬ Rest n [] (ts ++ t ∷ us)
rest_none n [] t us h = h
rest_none n (x ∷ ts) t us h = h

-- an opening bears a label below n
document_label : (n : ℕ) (ts : List (Tag ℕ)) (a : ℕ) (us : List (Tag ℕ)) → Document n (ts ++ Open a ∷ us) → a < n
document_label n [] a us h = h.0
document_label n (Close b ∷ ts) a us h = absurd h
document_label n (Open b ∷ ts) a us h = inside (b ∷ []) ts h.1
  where
    inside : (stack : List ℕ) (ts : List (Tag ℕ)) → Rest n stack (ts ++ Open a ∷ us) → a < n
    inside [] ts k = absurd (rest_none n ts (Open a) us k)
    inside (b ∷ stack) [] k = k.0
    inside (b ∷ stack) (Open c ∷ ts) k = inside (c ∷ b ∷ stack) ts k.1
    inside (b ∷ stack) (Close c ∷ ts) k = inside stack ts k.1

module _ (A : Automaton) (f : WellFormed A) (m : Minimal A) (registerless : Registerless A) (T : Tests A) where
  -- a closing that leaves some label open
  close_stands : (p a : ℕ) (w : List ℕ) → w ≢ [] → Stands A p (w ++ a ∷ []) → Stands A (back A T p a) w
  close_stands p a [] some stands = absurd (some refl)
  close_stands p a (b ∷ w) some stands = closing_stands A f m registerless T p a b w stands

  -- with the labels b ∷ stack open
  rest_stands : (b : ℕ) (stack : List ℕ) (p : ℕ) (ts : List (Tag ℕ)) (t : Tag ℕ) (us : List (Tag ℕ)) → Rest A.labels (b ∷ stack) (ts ++ t ∷ us) → Stands A p (reverse (b ∷ stack)) → Stands A (reads (machine A T) p ts) (reverse (opened (b ∷ stack) ts))
  rest_stands b stack p [] t us rest stands = stands
  rest_stands b stack p (Open a ∷ ts) t us (h, rest) stands = rest_stands a (b ∷ stack) (A.step p a) ts t us rest (subst (Stands A (A.step p a)) (sym (reverse-cons a (b ∷ stack))) (opening_stands A f m p a (reverse (b ∷ stack)) h stands).0)
  rest_stands b [] p (Close a ∷ ts) t us (e, rest) stands = absurd (rest_none A.labels ts t us rest)
  rest_stands b (c ∷ stack) p (Close a ∷ ts) t us (e, rest) stands = rest_stands c stack (back A T p a) ts t us rest (close_stands p a (reverse (c ∷ stack)) (some_reverse c stack) (subst (Stands A p) (reverse-cons b (c ∷ stack) ∙ ap (λ x. reverse (c ∷ stack) ++ x ∷ []) (sym e)) stands))

pub given_stands : GivenStands
given_stands A f m registerless T [] t after h = refl
given_stands A f m registerless T (Open a ∷ ts) t after (h, rest) = rest_stands A f m registerless T a [] (A.step A.start a) ts t after rest (opening_stands A f m A.start a [] h refl).0
given_stands A f m registerless T (Close a ∷ ts) t after h = absurd h

machine_finite : (A : Automaton) → WellFormed A → (T : Tests A) → Finite A.labels (machine A T)
machine_finite A f T = record { start = f.start; next = next }
  where
    next : (p : ℕ) (t : Tag ℕ) → p < A.states → label t < A.labels → moves A T p t < A.states
    next p (Open a) h k = f.step p a h k
    next p (Close a) h k = back_below A T p a h

pub given_serves : GivenServes
given_serves A f m registerless T = (machine_finite A f T, serves)
  where
    serves : (d : List (Tag ℕ)) → Document A.labels d → ¬ Errs A (machine A T) d
    serves d document errs =
        let whole : Document A.labels (errs.before ++ Open errs.opens ∷ errs.after) = subst (Document A.labels) errs.splits document in
        let stands = given_stands A f m registerless T errs.before (Open errs.opens) errs.after whole in
        let opens = opening_stands A f m (reads (machine A T) A.start errs.before) errs.opens (path errs.before) (document_label A.labels errs.before errs.opens errs.after whole) stands in
        errs.differs (ap A.yes (reads_append (machine A T) A.start errs.before (Open errs.opens ∷ []) ∙ opens.1 ∙ ap (run A A.start) (sym (path_open errs.before errs.opens))))
