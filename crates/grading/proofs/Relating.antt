-- From labels and sets to how states relate.
use Rattle.std.proofs.Common.{◌≡◌, ℕ, ◌+◌, ◌<◌, ◌≤◌, Bool, true, false, not, ◌⊎◌, ◌↔◌, true≢false, sym, ap, ◌∙◌, subst, inl, inr, ⊎_elim, arith}
use Rattle.std.specs.Bool.{MatchBool}
use mathlib.Core.Bool.{Bool-discrete, false≢true}
use native.Mathlib.Decide.{ℕ_discrete, dec_lt}
use Rattle.automata.specs.Automata.{Automaton, run, WellFormed}
use Rattle.automata.specs.Grades.{Registerless, Clashing, LowestClash, Clash, Stackless, Knot}
use Rattle.automata.specs.States.{Internal, Differ, Equivalent, Reaches, Almost, Apart, Together, MeetInside}
use Rattle.automata.proofs.Words.{internal_below}
use Rattle.grading.specs.Knowing.{Agrees, Plain}
use Rattle.grading.specs.Pairing.{Has}
use Rattle.grading.specs.StateSets.{In, None, Any, empty, Tells, Gathers, Taken}
use Rattle.grading.specs.declared.pairs.Pairs.{Pairs}
use Rattle.grading.specs.declared.states.StateSet.{StateSet}
use Rattle.grading.proofs.Digits.{empty_none}

-- states that no word tells apart are equivalent
pub not_differ : (A : Automaton) (p q : ℕ) → ¬ Differ A p q → Equivalent A p q
not_differ A p q none w word = cases (Bool-discrete (A.yes (run A p w)) (A.yes (run A q w)))
  where
    cases : Dec (A.yes (run A p w) ≡ A.yes (run A q w)) → A.yes (run A p w) ≡ A.yes (run A q w)
    cases (yes e) = e
    cases (no e) = absurd (none (record { by = w; word = word; differ = e }))

pub almost_from_labels : (A : Automaton) (p q : ℕ) → ((a : ℕ) → a < A.labels → ¬ Differ A (A.step p a) (A.step q a)) → Almost A p q
almost_from_labels A p q none a w (l, word) = not_differ A (A.step p a) (A.step q a) (none a l) w word

pub apart_from_label : (A : Automaton) (p q a : ℕ) → a < A.labels → Differ A (A.step p a) (A.step q a) → Apart A p q
apart_from_label A p q a l d = record { first = a; rest = d.by; word = (l, d.word); differ = d.differ }

pub not_apart : (A : Automaton) (p q : ℕ) → Almost A p q → ¬ Apart A p q
not_apart A p q h d = d.differ (h d.first d.rest d.word)

pub almost_from_not_apart : (A : Automaton) (p q : ℕ) → ¬ Apart A p q → Almost A p q
almost_from_not_apart A p q none = almost_from_labels A p q (λ a l d. none (apart_from_label A p q a l d))

-- whether a label leads p and q to states that differ, read from the pairs that do
pub almost_read : (A : Automaton) → WellFormed A → (m : Pairs) → Agrees A.states (Differ A) m → (p q n : ℕ) → n ≡ A.labels → p < A.states → q < A.states → (r : Bool) → MatchBool r ((a : ℕ) → a < n → ¬ Has m (A.step p a) (A.step q a)) ((a : ℕ) × (a < n) × Has m (A.step p a) (A.step q a)) → Tells r (Almost A p q) (Apart A p q)
almost_read A f m differ p q n e l k true h = (λ _. almost_from_labels A p q (λ a i d. h a (omega arith) ((differ (A.step p a) (A.step q a)).1 (f.step p a l i, f.step q a k i, d))), λ e. absurd (true≢false e))
almost_read A f m differ p q n e l k false (a, i, h) = (λ e. absurd (false≢true e), λ _. apart_from_label A p q a (omega arith) ((differ (A.step p a) (A.step q a)).0 h).2)

-- whether a state makes a knot
pub stackless_read : (A : Automaton) (n : ℕ) → n ≡ A.states → (r : Bool) → MatchBool r ((p : ℕ) × (p < n) × Knot A) ((p : ℕ) → p < n → Plain A p) → Tells (not r) (Stackless A) (Knot A)
stackless_read A n e true (_, _, k) = (λ e. absurd (false≢true e), λ _. k)
stackless_read A n e false h = (λ _ p q l k. h p (omega arith) q k, λ e. absurd (true≢false e))

-- one of the labels below b leads from the start to a state that reaches i
pub record Entered (A : Automaton) (b i : ℕ) : Type 0 where
  pub label : ℕ
  pub below : label < b
  pub reaches : Reaches A (A.step A.start label) i

module _ (A : Automaton) where
  pub entered_none : (s : StateSet) → s ≡ empty → Gathers (Entered A 0) A.states s
  entered_none s e i = (λ h. absurd (empty_none i (subst (In i) e h)), λ (_, n). absurd (omega (arith, n.below)))

  -- the set r of the states that the label b leads to is added
  pub entered_more : (b x : ℕ) (s r t : StateSet) → x ≡ A.step A.start b → x < A.states → ((i : ℕ) → In i r ↔ ((x < A.states) × (i < A.states) × Reaches A x i)) → ((i : ℕ) → In i t ↔ (In i s ⊎ In i r)) → Gathers (Entered A b) A.states s → Gathers (Entered A (b + 1)) A.states t
  entered_more b x s r t is l row more h i = (
    λ k. ⊎_elim (λ j. let n = (h i).0 j in (n.0, record { label = n.1.label; below = omega (arith, n.1.below); reaches = n.1.reaches })) (λ j. let n = (row i).0 j in (n.1, record { label = b; below = omega arith; reaches = subst (λ z. Reaches A z i) is n.2 })) ((more i).0 k),
    λ (k, n). (more i).1 (cases k n (ℕ_discrete n.label b)),
  )
    where
      cases : i < A.states → (n : Entered A (b + 1) i) → Dec (n.label ≡ b) → In i s ⊎ In i r
      cases k n (yes e) = inr ((row i).1 (l, k, subst (λ z. Reaches A z i) (ap (A.step A.start) e ∙ sym is) n.reaches))
      cases k n (no ne) = inl ((h i).1 (k, record { label = n.label; below = omega (arith, n.below); reaches = n.reaches }))

  pub entered_all : (b : ℕ) (s : StateSet) → b ≡ A.labels → Gathers (Entered A b) A.states s → Gathers (Internal A) A.states s
  entered_all b s e h i = (
    λ k. let n = (h i).0 k in let r = n.1.reaches in (n.0, record { first = n.1.label; rest = r.by; word = (omega (arith, n.1.below, e), r.word); leads = r.leads }),
    λ (l, n). (h i).1 (l, record { label = n.first; below = omega (arith, n.word.0, e); reaches = record { by = n.rest; word = n.word.1; leads = n.leads } }),
  )

  -- p reaches the states of the row, and those of the column reach p
  pub together_gathers : (p : ℕ) (row column both : StateSet) → p < A.states → ((i : ℕ) → In i row ↔ ((p < A.states) × (i < A.states) × Reaches A p i)) → ((i : ℕ) → In i column → (i < A.states) × (p < A.states) × Reaches A i p) → ((i : ℕ) → (i < A.states) × Reaches A i p → In i column) → ((i : ℕ) → In i both ↔ (In i row × In i column)) → Gathers (Together A p) A.states both
  together_gathers p row column both l there back back' meets i = (
    λ k. let m = (meets i).0 k in (((there i).0 m.0).1, record { there = ((there i).0 m.0).2; back = (back i m.1).2 }),
    λ (h, t). (meets i).1 ((there i).1 (l, h, t.there), back' i (h, t.back)),
  )

  -- the states that p is apart from, of those in both of two sets
  module _ (p : ℕ) (first second both apart all : StateSet) (R S : ℕ → Type 0)
      (one : Gathers R A.states first) (two : (q : ℕ) → In q second ↔ ((p < A.states) × (q < A.states) × S q)) (three : Gathers (Apart A p) A.states apart)
      (meets : (i : ℕ) → In i both ↔ (In i first × In i second)) (parts : (i : ℕ) → In i all ↔ (In i both × In i apart)) where
    pub found : (h : Any all) → (h.0 < A.states) × R h.0 × S h.0 × Apart A p h.0
    found (q, i) =
        let j = (parts q).0 i in
        let k = (meets q).0 j.0 in
        (((one q).0 k.0).0, ((one q).0 k.0).1, ((two q).0 k.1).2, ((three q).0 j.1).1)

    pub gathered : p < A.states → (q : ℕ) → (q < A.states) × R q × S q × Apart A p q → In q all
    gathered l q (h, r, s, d) = (parts q).1 ((meets q).1 ((one q).1 (h, r), (two q).1 (l, h, s)), (three q).1 (h, d))

    pub missed : None all → p < A.states → (q : ℕ) → q < A.states → R q → S q → Almost A p q
    missed none l q h r s = almost_from_not_apart A p q (λ d. none q (gathered l q (h, r, s, d)))

  -- no state clashes
  pub registerless_from : WellFormed A → ((p : ℕ) → p < A.states → (q : ℕ) → ¬ Clashing A p q) → Registerless A
  registerless_from f none p q i j m = almost_from_not_apart A p q (λ d. none p (internal_below A f i) q (record { p_internal = i; q_internal = j; meet = m; apart = d }))

  -- p clashes with the states of the set, and no lower state clashes
  module _ (f : WellFormed A) (p : ℕ) (s : StateSet) (clashing : Gathers (Clashing A p) A.states s) where
    pub no_clash : None s → (q : ℕ) → ¬ Clashing A p q
    no_clash none q c = none q ((clashing q).1 (internal_below A f c.q_internal, c))

    pub lowest_clash : (t : StateSet) (q : ℕ) → Taken s t q → ((r : ℕ) → r < p → (u : ℕ) → ¬ Clashing A r u) → LowestClash A p q
    lowest_clash t q taken none = record {
      clashing = ((clashing q).0 taken.has).1;
      lowest = λ r u c. (first r u c (dec_lt r p), λ e. second u (subst (λ r. Clashing A r u) e c) (dec_lt u q));
    }
      where
        first : (r u : ℕ) → Clashing A r u → Dec (r < p) → p ≤ r
        first r u c (yes l) = absurd (none r l u c)
        first r u c (no l) = omega arith

        second : (u : ℕ) → Clashing A p u → Dec (u < q) → q ≤ u
        second u c (yes l) = absurd (taken.lowest u l ((clashing u).1 (internal_below A f c.q_internal, c)))
        second u c (no l) = omega arith

  pub clash_from : (p q : ℕ) → Clashing A p q → Clash A
  clash_from p q c = record { p = p; q = q; p_internal = c.p_internal; q_internal = c.q_internal; meet = c.meet; apart = c.apart }

  pub knot_from : (p q : ℕ) → p < A.states → (q < A.states) × Together A p q × MeetInside A p q × Apart A p q → Knot A
  knot_from p q l (k, t, m, a) = record { p = p; q = q; p_below = l; q_below = k; together = t; meet = m; apart = a }
