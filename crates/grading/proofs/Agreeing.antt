-- The pairs that are found are those of the relations.
use Rattle.std.proofs.Common.{◌≡◌, ℕ, ◌<◌, Bool, true, false, ◌⊎◌, List, sym, refl, ◌∙◌, subst, inl, inr, true≢false}
use Rattle.automata.specs.Automata.{Automaton, WellFormed}
use Rattle.automata.specs.States.{Differ, Meet, Reaches, MeetInside}
use Rattle.base.specs.Tables.{automaton}
use Rattle.base.specs.declared.table.Table.{Table}
use Rattle.grading.specs.Knowing.{Agrees}
use Rattle.grading.specs.Pairing.{Has}
use Rattle.grading.specs.Preceding.{before, Indexes, Answering}
use Rattle.grading.specs.Spreading.{Spreads}
use Rattle.grading.specs.StateSets.{In}
use Rattle.grading.specs.Worklists.{Below}
use Rattle.grading.specs.declared.pairs.Pairs.{Pairs}
use Rattle.grading.specs.declared.states.StateSet.{StateSet}
use Rattle.grading.proofs.Worded.{comes_more, comes_within, Both, First, Inside, Unlike, Equal, differ_from_comes, meet_from_comes, reaches_from_comes, inside_from_comes, comes_from_differ, comes_from_meet, comes_from_reaches, comes_from_inside}

pub well_formed : (t : Table) → WellFormed (automaton t)
well_formed t = record { start = t.sized.4; step = t.closed }

-- a yes state and a no state, or the other way round
abbrev pub Sorted : StateSet → StateSet → ℕ → ℕ → Type 0
Sorted y n p q = (In p y × In q n) ⊎ ((¬ In p y) × In q y)

module _ (A : Automaton) (y n : StateSet) (yeas : Answering A true y) (nays : Answering A false n) where
  answer : (p : ℕ) → p < A.states → ¬ In p y → (b : Bool) → A.yes p ≡ b → A.yes p ≡ false
  answer p h none true e = absurd (none ((yeas p).1 (h, e)))
  answer p h none false e = e

  pub unlike_from : (p q : ℕ) → Below A.states (Sorted y n) p q → Unlike A p q
  unlike_from p q (h, inl (i, j)) = let b = (nays q).0 j in (h, b.0, λ e. true≢false (sym ((yeas p).0 i).1 ∙ e ∙ b.1))
  unlike_from p q (h, inr (none, j)) = let b = (yeas q).0 j in (h, b.0, λ e. true≢false (sym b.1 ∙ sym e ∙ answer p h none (A.yes p) refl))

  sort : (p q : ℕ) (b c : Bool) → A.yes p ≡ b → A.yes q ≡ c → Unlike A p q → Below A.states (Sorted y n) p q
  sort p q true true e f (h, k, ne) = absurd (ne (e ∙ sym f))
  sort p q true false e f (h, k, ne) = (h, inl ((yeas p).1 (h, e), (nays q).1 (k, f)))
  sort p q false true e f (h, k, ne) = (h, inr (λ i. true≢false (sym ((yeas p).0 i).1 ∙ e), (yeas q).1 (k, f)))
  sort p q false false e f (h, k, ne) = absurd (ne (e ∙ sym f))

  pub unlike_to : (p q : ℕ) → Unlike A p q → Below A.states (Sorted y n) p q
  unlike_to p q = sort p q (A.yes p) (A.yes q) refl refl

equal_from : (A : Automaton) (p q : ℕ) → (p < A.states) × (q ≡ p) → Equal A p q
equal_from A p q (h, e) = (h, sym e)

equal_to : (A : Automaton) (p q : ℕ) → Equal A p q → (p < A.states) × (q ≡ p)
equal_to A p q (h, e) = (h, sym e)

module _ (A : Automaton) (f : WellFormed A) (b : List Pairs) (index : Indexes A b) (m : Pairs) where
  abbrev BothIn : ℕ → ℕ → ℕ → ℕ → ℕ → Type 0
  BothIn a p q x y = In p (before b a x) × In q (before b a y)

  both_from : (a p q x y : ℕ) → a < A.labels → BothIn a p q x y → Both A a p q x y
  both_from a p q x y l (i, j) = ((index a x p l).0 i, (index a y q l).0 j)

  both_to : (a p q x y : ℕ) → a < A.labels → Both A a p q x y → BothIn a p q x y
  both_to a p q x y l (i, j) = ((index a x p l).1 i, (index a y q l).1 j)

  both_within : (a p q x y : ℕ) → Both A a p q x y → y < A.states → (p < A.states) × (q < A.states)
  both_within a p q x y (s, t) l = (s.below, t.below)

  equal_within : (p q : ℕ) → Equal A p q → (p < A.states) × (q < A.states)
  equal_within p q (h, e) = (h, subst (λ z. z < A.states) e h)

  pub differ_agrees : (y n : StateSet) → Answering A true y → Answering A false n → Spreads A.labels BothIn (Below A.states (Sorted y n)) m → Agrees A.states (Differ A) m
  differ_agrees y n yeas nays s p q = (
    λ i.
        let c = comes_more A.labels BothIn (Both A) (Below A.states (Sorted y n)) (Unlike A) both_from (unlike_from A y n yeas nays) p q ((s p q).0 i) in
        let w = comes_within A.states A.labels (Both A) (Unlike A) (λ p q (h, k, _). (h, k)) both_within p q c in
        (w.0, w.1, differ_from_comes A p q c),
    λ (h, k, d). (s p q).1 (comes_more A.labels (Both A) BothIn (Unlike A) (Below A.states (Sorted y n)) both_to (unlike_to A y n yeas nays) p q (comes_from_differ A f p q h k d)),
  )

  abbrev Twice : ℕ → ℕ → Type 0
  Twice = Below A.states (λ p q. q ≡ p)

  pub meet_agrees : Spreads A.labels BothIn Twice m → Agrees A.states (Meet A) m
  meet_agrees s p q = (
    λ i.
        let c = comes_more A.labels BothIn (Both A) Twice (Equal A) both_from (equal_from A) p q ((s p q).0 i) in
        let w = comes_within A.states A.labels (Both A) (Equal A) equal_within both_within p q c in
        (w.0, w.1, meet_from_comes A p q c),
    λ (h, k, d). (s p q).1 (comes_more A.labels (Both A) BothIn (Equal A) Twice both_to (equal_to A) p q (comes_from_meet A f p q h k d)),
  )

  abbrev FirstIn : ℕ → ℕ → ℕ → ℕ → ℕ → Type 0
  FirstIn a p q x y = In p (before b a x) × (q ≡ y)

  pub reach_agrees : Spreads A.labels FirstIn Twice m → Agrees A.states (Reaches A) m
  reach_agrees s p q = (
    λ i.
        let c = comes_more A.labels FirstIn (First A) Twice (Equal A) (λ a p q x y l (i, e). ((index a x p l).0 i, e)) (equal_from A) p q ((s p q).0 i) in
        let w = comes_within A.states A.labels (First A) (Equal A) equal_within (λ a p q x y (t, e) l. (t.below, subst (λ z. z < A.states) (sym e) l)) p q c in
        (w.0, w.1, reaches_from_comes A p q c),
    λ (h, k, d). (s p q).1 (comes_more A.labels (First A) FirstIn (Equal A) Twice (λ a p q x y l (i, e). ((index a x p l).1 i, e)) (equal_to A) p q (comes_from_reaches A f p q h d)),
  )

  module _ (r : Pairs) (reach : Agrees A.states (Reaches A) r) where
    abbrev InsideIn : ℕ → ℕ → ℕ → ℕ → ℕ → Type 0
    InsideIn a p q x y = (In p (before b a x) × Has r x p) × In q (before b a y)

    inside_from : (a p q x y : ℕ) → a < A.labels → InsideIn a p q x y → Inside A a p q x y
    inside_from a p q x y l ((i, e), j) = (((index a x p l).0 i, ((reach x p).0 e).2), (index a y q l).0 j)

    inside_to : (a p q x y : ℕ) → a < A.labels → Inside A a p q x y → InsideIn a p q x y
    inside_to a p q x y l ((s, e), t) = (((index a x p l).1 s, (reach x p).1 (subst (λ z. z < A.states) s.leads (f.step p a s.below l), s.below, e)), (index a y q l).1 t)

    pub inside_agrees : Spreads A.labels InsideIn Twice m → Agrees A.states (MeetInside A) m
    inside_agrees s p q = (
      λ i.
          let c = comes_more A.labels InsideIn (Inside A) Twice (Equal A) inside_from (equal_from A) p q ((s p q).0 i) in
          let w = comes_within A.states A.labels (Inside A) (Equal A) equal_within (λ a p q x y ((t, _), u) l. (t.below, u.below)) p q c in
          (w.0, w.1, inside_from_comes A p q c),
      λ (h, k, d). (s p q).1 (comes_more A.labels (Inside A) InsideIn (Equal A) Twice inside_to (equal_to A) p q (comes_from_inside A f p q h k d)),
    )
