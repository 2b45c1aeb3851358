-- Shortest words to wanted pairs are shortest words that lead to a state, by which states meet, and that tell them apart.
use Rattle.std.proofs.Common.{◌≡◌, ℕ, ◌<◌, true, false, ◌↔◌, List, [], ◌∷◌, length, sym, ap, ◌∙◌, arith}
use Rattle.automata.specs.Automata.{Automaton, Word, run, WellFormed}
use Rattle.automata.specs.Shortest.{Shortest}
use Rattle.automata.specs.States.{Internal, Meet, Apart}
use Rattle.automata.proofs.Words.{run_below}
use Rattle.grading.specs.Preceding.{Answering}
use Rattle.grading.specs.Showing.{LeadsTo, MeetBy, ApartBy}
use Rattle.grading.specs.StateSets.{In}
use Rattle.grading.specs.Walks.{Brings, Brought}
use Rattle.grading.specs.declared.states.StateSet.{StateSet}
use Rattle.grading.proofs.Agreeing.{Sorted, unlike_from, unlike_to}

shortest_like : (n : ℕ) (P Q : List ℕ → Type 0) (w : List ℕ) → ((v : List ℕ) → Word n v → P v ↔ Q v) → Shortest n P w → Shortest n Q w
shortest_like n P Q w like s = record {
  word = s.word;
  holds = (like w s.word).0 s.holds;
  shortest = λ v word h. s.shortest v word ((like v word).1 h);
  first = λ v word h. s.first v word ((like v word).1 h);
}

module _ (A : Automaton) where
  -- both states of the start's pair with itself go to the one state of the set
  module _ (p : ℕ) (set : StateSet) (only : (i : ℕ) → In i set ↔ (i ≡ p)) where
    abbrev pub Here : ℕ → ℕ → Type 0
    Here x y = In x set × In y set

    pub leads_brought : (start : ℕ) → start ≡ A.start → Internal A p → Brought A Here start start
    leads_brought start e i =
        let h = (only (run A start (i.first ∷ i.rest))).1 (ap (λ x. run A x (i.first ∷ i.rest)) e ∙ i.leads) in
        record { by = i.first ∷ i.rest; word = i.word; brings = (omega arith, (h, h)) }

    pub leads_shortest : (start : ℕ) → start ≡ A.start → (w : List ℕ) → Shortest A.labels (Brings A Here start start) w → Shortest A.labels (LeadsTo A p) w
    leads_shortest start e w = shortest_like A.labels (Brings A Here start start) (LeadsTo A p) w (λ v _. (
      λ (some, (h, _)). (some, sym (ap (λ x. run A x v) e) ∙ (only (run A start v)).0 h),
      λ (some, f). let h = (only (run A start v)).1 (ap (λ x. run A x v) e ∙ f) in (some, (h, h)),
    ))

  module _ (p q : ℕ) where
    abbrev pub Equal : ℕ → ℕ → Type 0
    Equal x y = y ≡ x

    -- states that are apart are not one, so they do not meet by the empty word
    pub meet_brought : Meet A p q → Apart A p q → Brought A Equal p q
    meet_brought m d = record { by = m.by; word = m.word; brings = (some m.by m.same, sym m.same) }
      where
        some : (v : List ℕ) → run A p v ≡ run A q v → 0 < length v
        some [] e = absurd (d.differ (ap (λ x. A.yes (run A x (d.first ∷ d.rest))) e))
        some (a ∷ v) e = omega arith

    pub meet_shortest : (w : List ℕ) → Shortest A.labels (Brings A Equal p q) w → Shortest A.labels (MeetBy A p q) w
    meet_shortest w = shortest_like A.labels (Brings A Equal p q) (MeetBy A p q) w (λ v _. (λ (some, e). (some, sym e), λ (some, e). (some, sym e)))

    -- yes and no states are sorted into two sets
    module _ (f : WellFormed A) (l : p < A.states) (k : q < A.states) (y n : StateSet) (yeas : Answering A true y) (nays : Answering A false n) where
      sorted : (v : List ℕ) → Word A.labels v → Brings A (Sorted y n) p q v ↔ ApartBy A p q v
      sorted v word =
          let i = run_below A f p v l word in
          let j = run_below A f q v k word in (
            λ (some, s). (some, (unlike_from A y n yeas nays (run A p v) (run A q v) (i, s)).2),
            λ (some, ne). (some, (unlike_to A y n yeas nays (run A p v) (run A q v) (i, j, ne)).1),
          )

      pub apart_brought : Apart A p q → Brought A (Sorted y n) p q
      apart_brought d = record { by = d.first ∷ d.rest; word = d.word; brings = (sorted (d.first ∷ d.rest) d.word).1 (omega arith, d.differ) }

      pub apart_shortest : (w : List ℕ) → Shortest A.labels (Brings A (Sorted y n) p q) w → Shortest A.labels (ApartBy A p q) w
      apart_shortest w = shortest_like A.labels (Brings A (Sorted y n) p q) (ApartBy A p q) w sorted
