-- What a draft says, as it is written place by place.
use Rattle.std.proofs.Common.{◌≡◌, ℕ, ◌+◌, ◌*◌, ◌<◌, ◌≤◌, ◌⊎◌, List, [], ◌∷◌, length, get_or, set, sym, ap, ◌∙◌, subst, inl, inr, add-zero, arith, get_or-set_other, get_or-set_same, length-append, length-take}
use Rattle.std.proofs.Math.ListN.{get_or-append}
use Rattle.std.proofs.Math.Seq.{get_or-append_seam}
use native.Mathlib.Decide.{ℕ_discrete, dec_lt}
use Rattle.automata.specs.Automata.{Automaton, run}
use Rattle.automata.specs.States.{Differ, Equivalent}
use Rattle.text.specs.Lists.{items}
use Rattle.base.specs.Tables.{automaton}
use Rattle.base.specs.declared.table.Table.{Table}
use Rattle.grading.specs.Drafts.{olds, count, target, Free, Had, Added, Named, Building, Drafted}
use Rattle.grading.specs.Knowing.{Agrees}
use Rattle.grading.specs.Pairing.{Has}
use Rattle.grading.specs.declared.draft.Draft.{Draft}
use Rattle.grading.specs.declared.pairs.Pairs.{Pairs}
use Rattle.grading.proofs.Building.{building_begun, building_as, building_row, building_more, room}
use Rattle.grading.proofs.Relating.{not_differ}

-- the draft with a row put in
abbrev pub put : Draft → ℕ → List ℕ → Draft
put d i row = record { old = d.old; targets = set d.targets i row }

-- there are no more numbers than a table has states
pub count_fits : (d : Draft) → count d ≤ 32
count_fits d = omega (arith, length-take d.old.len d.old.places, d.old.fits)

-- asking for a number writes no target
pub named_targets : (marks : Pairs) (d e : Draft) (x r : ℕ) → Named marks d x r e → e.targets ≡ d.targets
named_targets marks d e x r (inl k) = ap (λ y. y.targets) k.same
named_targets marks d e x r (inr k) = k.targets

pub drafted_begun : (t : Table) (d : Draft) (s : ℕ) → s ≡ t.start → items d.old ≡ s ∷ [] → Drafted (automaton t) d 0
drafted_begun t d s start first =
    let one : count d ≡ 1 = ap length first in
    subst (λ m. Building (automaton t) (olds d) m (target d) 0) (sym one) (building_begun (automaton t) (olds d) (target d) (ap (λ l. get_or l 0 0) first ∙ start) t.sized.4)

module _ (t : Table) (marks : Pairs) (agrees : Agrees t.states (Differ (automaton t)) marks) where
  abbrev A : Automaton
  A = automaton t

  -- there is room for a new number
  drafted_room : (d : Draft) (n x : ℕ) → Drafted A d n → x < t.states → ((j : ℕ) → j < (count d) → Has marks (olds d j) x) → (count d) < 32
  drafted_room d n x h l fresh = room A (olds d) (count d) (target d) n x h t.sized.3 l (λ j k. ((agrees (olds d j) x).0 (fresh j k)).2)

  pub drafted_free : (d : Draft) (i : ℕ) (line : List ℕ) (n x : ℕ) → Drafted A (put d i line) n → x < t.states → Free marks d x
  drafted_free d i line n x h l = record {
    below = λ j k. omega (arith, h.below j k, t.sized.3);
    room = drafted_room (put d i line) n x h l;
  }

  -- the number r of the target x of the number i by the label a is written in its row
  module _ (d e : Draft) (i a x r : ℕ) (line : List ℕ) (h : Drafted A (put d i line) (16 * i + a)) (row : i < (count d)) (label : a < t.labels) (is : x ≡ A.step (olds d i) a)
      (tall : i < length e.targets) (wide : a < length line) where
    abbrev new : Draft
    new = put e i (set line a r)

    x_below : x < t.states
    x_below = subst (λ y. y < t.states) (sym is) (t.closed (olds d i) a (h.below i row) label)

    here : target new i a ≡ r
    here = ap (λ y. get_or y a 0) (get_or-set_same e.targets i (set line a r) [] tall) ∙ get_or-set_same line a r 0 wide

    others : e.targets ≡ d.targets → (p b : ℕ) → ((p ≡ i) × (b ≡ a)) ⊎ (target new p b ≡ target (put d i line) p b)
    others same p b = subst (λ rows. ((p ≡ i) × (b ≡ a)) ⊎ (target new p b ≡ get_or (get_or (set rows i line) p []) b 0)) same (cases (ℕ_discrete p i) (ℕ_discrete b a))
      where
        cases : Dec (p ≡ i) → Dec (b ≡ a) → ((p ≡ i) × (b ≡ a)) ⊎ (target new p b ≡ target (put e i line) p b)
        cases (yes f) (yes g) = inl (f, g)
        cases (yes f) (no g) = inr (subst (λ p. target new p b ≡ target (put e i line) p b) (sym f)
            (ap (λ y. get_or y b 0) (get_or-set_same e.targets i (set line a r) [] tall) ∙ get_or-set_other line a b r 0 g ∙ ap (λ y. get_or y b 0) (sym (get_or-set_same e.targets i line [] tall))))
        cases (no f) g = inr (ap (λ y. get_or y b 0) (get_or-set_other e.targets i p (set line a r) [] f ∙ sym (get_or-set_other e.targets i p line [] f)))

    had : Had marks d x r e → Drafted A new (16 * i + (a + 1)) × (i < count new) × (olds new i ≡ olds d i)
    had k =
        let counts : (count e) ≡ (count d) = ap count k.same in
        let same : (j : ℕ) → olds e j ≡ olds d j = λ j. ap (λ y. olds y j) k.same in
        let unlike : ¬ Differ A (olds d r) x = λ y. k.alike.1 ((agrees (olds d r) x).1 (h.below r k.alike.0, x_below, y)) in
        let like : Equivalent A (A.step (olds d i) a) (olds e r) = λ w word. ap (λ y. A.yes (run A y w)) (sym is) ∙ sym (not_differ A (olds d r) x unlike w word) ∙ ap (λ y. A.yes (run A y w)) (sym (same r)) in (
          building_more A t.sized.1 (olds d) (olds e) (count d) (count e) (target (put d i line)) (target new) i a r h row label
              (omega (arith, counts)) (λ j _. same j) (omega (arith, counts, k.alike.0)) (omega (arith, k.alike.0)) like
              (λ j l. subst (λ y. y < t.states) (sym (same j)) (h.below j (omega (arith, counts))))
              (λ j q l g. subst (λ y. Differ A y (olds e q)) (sym (same j)) (subst (Differ A (olds d j)) (sym (same q)) (h.apart j q l (omega (arith, counts)))))
              (λ v l g. absurd (omega (arith, counts)))
              here (others (ap (λ y. y.targets) k.same)),
          omega (arith, counts),
          same i,
        )

    module _ (k : Added marks d x r e) where
      free : (count d) < 32
      free = drafted_room (put d i line) (16 * i + a) x h x_below k.fresh

      grows : count e ≡ count d + 1
      grows = ap length k.old ∙ length-append (items d.old) (x ∷ [])

      kept : (j : ℕ) → j < (count d) → olds e j ≡ olds d j
      kept j l = ap (λ l. get_or l j 0) k.old ∙ get_or-append (items d.old) (x ∷ []) 0 j l

      last : (j : ℕ) → (count d) ≡ j → olds e j ≡ x
      last j g = sym (ap (olds e) g) ∙ ap (λ l. get_or l (count d) 0) k.old ∙ get_or-append_seam (items d.old) x [] 0

      below : (j : ℕ) → j < (count e) → Dec (j < (count d)) → olds e j < t.states
      below j l (yes g) = subst (λ y. y < t.states) (sym (kept j g)) (h.below j g)
      below j l (no g) = subst (λ y. y < t.states) (sym (last j (omega (arith, grows)))) x_below

      apart : (j q : ℕ) → j < q → q < (count e) → Dec (q < (count d)) → Differ A (olds e j) (olds e q)
      apart j q l g (yes f) = subst (λ y. Differ A y (olds e q)) (sym (kept j (omega arith))) (subst (Differ A (olds d j)) (sym (kept q f)) (h.apart j q l f))
      apart j q l g (no f) =
          let there : j < (count d) = omega (arith, grows) in
          subst (λ y. Differ A y (olds e q)) (sym (kept j there)) (subst (Differ A (olds d j)) (sym (last q (omega (arith, grows)))) ((agrees (olds d j) x).0 (k.fresh j there)).2)

      like : Equivalent A (A.step (olds d i) a) (olds e r)
      like w word = ap (λ y. A.yes (run A y w)) (sym is ∙ sym (last r (sym k.last)))

      added : Drafted A new (16 * i + (a + 1)) × (i < count new) × (olds new i ≡ olds d i)
      added = (
        building_more A t.sized.1 (olds d) (olds e) (count d) (count e) (target (put d i line)) (target new) i a r h row label
            (omega (arith, grows)) kept (omega (arith, grows, k.last)) (omega (arith, k.last)) like
            (λ j l. below j l (dec_lt j (count d))) (λ j q l g. apart j q l g (dec_lt q (count d)))
            (λ v l g. omega (arith, grows, k.last)) here (others k.targets),
        omega (arith, grows),
        kept i row,
      )

    pub drafted_more : Named marks d x r e → Drafted A new (16 * i + (a + 1)) × (i < count new) × (olds new i ≡ olds d i)
    drafted_more (inl k) = had k
    drafted_more (inr k) = added k

module _ (t : Table) (d : Draft) (i : ℕ) (line : List ℕ) where
  -- a blank row for the number i: no place before its own changes
  pub drafted_blank : Drafted (automaton t) d (16 * i) → Drafted (automaton t) (put d i line) (16 * i + 0)
  drafted_blank h = subst (Drafted (automaton t) (put d i line)) (sym (add-zero (16 * i))) (building_as (automaton t) (olds d) (count d) (target d) (target (put d i line)) (16 * i)
      (λ r b l k. ap (λ y. get_or y b 0) (get_or-set_other d.targets i r line [] (λ e. omega arith))) h)

  -- the labels of the number i are done, and its row is like this one
  pub drafted_row : i < length d.targets → (full : List ℕ) (l : ℕ) → l ≡ t.labels → i < count d → ((b : ℕ) → b < l → get_or full b 0 ≡ get_or line b 0) → Drafted (automaton t) (put d i line) (16 * i + l) → Drafted (automaton t) (put d i full) (16 * (i + 1))
  drafted_row tall full l e k same h = building_row (automaton t) t.sized.1 (olds d) (count d) (target (put d i full)) i k
      (building_as (automaton t) (olds d) (count d) (target (put d i line)) (target (put d i full)) (16 * i + t.labels) (λ r b g _. cases r b g (ℕ_discrete r i))
      (subst (λ z. Drafted (automaton t) (put d i line) (16 * i + z)) e h))
    where
      cases : (r b : ℕ) → b < t.labels → Dec (r ≡ i) → target (put d i full) r b ≡ target (put d i line) r b
      cases r b g (yes f) = subst (λ r. target (put d i full) r b ≡ target (put d i line) r b) (sym f) (ap (λ y. get_or y b 0) (get_or-set_same d.targets i full [] tall) ∙ same b (omega (arith, e)) ∙ ap (λ y. get_or y b 0) (sym (get_or-set_same d.targets i line [] tall)))
      cases r b g (no f) = ap (λ y. get_or y b 0) (get_or-set_other d.targets i r full [] f ∙ sym (get_or-set_other d.targets i r line [] f))
