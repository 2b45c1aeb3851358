-- What is known to exist is found by search, so that the facts of a table, truncated in a ghost field, are had back.
use Rattle.std.proofs.Common.{◌≡◌, ℕ, zero, suc, ◌<◌, ◌≢◌, ◌⊎◌, List, [], ◌∷◌, length, refl, subst, inl, inr, arith}
use Rattle.std.proofs.Math.Path.{Σ_path}
use native.Mathlib.Bridge.{le_prop}
use native.Mathlib.Decide.{ℕ_discrete, dec_lt}
use native.Mathlib.Nat.{ℕ_set}
use mathlib.Core.Bool.{Bool-discrete}
use mathlib.Core.HLevel.{is_prop→PathP, Π_prop, ×_prop, ⊥_prop}
use mathlib.Core.Logic.{∥∥₁_elim, ∥∥₁_map, ∥∥₁_prop}
use Rattle.automata.specs.Automata.{Automaton, Word, WellFormed, run}
use Rattle.automata.specs.States.{Differ, Meet, Reaches, MeetInside}
use Rattle.automata.proofs.Words.{run_below}
use Rattle.grading.specs.Knowing.{Agrees, Known}
use Rattle.grading.specs.Pairing.{Has}
use Rattle.base.specs.Tables.{automaton}
use Rattle.grading.specs.declared.differing.Differing.{Differing}
use Rattle.grading.specs.declared.facts.Facts.{Facts}
use Rattle.grading.specs.declared.pairs.Pairs.{Pairs}
use Rattle.grading.proofs.Agreeing.{well_formed}

module _ (P : ℕ → Type 0) (decide : (k : ℕ) → Dec (P k)) where
  -- the lowest number with the property, as a fact
  abbrev IsLowest : ℕ → Type 0
  IsLowest k = ∥ P k ∥₁ × ((j : ℕ) → j < k → ¬ P j)

  lowest_prop : IsProp ((k : ℕ) × IsLowest k)
  lowest_prop a b = Σ_path same (is_prop→PathP (λ i. IsLowest (same i)) (λ i. ×_prop ∥∥₁_prop (Π_prop λ _. Π_prop λ _. Π_prop λ _. ⊥_prop)) a.1 b.1)
    where
      not_below : (a b : (k : ℕ) × IsLowest k) → ¬ (a.0 < b.0)
      not_below a b l = ∥∥₁_elim a.1.0 ⊥_prop (b.1.1 a.0 l)

      same : a.0 ≡ b.0
      same = omega (arith, not_below a b, not_below b a)

  lowest_below : (n : ℕ) → ((k : ℕ) × IsLowest k) ⊎ ((j : ℕ) → j < n → ¬ P j)
  lowest_below zero = inr (λ j l. absurd (omega arith))
  lowest_below (suc n) = step (lowest_below n) (decide n)
    where
      step : ((k : ℕ) × IsLowest k) ⊎ ((j : ℕ) → j < n → ¬ P j) → Dec (P n) → ((k : ℕ) × IsLowest k) ⊎ ((j : ℕ) → j < suc n → ¬ P j)
      step (inl k) d = inl k
      step (inr none) (yes h) = inl (n, (∣ h ∣₁, none))
      step (inr none) (no ne) = inr (λ j l. last j (dec_lt j n) l)
        where
          last : (j : ℕ) → Dec (j < n) → j < suc n → ¬ P j
          last j (yes k) l h = none j k h
          last j (no k) l h = let e : j ≡ n = omega arith in ne (subst P e h)

  pub found_number : ∥ ((k : ℕ) × P k) ∥₁ → (k : ℕ) × P k
  found_number h = take (decide least.0)
    where
      some : (x : (k : ℕ) × P k) → ((k : ℕ) × IsLowest k) ⊎ ((j : ℕ) → j < suc x.0 → ¬ P j) → (k : ℕ) × IsLowest k
      some x (inl k) = k
      some x (inr none) = absurd (none x.0 (omega arith) x.1)

      least : (k : ℕ) × IsLowest k
      least = ∥∥₁_elim h lowest_prop (λ x. some x (lowest_below (suc x.0)))

      take : Dec (P least.0) → (k : ℕ) × P k
      take (yes p) = (least.0, p)
      take (no ne) = absurd (∥∥₁_elim least.1.0 ⊥_prop ne)

  -- some number below n has the property, or none has
  pub decide_below : (n : ℕ) → Dec ((k : ℕ) × (k < n) × P k)
  decide_below zero = no (λ (k, l, h). absurd (omega arith))
  decide_below (suc n) = step (decide n) (decide_below n)
    where
      step : Dec (P n) → Dec ((k : ℕ) × (k < n) × P k) → Dec ((k : ℕ) × (k < suc n) × P k)
      step (yes h) d = yes (n, omega arith, h)
      step (no ne) (yes (k, l, h)) = yes (k, omega arith, h)
      step (no ne) (no none) = no (λ (k, l, h). last k l h (dec_lt k n))
        where
          last : (k : ℕ) → k < suc n → P k → Dec (k < n) → ⊥
          last k l h (yes i) = none (k, i, h)
          last k l h (no i) = let e : k ≡ n = omega arith in ne (subst P e h)

-- a word over the labels below n with the property, of k labels
record Long (n : ℕ) (P : List ℕ → Type 0) (k : ℕ) : Type 0 where
  by : List ℕ
  word : Word n by
  long : length by ≡ k
  holds : P by

module _ (n : ℕ) where
  decide_long : (P : List ℕ → Type 0) → ((w : List ℕ) → Dec (P w)) → (k : ℕ) → Dec (Long n P k)
  decide_long P decide zero = at (decide [])
    where
      only : (w : List ℕ) → length w ≡ 0 → P w → P []
      only [] e h = h
      only (a ∷ w) e h = absurd (omega arith)

      at : Dec (P []) → Dec (Long n P zero)
      at (yes h) = yes (record { by = []; word = tt; long = omega arith; holds = h })
      at (no ne) = no (λ l. ne (only l.by l.long l.holds))
  decide_long P decide (suc k) = at (decide_below (λ a. Long n (λ w. P (a ∷ w)) k) (λ a. decide_long (λ w. P (a ∷ w)) (λ w. decide (a ∷ w)) k) n)
    where
      split : (w : List ℕ) → Word n w → length w ≡ suc k → P w → (a : ℕ) × (a < n) × Long n (λ w. P (a ∷ w)) k
      split [] word e h = absurd (omega arith)
      split (a ∷ w) (l, word) e h = (a, l, record { by = w; word = word; long = omega arith; holds = h })

      at : Dec ((a : ℕ) × (a < n) × Long n (λ w. P (a ∷ w)) k) → Dec (Long n P (suc k))
      at (yes (a, l, w)) = yes (record { by = a ∷ w.by; word = (l, w.word); long = omega (arith, w.long); holds = w.holds })
      at (no none) = no (λ l. none (split l.by l.word l.long l.holds))

  found_word : (P : List ℕ → Type 0) → ((w : List ℕ) → Dec (P w)) → ∥ ((w : List ℕ) × Word n w × P w) ∥₁ → (w : List ℕ) × Word n w × P w
  found_word P decide h =
      let k = found_number (Long n P) (decide_long P decide) (∥∥₁_map h (λ (w, word, holds). (length w, record { by = w; word = word; long = refl; holds = holds }))) in
      (k.1.by, k.1.word, k.1.holds)

module _ (A : Automaton) where
  both : {P Q : Type 0} → Dec P → Dec Q → Dec (P × Q)
  both (yes h) (yes k) = yes (h, k)
  both (yes h) (no ne) = no (λ (_, k). ne k)
  both (no ne) d = no (λ (h, _). ne h)

  other : {P : Type 0} → Dec P → Dec (¬ P)
  other (yes h) = no (λ ne. ne h)
  other (no ne) = yes ne

  agrees_so : (R : ℕ → ℕ → Type 0) (m : Pairs) → ((p q : ℕ) → p < A.states → q < A.states → ∥ R p q ∥₁ → R p q) → ∥ Agrees A.states R m ∥₁ → Agrees A.states R m
  agrees_so R m so h p q = (
    λ i.
        let t = ∥∥₁_map h (λ g. (g p q).0 i) in
        let l = ∥∥₁_elim t le_prop (λ (l, _, _). l) in
        let k = ∥∥₁_elim t le_prop (λ (_, k, _). k) in
        (l, k, so p q l k (∥∥₁_map t (λ (_, _, r). r))),
    λ r. ∥∥₁_elim h (ℕ_set _ _) (λ g. (g p q).1 r),
  )

  differ_so : (m : Pairs) → ∥ Agrees A.states (Differ A) m ∥₁ → Agrees A.states (Differ A) m
  differ_so m = agrees_so (Differ A) m so
    where
      so : (p q : ℕ) → p < A.states → q < A.states → ∥ Differ A p q ∥₁ → Differ A p q
      so p q _ _ h =
          let w = found_word A.labels (λ w. A.yes (run A p w) ≢ A.yes (run A q w)) (λ w. other (Bool-discrete (A.yes (run A p w)) (A.yes (run A q w)))) (∥∥₁_map h (λ d. (d.by, d.word, d.differ))) in
          record { by = w.0; word = w.1; differ = w.2 }

  meet_so : (m : Pairs) → ∥ Agrees A.states (Meet A) m ∥₁ → Agrees A.states (Meet A) m
  meet_so m = agrees_so (Meet A) m so
    where
      so : (p q : ℕ) → p < A.states → q < A.states → ∥ Meet A p q ∥₁ → Meet A p q
      so p q _ _ h =
          let w = found_word A.labels (λ w. run A p w ≡ run A q w) (λ w. ℕ_discrete (run A p w) (run A q w)) (∥∥₁_map h (λ d. (d.by, d.word, d.same))) in
          record { by = w.0; word = w.1; same = w.2 }

  reach_so : (m : Pairs) → ∥ Agrees A.states (Reaches A) m ∥₁ → Agrees A.states (Reaches A) m
  reach_so m = agrees_so (Reaches A) m so
    where
      so : (p q : ℕ) → p < A.states → q < A.states → ∥ Reaches A p q ∥₁ → Reaches A p q
      so p q _ _ h =
          let w = found_word A.labels (λ w. run A p w ≡ q) (λ w. ℕ_discrete (run A p w) q) (∥∥₁_map h (λ d. (d.by, d.word, d.leads))) in
          record { by = w.0; word = w.1; leads = w.2 }

  -- whether a word stays in the component is read from the pairs that reach
  inside_so : WellFormed A → (r m : Pairs) → Agrees A.states (Reaches A) r → ∥ Agrees A.states (MeetInside A) m ∥₁ → Agrees A.states (MeetInside A) m
  inside_so f r m reach = agrees_so (MeetInside A) m so
    where
      so : (p q : ℕ) → p < A.states → q < A.states → ∥ MeetInside A p q ∥₁ → MeetInside A p q
      so p q l _ h =
          let w = found_word A.labels (λ w. (run A p w ≡ run A q w) × Has r (run A p w) p) (λ w. both (ℕ_discrete (run A p w) (run A q w)) (ℕ_discrete _ _)) (∥∥₁_map h (λ d. (d.by, d.word, (d.same, (reach (run A p d.by) p).1 (run_below A f p d.by l d.word, l, d.inside.back))))) in
          record { by = w.0; word = w.1; same = w.2.0; inside = record { there = record { by = w.0; word = w.1; leads = refl }; back = ((reach (run A p w.0) p).0 w.2.1).2 } }

  known_so : WellFormed A → (d m r i : Pairs) → ∥ Known A d m r i ∥₁ → Known A d m r i
  known_so f d m r i h =
      let reach = reach_so r (∥∥₁_map h (λ k. k.reach)) in
      record {
        differ = differ_so d (∥∥₁_map h (λ k. k.differ));
        meet = meet_so m (∥∥₁_map h (λ k. k.meet));
        reach = reach;
        inside = inside_so f r i reach (∥∥₁_map h (λ k. k.inside));
      }

pub known_of : (f : Facts) → Known (automaton f.table.now) f.differ f.meet f.reach f.inside
known_of f = known_so (automaton f.table.now) (well_formed f.table.now) f.differ f.meet f.reach f.inside f.known

pub agrees_of : (d : Differing) → Agrees (automaton d.table.now).states (Differ (automaton d.table.now)) d.pairs
agrees_of d = differ_so (automaton d.table.now) d.pairs d.agrees
