-- Moves by labels, put together, are moves by words.
use Rattle.std.proofs.Common.{◌≡◌, ℕ, ◌<◌, ◌≢◌, List, [], ◌∷◌, ◌++◌, sym, refl, ap, ◌∙◌, subst}
use Rattle.automata.specs.Automata.{Automaton, Word, run, WellFormed}
use Rattle.automata.specs.States.{Differ, Meet, Reaches, MeetInside}
use Rattle.automata.proofs.Words.{word_append, run_append, run_below}
use Rattle.grading.specs.Preceding.{Leads}
use Rattle.grading.specs.Spreading.{Comes, there, move}

-- moves and wanted pairs that are more leave more pairs
pub comes_more : (n : ℕ) (g h : ℕ → ℕ → ℕ → ℕ → ℕ → Type 0) (V W : ℕ → ℕ → Type 0) → ((a p q x y : ℕ) → a < n → g a p q x y → h a p q x y) → ((p q : ℕ) → V p q → W p q) → (p q : ℕ) → Comes n g V p q → Comes n h W p q
comes_more n g h V W moves wants p q (there v) = there (wants p q v)
comes_more n g h V W moves wants p q (move {a = a} {x = x} {y = y} l s c) = move l (moves a p q x y l s) (comes_more n g h V W moves wants x y c)

-- where wanted pairs and moves stay below m, so does all that comes to a wanted pair
pub comes_within : (m n : ℕ) (g : ℕ → ℕ → ℕ → ℕ → ℕ → Type 0) (W : ℕ → ℕ → Type 0) → ((p q : ℕ) → W p q → (p < m) × (q < m)) → ((a p q x y : ℕ) → g a p q x y → y < m → (p < m) × (q < m)) → (p q : ℕ) → Comes n g W p q → (p < m) × (q < m)
comes_within m n g W wants moves p q (there w) = wants p q w
comes_within m n g W wants moves p q (move {a = a} {x = x} {y = y} l s c) = moves a p q x y s (comes_within m n g W wants moves x y c).1

module _ (A : Automaton) where
  -- a label leads from p to x and from q to y
  abbrev pub Both : ℕ → ℕ → ℕ → ℕ → ℕ → Type 0
  Both a p q x y = Leads A a p x × Leads A a q y

  -- a label leads from p to x, and q stays
  abbrev pub First : ℕ → ℕ → ℕ → ℕ → ℕ → Type 0
  First a p q x y = Leads A a p x × (q ≡ y)

  -- both take the label, and x reaches p
  abbrev pub Inside : ℕ → ℕ → ℕ → ℕ → ℕ → Type 0
  Inside a p q x y = (Leads A a p x × Reaches A x p) × Leads A a q y

  -- two states with different answers
  abbrev pub Unlike : ℕ → ℕ → Type 0
  Unlike p q = (p < A.states) × (q < A.states) × (A.yes p ≢ A.yes q)

  -- one state, twice
  abbrev pub Equal : ℕ → ℕ → Type 0
  Equal p q = (p < A.states) × (p ≡ q)

  pub reaches_self : (p : ℕ) → Reaches A p p
  reaches_self p = record { by = []; word = tt; leads = refl }

  pub reaches_more : (p q r : ℕ) → Reaches A p q → Reaches A q r → Reaches A p r
  reaches_more p q r l m = record {
    by = l.by ++ m.by;
    word = word_append A.labels l.by m.by l.word m.word;
    leads = run_append A p l.by m.by ∙ ap (λ z. run A z m.by) l.leads ∙ m.leads;
  }

  pub differ_from_comes : (p q : ℕ) → Comes A.labels Both Unlike p q → Differ A p q
  differ_from_comes p q (there h) = record { by = []; word = tt; differ = h.2 }
  differ_from_comes p q (move {a = a} {x = x} {y = y} l (s, t) c) =
      let d = differ_from_comes x y c in
      record {
        by = a ∷ d.by;
        word = (l, d.word);
        differ = subst (λ z. A.yes (run A z d.by) ≢ A.yes (run A (A.step q a) d.by)) (sym s.leads) (subst (λ z. A.yes (run A x d.by) ≢ A.yes (run A z d.by)) (sym t.leads) d.differ);
      }

  pub meet_from_comes : (p q : ℕ) → Comes A.labels Both Equal p q → Meet A p q
  meet_from_comes p q (there h) = record { by = []; word = tt; same = h.1 }
  meet_from_comes p q (move {a = a} {x = x} {y = y} l (s, t) c) =
      let m = meet_from_comes x y c in
      record {
        by = a ∷ m.by;
        word = (l, m.word);
        same = ap (λ z. run A z m.by) s.leads ∙ m.same ∙ sym (ap (λ z. run A z m.by) t.leads);
      }

  pub reaches_from_comes : (p q : ℕ) → Comes A.labels First Equal p q → Reaches A p q
  reaches_from_comes p q (there h) = record { by = []; word = tt; leads = h.1 }
  reaches_from_comes p q (move {a = a} {x = x} {y = y} l (s, e) c) =
      let m = reaches_from_comes x y c in
      record { by = a ∷ m.by; word = (l, m.word); leads = ap (λ z. run A z m.by) s.leads ∙ m.leads ∙ sym e }

  pub inside_from_comes : (p q : ℕ) → Comes A.labels Inside Equal p q → MeetInside A p q
  inside_from_comes p q (there h) = record { by = []; word = tt; same = h.1; inside = record { there = reaches_self p; back = reaches_self p } }
  inside_from_comes p q (move {a = a} {x = x} {y = y} l ((s, back), t) c) =
      let m = inside_from_comes x y c in
      let here : run A (A.step p a) m.by ≡ run A x m.by = ap (λ z. run A z m.by) s.leads in
      record {
        by = a ∷ m.by;
        word = (l, m.word);
        same = here ∙ m.same ∙ sym (ap (λ z. run A z m.by) t.leads);
        inside = record {
          there = record { by = a ∷ m.by; word = (l, m.word); leads = refl };
          back = subst (λ z. Reaches A z p) (sym here) (reaches_more (run A x m.by) x p m.inside.back back);
        };
      }

  module _ (f : WellFormed A) where
    -- a word that leads to a wanted pair, taken label by label
    comes_by : (W : ℕ → ℕ → Type 0) (p q : ℕ) (w : List ℕ) → p < A.states → q < A.states → Word A.labels w → W (run A p w) (run A q w) → Comes A.labels Both W p q
    comes_by W p q [] h k word wanted = there wanted
    comes_by W p q (a ∷ w) h k (l, word) wanted = move l (record { below = h; leads = refl }, record { below = k; leads = refl }) (comes_by W (A.step p a) (A.step q a) w (f.step p a h l) (f.step q a k l) word wanted)

    pub comes_from_differ : (p q : ℕ) → p < A.states → q < A.states → Differ A p q → Comes A.labels Both Unlike p q
    comes_from_differ p q h k d = comes_by Unlike p q d.by h k d.word (run_below A f p d.by h d.word, run_below A f q d.by k d.word, d.differ)

    pub comes_from_meet : (p q : ℕ) → p < A.states → q < A.states → Meet A p q → Comes A.labels Both Equal p q
    comes_from_meet p q h k m = comes_by Equal p q m.by h k m.word (run_below A f p m.by h m.word, m.same)

    comes_by_first : (p q : ℕ) (w : List ℕ) → p < A.states → Word A.labels w → run A p w ≡ q → Comes A.labels First Equal p q
    comes_by_first p q [] h word e = there (h, e)
    comes_by_first p q (a ∷ w) h (l, word) e = move l (record { below = h; leads = refl }, refl) (comes_by_first (A.step p a) q w (f.step p a h l) word e)

    pub comes_from_reaches : (p q : ℕ) → p < A.states → Reaches A p q → Comes A.labels First Equal p q
    comes_from_reaches p q h r = comes_by_first p q r.by h r.word r.leads

    comes_by_inside : (p q : ℕ) (w : List ℕ) → p < A.states → q < A.states → Word A.labels w → run A p w ≡ run A q w → Reaches A (run A p w) p → Comes A.labels Inside Equal p q
    comes_by_inside p q [] h k word e back = there (h, e)
    comes_by_inside p q (a ∷ w) h k (l, word) e back =
        let x : ℕ = A.step p a in
        let on : Reaches A x (run A x w) = record { by = w; word = word; leads = refl } in
        let to : Reaches A p x = record { by = a ∷ []; word = (l, tt); leads = refl } in
        move l ((record { below = h; leads = refl }, reaches_more x (run A x w) p on back), record { below = k; leads = refl })
        (comes_by_inside x (A.step q a) w (f.step p a h l) (f.step q a k l) word e (reaches_more (run A x w) p x back to))

    pub comes_from_inside : (p q : ℕ) → p < A.states → q < A.states → MeetInside A p q → Comes A.labels Inside Equal p q
    comes_from_inside p q h k m = comes_by_inside p q m.by h k m.word m.same m.inside.back
