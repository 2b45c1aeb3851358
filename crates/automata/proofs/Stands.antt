-- The state of the automaton's machine stands for the path of open labels.
use Rattle.std.proofs.Common.{◌≡◌, ℕ, ◌<◌, ◌&&◌, List, [], ◌∷◌, ◌++◌, Decides, sym, refl, ap, ◌∙◌, le_refl}
use Rattle.std.proofs.lemmas.Bool.Decides.{Decides-and}
use Rattle.automata.specs.Automata.{Automaton, Word, run, WellFormed}
use Rattle.automata.specs.States.{Minimal, Internal, Almost}
use Rattle.automata.specs.Backward.{Tests, back, Stands}
use Rattle.automata.specs.Theorems.{OpeningStands, ClosingStands}
use Rattle.automata.proofs.Words.{word_append, word_parts, run_append, run_below, internal_below}
use Rattle.automata.proofs.Lowest.{lowest_below, lowest_passes}

-- almost equivalent states are one after a letter
same_next : (A : Automaton) → WellFormed A → Minimal A → (p q a : ℕ) → p < A.states → q < A.states → a < A.labels → Almost A p q → A.step p a ≡ A.step q a
same_next A f m p q a p_below q_below h almost = m.distinct (A.step p a) (A.step q a) (f.step p a p_below h) (f.step q a q_below h) (λ w word. almost a w (h, word))

-- the automaton's own state stands for the path
own_stands : (A : Automaton) (p a : ℕ) (w : List ℕ) → Word A.labels (a ∷ w) → p ≡ run A A.start (a ∷ w) → Stands A p (a ∷ w)
own_stands A p a w word e = (word, record { first = a; rest = w; word = word; leads = sym e }, λ b v _. ap (λ q. A.yes (run A q (b ∷ v))) e)

pub opening_stands : OpeningStands
opening_stands A f m p a [] h stands =
    let e : A.step p a ≡ A.step A.start a = ap (λ q. A.step q a) stands in
    (own_stands A (A.step p a) a [] (h, tt) e, e)
opening_stands A f m p a (b ∷ w) h (word, internal, almost) =
    let q_below = run_below A f A.start (b ∷ w) f.start word in
    let e = same_next A f m p (run A A.start (b ∷ w)) a (internal_below A f internal) q_below h almost ∙ sym (run_append A A.start (b ∷ w) (a ∷ [])) in
    (own_stands A (A.step p a) b (w ++ a ∷ []) (word_append A.labels (b ∷ w) (a ∷ []) word (h, tt)) e, e)

pub back_below : (A : Automaton) (T : Tests A) (p a : ℕ) → p < A.states → back A T p a < A.states
back_below A T p a h = lowest_below (λ s. T.internal s && T.almost (A.step s a) p) A.states A.states p (le_refl A.states) h

-- what the machine looks for as an element closes
module _ (A : Automaton) (f : WellFormed A) (T : Tests A) (p a : ℕ) (p_below : p < A.states) (h : a < A.labels) where
  back_decides : (s : ℕ) → s < A.states → Decides (T.internal s && T.almost (A.step s a) p) (Internal A s × Almost A (A.step s a) p)
  back_decides s s_below = Decides-and (T.internal s) (T.almost (A.step s a) p) (T.internal_decides s s_below) (T.almost_decides (A.step s a) p (f.step s a s_below h) p_below)

  -- it finds such a state where there is one
  back_found : (q : ℕ) → q < A.states → Internal A q → Almost A (A.step q a) p → Internal A (back A T p a) × Almost A (A.step (back A T p a) a) p
  back_found q q_below internal almost = (back_decides (back A T p a) (back_below A T p a p_below)).0 (lowest_passes (λ s. T.internal s && T.almost (A.step s a) p) A.states p q q_below ((back_decides q q_below).1 (internal, almost)))

-- the state found meets the automaton's own by a and one letter more, so they are almost equivalent
pub closing_stands : ClosingStands
closing_stands A f m registerless T p a b w (word, internal, almost) = (words.0, found.0, registerless s q found.0 q_internal (record { by = a ∷ a ∷ []; word = (h, (h, tt)); same = next s_below found.1 ∙ sym (next q_below q_leads) }))
  where
    words : Word A.labels (b ∷ w) × Word A.labels (a ∷ [])
    words = word_parts A.labels (b ∷ w) (a ∷ []) word

    h : a < A.labels
    h = words.1.0

    p_below : p < A.states
    p_below = internal_below A f internal

    q : ℕ
    q = run A A.start (b ∷ w)

    q_internal : Internal A q
    q_internal = record { first = b; rest = w; word = words.0; leads = refl }

    q_below : q < A.states
    q_below = internal_below A f q_internal

    q_leads : Almost A (A.step q a) p
    q_leads c v k = sym (almost c v k ∙ ap (λ x. A.yes (run A x (c ∷ v))) (run_append A A.start (b ∷ w) (a ∷ [])))

    s : ℕ
    s = back A T p a

    s_below : s < A.states
    s_below = back_below A T p a p_below

    found : Internal A s × Almost A (A.step s a) p
    found = back_found A f T p a p_below h q q_below q_internal q_leads

    next : {x : ℕ} → x < A.states → Almost A (A.step x a) p → A.step (A.step x a) a ≡ A.step p a
    next {x} x_below leads = same_next A f m (A.step x a) p a (f.step x a x_below h) p_below h leads
