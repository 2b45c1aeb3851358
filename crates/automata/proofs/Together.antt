-- Components, and almost equivalent states in them.
use Rattle.std.proofs.Common.{◌≡◌, ℕ, ◌<◌, List, [], ◌∷◌, ◌++◌, sym, refl, ap, ◌∙◌, subst}
use Rattle.automata.specs.Automata.{Automaton, Word, run}
use Rattle.automata.specs.States.{Reaches, Almost, Together}
use Rattle.automata.specs.Noting.{Serves}
use Rattle.automata.specs.Noted.{StandsIn}
use Rattle.automata.proofs.Words.{run_append, word_append}

module _ (A : Automaton) where
  pub reaches_step : (p a : ℕ) → a < A.labels → Reaches A p (A.step p a)
  reaches_step p a h = record { by = a ∷ []; word = (h, tt); leads = refl }

  pub reaches_trans : {p q r : ℕ} → Reaches A p q → Reaches A q r → Reaches A p r
  reaches_trans {p} h k = record {
    by = h.by ++ k.by;
    word = word_append A.labels h.by k.by h.word k.word;
    leads = run_append A p h.by k.by ∙ ap (λ x. run A x k.by) h.leads ∙ k.leads;
  }

  pub together_refl : (p : ℕ) → Together A p p
  together_refl p = record { there = record { by = []; word = tt; leads = refl }; back = record { by = []; word = tt; leads = refl } }

  pub together_sym : {p q : ℕ} → Together A p q → Together A q p
  together_sym h = record { there = h.back; back = h.there }

  pub together_trans : {p q r : ℕ} → Together A p q → Together A q r → Together A p r
  together_trans h k = record { there = reaches_trans h.there k.there; back = reaches_trans k.back h.back }

  pub almost_sym : (p q : ℕ) → Almost A p q → Almost A q p
  almost_sym p q h a w k = sym (h a w k)

  pub almost_trans : (p q r : ℕ) → Almost A p q → Almost A q r → Almost A p r
  almost_trans p q r h k a w l = h a w l ∙ k a w l

  pub stands_in_refl : (p : ℕ) → p < A.states → StandsIn A p p
  stands_in_refl p h = record { below = h; together = together_refl p; almost = λ a w k. refl }

module _ (A : Automaton) (serves : Serves A) where
  -- almost equivalent states have the same successors
  pub almost_step : (p q a : ℕ) → p < A.states → q < A.states → Almost A p q → a < A.labels → A.step p a ≡ A.step q a
  almost_step p q a hp hq h ha =
      serves.distinct (A.step p a) (A.step q a) (serves.formed.step p a hp ha) (serves.formed.step q a hq ha) (λ w k. h a w (ha, k))

  -- so every nonempty word brings them to one state
  almost_run : (p q a : ℕ) (v : List ℕ) → p < A.states → q < A.states → Almost A p q → a < A.labels → Word A.labels v → run A p (v ++ a ∷ []) ≡ run A q (v ++ a ∷ [])
  almost_run p q a [] hp hq h ha hv = almost_step p q a hp hq h ha
  almost_run p q a (b ∷ v) hp hq h ha hv = ap (λ x. run A x (v ++ a ∷ [])) (almost_step p q b hp hq h hv.0)

  -- two states of a component whose successors by a are almost equivalent, where one of these stays inside
  pub before_almost : (p q a : ℕ) → p < A.states → q < A.states → a < A.labels → Together A p q → Together A q (A.step q a) → Almost A (A.step p a) (A.step q a) → Almost A p q
  before_almost p q a hp hq ha pq stays h =
      serves.stackless p q hp hq pq (record {
        by = a ∷ (v ++ a ∷ []);
        word = (ha, word_append A.labels v (a ∷ []) stays.back.word (ha, tt));
        same = meet ∙ sym round;
        inside = together_trans A pq (subst (λ x. Together A q x) (sym meet) stays);
      })
    where
      v : List ℕ
      v = stays.back.by

      round : run A q (a ∷ (v ++ a ∷ [])) ≡ A.step q a
      round = run_append A (A.step q a) v (a ∷ []) ∙ ap (λ x. A.step x a) stays.back.leads

      meet : run A p (a ∷ (v ++ a ∷ [])) ≡ A.step q a
      meet = almost_run (A.step p a) (A.step q a) a v (serves.formed.step p a hp ha) (serves.formed.step q a hq ha) h ha stays.back.word ∙ round
