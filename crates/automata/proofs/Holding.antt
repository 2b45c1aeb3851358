-- A selector that holds one state of a registerless automaton keeps the rules of its meaning.
use Rattle.std.proofs.Common.{◌≡◌, ℕ, ◌<◌, Bool, List, [], ◌∷◌, ◌++◌, sym, refl, ap, ◌∙◌, subst, ⊎_elim}
use mathlib.Core.Logic.{∥∥₁_elim, ∥∥₁_prop}
use mathlib.Core.Bool.{Bool-set}
use native.Mathlib.Nat.{ℕ_set}
use Rattle.std.proofs.lemmas.Bool.{cases_lt}
use Rattle.automata.specs.Automata.{Automaton, Word, WellFormed, run, accepts}
use Rattle.automata.specs.States.{Internal, Almost}
use Rattle.automata.specs.Lowest.{Lowest, found, none}
use Rattle.automata.specs.Meaning.{Rules, Same}
use Rattle.automata.specs.Holding.{Serves, Holding, Before, StandsIn, Stepped, Closed, meaning, moves}
use Rattle.automata.proofs.Words.{word_append, word_parts, run_append, run_below, internal_below}

-- that an automaton serves is a fact, and no choice of one
pub serves_so : (A : Automaton) → WellFormed A → ∥ Serves A ∥₁ → Serves A
serves_so A formed h = record {
  formed = formed;
  distinct = λ p q hp hq e. ∥∥₁_elim h (ℕ_set p q) (λ s. s.distinct p q hp hq e);
  registerless = λ p q i j m a w k. ∥∥₁_elim h (Bool-set _ _) (λ s. s.registerless p q i j m a w k);
}

module _ (A : Automaton) (serves : Serves A) where
  -- almost equivalent states are one after a label
  same_next : (p q a : ℕ) → p < A.states → q < A.states → a < A.labels → Almost A p q → A.step p a ≡ A.step q a
  same_next p q a hp hq ha almost = serves.distinct (A.step p a) (A.step q a) (serves.formed.step p a hp ha) (serves.formed.step q a hq ha) (λ w word. almost a w (ha, word))

  -- the automaton's own state stands for the path
  own_stands : (p a : ℕ) (w : List ℕ) → Word A.labels (a ∷ w) → p ≡ run A A.start (a ∷ w) → StandsIn A p (a ∷ w)
  own_stands p a w word e = (word, ∣ record { first = a; rest = w; word = word; leads = sym e } ∣₁, λ b v _. ap (λ q. A.yes (run A q (b ∷ v))) e)

  stepped : (p a : ℕ) (w : List ℕ) → p < A.states → a < A.labels → StandsIn A p w → StandsIn A (A.step p a) (w ++ a ∷ []) × (A.step p a ≡ run A A.start (w ++ a ∷ []))
  stepped p a [] hp ha stands =
      let e : A.step p a ≡ A.step A.start a = ap (λ q. A.step q a) stands in
      (own_stands (A.step p a) a [] (ha, tt) e, e)
  stepped p a (b ∷ w) hp ha (word, internal, almost) =
      let hq = run_below A serves.formed A.start (b ∷ w) serves.formed.start word in
      let e = same_next p (run A A.start (b ∷ w)) a hp hq ha almost ∙ sym (run_append A A.start (b ∷ w) (a ∷ [])) in
      (own_stands (A.step p a) b (w ++ a ∷ []) (word_append A.labels (b ∷ w) (a ∷ []) word (ha, tt)) e, e)

  module _ (p a b : ℕ) (w : List ℕ) (hp : p < A.states) (word : Word A.labels ((b ∷ w) ++ a ∷ [])) (almost : Almost A p (run A A.start ((b ∷ w) ++ a ∷ []))) where
    words : Word A.labels (b ∷ w) × Word A.labels (a ∷ [])
    words = word_parts A.labels (b ∷ w) (a ∷ []) word

    ha : a < A.labels
    ha = words.1.0

    -- the state before the label
    abbrev q : ℕ
    q = run A A.start (b ∷ w)

    q_internal : Internal A q
    q_internal = record { first = b; rest = w; word = words.0; leads = refl }

    hq : q < A.states
    hq = internal_below A serves.formed q_internal

    q_before : Before A p a q
    q_before = (q_internal, λ c v k. sym (almost c v k ∙ ap (λ x. A.yes (run A x (c ∷ v))) (run_append A A.start (b ∷ w) (a ∷ []))))

    -- whatever can have been before meets it by a and one label more, so they are almost equivalent
    before_almost : (s : ℕ) → Before A p a s → Almost A s q
    before_almost s (internal, leads) = serves.registerless s q internal q_internal (record { by = a ∷ a ∷ []; word = (ha, (ha, tt)); same = next s (internal_below A serves.formed internal) leads ∙ sym (next q hq q_before.1) })
      where
        next : (x : ℕ) → x < A.states → Almost A (A.step x a) p → A.step (A.step x a) a ≡ A.step p a
        next x hx h = same_next (A.step x a) p a (serves.formed.step x a hx ha) hp ha h

    pub lowest_before : (r : ℕ) → Lowest (Before A p a) A.states p r → Before A p a r
    lowest_before r (found h before low) = before
    lowest_before r (none never) = absurd (never q hq q_before)

    pub returned : (r : ℕ) → ∥ Lowest (Before A p a) A.states p r ∥₁ → StandsIn A r (b ∷ w)
    returned r low = (
      words.0,
      ∥∥₁_elim low ∥∥₁_prop (λ l. ∣ (lowest_before r l).0 ∣₁),
      λ c v k. ∥∥₁_elim low (Bool-set _ _) (λ l. before_almost r (lowest_before r l) c v k),
    )

module _ {S : Type 0} (v : Holding S) where
  stands_by : (s t : S) (w : List ℕ) → v.kept s t → StandsIn (v.automaton s) (v.state t) w → StandsIn (v.automaton t) (v.state t) w
  stands_by s t w k h = subst (λ A. StandsIn A (v.state t) w) (sym (v.kept_automaton s t k)) h

  same_by : (s t : S) → v.kept s t → Same (meaning v) s t
  same_by s t k =
      let e = v.kept_automaton s t k in
      record { labels = ap (λ A. A.labels) e; carry = refl; wants = λ w. ap (λ A. accepts A w) e }

  unmoved_same : (s t : S) → t ≡ s → Same (meaning v) s t
  unmoved_same s t e = record { labels = ap (λ x. (v.automaton x).labels) e; carry = refl; wants = λ w. ap (λ x. accepts (v.automaton x) w) e }

  opened_stands : (s t : S) (a : ℕ) (r : Bool) (u : List ℕ) → a < (v.automaton s).labels → Stepped v s a t r → StandsIn (v.automaton s) (v.state s) u → StandsIn (v.automaton t) (v.state t) (u ++ a ∷ []) × (r ≡ accepts (v.automaton s) (u ++ a ∷ []))
  opened_stands s t a r u l h stands =
      let A = v.automaton s in
      let on = stepped A (v.serves s) (v.state s) a u (v.inside s) l stands in (
        stands_by s t (u ++ a ∷ []) h.kept (subst (λ p. StandsIn A p (u ++ a ∷ [])) (sym h.state) on.0),
        h.answer ∙ ap A.yes (h.state ∙ on.1),
      )

  closed_stands : (s t : S) (a b : ℕ) (u : List ℕ) → Closed v s a t → StandsIn (v.automaton s) (v.state s) ((b ∷ u) ++ a ∷ []) → StandsIn (v.automaton t) (v.state t) (b ∷ u)
  closed_stands s t a b u h (word, internal, almost) =
      let A = v.automaton s in
      let back = h.returns (word_parts A.labels (b ∷ u) (a ∷ []) word).1.0 in
      stands_by s t (b ∷ u) back.kept (returned A (v.serves s) (v.state s) a b u (v.inside s) word almost (v.state t) back.state)

  pub holding_rules : Rules (meaning v) (moves v)
  holding_rules = record {
    renew_same = λ s t h. same_by s t h.kept;
    renew_stands = λ s t h. stands_by s t [] h.kept h.state;
    open_same = λ s t a r h. ⊎_elim (λ l. same_by s t (h.steps l).kept) (λ l. unmoved_same s t (h.stays l).0) (cases_lt a (v.automaton s).labels);
    open_stands = λ s t a r h l u k c. opened_stands s t a r u l (h.steps l) k;
    close_same = λ s t a h. ⊎_elim (λ l. same_by s t (h.returns l).kept) (λ l. unmoved_same s t (h.stays l)) (cases_lt a (v.automaton s).labels);
    close_stands = λ s t a h b u k. closed_stands s t a b u h k;
  }
