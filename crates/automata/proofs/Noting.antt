-- A selector with a depth and notes, over a stackless automaton, keeps the rules of its meaning.
use Rattle.std.proofs.Common.{◌≡◌, ℕ, ◌+◌, ◌-◌, ◌<◌, ◌≤◌, Bool, List, [], ◌∷◌, ◌++◌, length, sym, refl, ap, ◌∙◌, subst, inl, inr, ⊎_elim, arith}
use mathlib.Core.Logic.{∥∥₁_elim, ∥∥₁_prop}
use mathlib.Core.Bool.{Bool-set}
use mathlib.Core.HLevel.{×_prop}
use native.Mathlib.Nat.{ℕ_set}
use Rattle.std.proofs.lemmas.List.{length_push}
use Rattle.std.proofs.lemmas.Bool.{cases_lt}
use Rattle.automata.specs.Automata.{Automaton, Word, WellFormed, run, accepts}
use Rattle.automata.specs.States.{Together}
use Rattle.automata.specs.Lowest.{Lowest, found, none}
use Rattle.automata.specs.Meaning.{Rules, Same}
use Rattle.automata.specs.Noting.{Note, Serves, Noting, newest, older, Before, Noted, inside, leaves, Entered, Opened, Returned, recalled, retraced, Left, Closed}
use Rattle.automata.specs.Noted.{StandsIn, Notes, Notes.none, Stands, meaning, moves}
use Rattle.automata.proofs.Words.{run_append, word_append, word_parts, run_below}
use Rattle.automata.proofs.Together.{together_sym, together_trans, almost_sym, almost_trans, stands_in_refl, almost_step, before_almost}
use Rattle.automata.proofs.Notes.{Last, Last.stays, Last.leaves, newest_push, older_push, push_inside, push_across, last_step, newest_depth}

-- that an automaton serves is a fact, and no choice of one
pub serves_so : (A : Automaton) → WellFormed A → ∥ Serves A ∥₁ → Serves A
serves_so A formed h = record {
  formed = formed;
  distinct = λ p q hp hq e. ∥∥₁_elim h (ℕ_set p q) (λ s. s.distinct p q hp hq e);
  stackless = λ p q hp hq t m a w k. ∥∥₁_elim h (Bool-set _ _) (λ s. s.stackless p q hp hq t m a w k);
}

module _ (A : Automaton) (serves : Serves A) where
  -- the true state after a path
  abbrev at : List ℕ → ℕ
  at w = run A A.start w

  at_below : (w : List ℕ) → Word A.labels w → at w < A.states
  at_below w h = run_below A serves.formed A.start w serves.formed.start h

  fresh : Stands A A.start 0 [] []
  fresh = record { word = tt; depth = refl; state = stands_in_refl A A.start serves.formed.start; notes = Notes.none }

  module _ (p n : ℕ) (ns : List Note) (w : List ℕ) (a : ℕ) (ha : a < A.labels) (h : Stands A p n ns w) where
    -- the step goes where the true one does
    true_step : A.step p a ≡ A.step (at w) a
    true_step = almost_step A serves p (at w) a h.state.below (at_below w h.word) h.state.almost ha

    pub exact : A.step p a ≡ at (w ++ a ∷ [])
    exact = true_step ∙ sym (run_append A A.start w (a ∷ []))

    longer : Word A.labels (w ++ a ∷ [])
    longer = word_append A.labels w (a ∷ []) h.word (ha, tt)

    -- p and the true state leave their component together
    same : Together A p (A.step p a) → Together A (at w) (A.step (at w) a)
    same k = together_trans A (together_sym A h.state.together) (subst (Together A p) true_step k)

    other : ¬ Together A p (A.step p a) → ¬ Together A (at w) (A.step (at w) a)
    other away k = away (together_trans A h.state.together (subst (Together A (at w)) (sym true_step) k))

    entered : (ms : List Note) → Notes A 0 A.start (w ++ a ∷ []) ms → Stands A (A.step p a) (n + 1) ms (w ++ a ∷ [])
    entered ms k = record {
      word = longer;
      depth = omega (arith, h.depth, length_push w a);
      state = subst (λ x. StandsIn A x (at (w ++ a ∷ []))) (sym exact) (stands_in_refl A _ (at_below (w ++ a ∷ []) longer));
      notes = k;
    }

    pub enters_inside : Together A p (A.step p a) → Stands A (A.step p a) (n + 1) ns (w ++ a ∷ [])
    enters_inside k = entered ns (push_inside A a (same k) h.notes)

    pub enters_across : ¬ Together A p (A.step p a) → Stands A (A.step p a) (n + 1) (ns ++ record { depth = n + 1; state = p } ∷ []) (w ++ a ∷ [])
    enters_across k = entered _ (push_across A a (n + 1) p (omega (arith, h.depth)) (other k) h.state h.notes)

  -- inside a component the lowest state before the label stands in for the true one
  traced : (p q a r : ℕ) → q < A.states → a < A.labels → StandsIn A p (A.step q a) → Together A q (A.step q a) → Lowest (Before A p a) A.states p r → StandsIn A r q
  traced p q a r hq ha h home low = go low
    where
      pq : Together A p q
      pq = together_trans A h.together (together_sym A home)

      q_before : Before A p a q
      q_before = record { together = pq; target = h.together; almost = almost_sym A p (A.step q a) h.almost }

      at_before : (s : ℕ) → s < A.states → Before A p a s → StandsIn A s q
      at_before s hs b =
          let sq = together_trans A (together_sym A b.together) pq in
          record { below = hs; together = sq; almost = before_almost A serves s q a hs hq ha sq home (almost_trans A (A.step s a) p (A.step q a) b.almost h.almost) }

      go : {x : ℕ} → Lowest (Before A p a) A.states p x → StandsIn A x q
      go {x} (found l b f) = at_before x l b
      go (none never) = absurd (never q hq q_before)

  module _ (p n : ℕ) (ns : List Note) (w : List ℕ) (a : ℕ) (h : Stands A p n ns (w ++ a ∷ [])) where
    path : Word A.labels w
    path = (word_parts A.labels w (a ∷ []) h.word).0

    ha : a < A.labels
    ha = (word_parts A.labels w (a ∷ []) h.word).1.0

    shorter : n - 1 ≡ length w
    shorter = omega (arith, h.depth, length_push w a)

    pub recalls : n - 1 < (newest ns).depth → Stands A (newest ns).state (n - 1) (older ns) w
    recalls deep = go (last_step A 0 A.start a w ns h.notes)
      where
        go : Last A 0 A.start w a ns → Stands A (newest ns).state (n - 1) (older ns) w
        go (stays g k) = absurd (omega (arith, shorter, deep, newest_depth A k))
        go (leaves ms m e k r l) =
            let newest_is : newest ns ≡ m = ap newest e ∙ newest_push ms m in
            let older_is : older ns ≡ ms = ap older e ∙ older_push ms m in
            record { word = path; depth = shorter; state = subst (λ x. StandsIn A x.state (at w)) (sym newest_is) r; notes = subst (Notes A 0 A.start w) (sym older_is) l }

    pub retraces : (r : ℕ) → (newest ns).depth ≤ n - 1 → Lowest (Before A p a) A.states p r → Stands A r (n - 1) ns w
    retraces r high low = go (last_step A 0 A.start a w ns h.notes)
      where
        go : Last A 0 A.start w a ns → Stands A r (n - 1) ns w
        go (stays g k) = record { word = path; depth = shorter; state = traced p (at w) a r (at_below w path) ha (subst (StandsIn A p) (run_append A A.start w (a ∷ [])) h.state) g low; notes = k }
        go (leaves ms m e k r' l) =
            let newest_is : newest ns ≡ m = ap newest e ∙ newest_push ms m in
            absurd (omega (arith, shorter, high, ap (λ x. x.depth) newest_is, k))

module _ {S : Type 0} (v : Noting S) where
  abbrev At : Automaton → S → List ℕ → Type 0
  At A s w = Stands A (v.state s) (v.depth s) (v.notes s) w

  stands_by : (s t : S) (w : List ℕ) → v.kept s t → ∥ At (v.automaton s) t w ∥₁ → ∥ At (v.automaton t) t w ∥₁
  stands_by s t w k h = subst (λ A. ∥ At A t w ∥₁) (sym (v.kept_automaton s t k)) h

  same_by : (s t : S) → v.kept s t → Same (meaning v) s t
  same_by s t k =
      let e = v.kept_automaton s t k in
      record { labels = ap (λ A. A.labels) e; carry = refl; wants = λ w. ap (λ A. accepts A w) e }

  unmoved_same : (s t : S) → t ≡ s → Same (meaning v) s t
  unmoved_same s t e = record { labels = ap (λ x. (v.automaton x).labels) e; carry = refl; wants = λ w. ap (λ x. accepts (v.automaton x) w) e }

  open_same : (s t : S) (a : ℕ) (r : Bool) → Opened v s a t r → Same (meaning v) s t
  open_same s t a r h =
      ⊎_elim
      (λ known. ⊎_elim (λ room. same_by s t (h.enters known room).kept) (λ deep. unmoved_same s t (h.stays (inr deep)).0) (cases_lt (v.depth s) 65535))
      (λ unknown. unmoved_same s t (h.stays (inl unknown)).0)
      (cases_lt a (v.automaton s).labels)

  close_same : (s t : S) (a : ℕ) → Closed v s a t → Same (meaning v) s t
  close_same s t a h =
      ⊎_elim
      (λ known. ⊎_elim (λ some. same_by s t (h.leaves known some).kept) (λ zero. unmoved_same s t (h.stays (inr (let z : v.depth s ≡ 0 = omega arith in z)))) (cases_lt 0 (v.depth s)))
      (λ unknown. unmoved_same s t (h.stays (inl unknown)))
      (cases_lt a (v.automaton s).labels)

  -- state, depth and notes as they are after the move
  with_parts : (A : Automaton) (t : S) (w : List ℕ) {p n : ℕ} {ns : List Note} → v.state t ≡ p → v.depth t ≡ n → v.notes t ≡ ns → Stands A p n ns w → At A t w
  with_parts A t w e f g h = rw (e, f, g) h

  opened_stands : (s t : S) (a : ℕ) (r : Bool) (u : List ℕ) → a < (v.automaton s).labels → Entered v s a t r → At (v.automaton s) s u → ∥ At (v.automaton s) t (u ++ a ∷ []) ∥₁
  opened_stands s t a r u l h k = go h.notes
    where
      A : Automaton
      A = v.automaton s

      go : Noted v s a t → ∥ At (v.automaton s) t (u ++ a ∷ []) ∥₁
      go (inside together e) = ∥∥₁_elim together ∥∥₁_prop (λ g. ∣ with_parts (v.automaton s) t (u ++ a ∷ []) h.state h.depth e (enters_inside (v.automaton s) (v.serves s) _ _ _ u a l k g) ∣₁)
      go (leaves away e) = ∣ with_parts (v.automaton s) t (u ++ a ∷ []) h.state h.depth e (enters_across (v.automaton s) (v.serves s) _ _ _ u a l k away) ∣₁

  closed_stands : (s t : S) (a : ℕ) (u : List ℕ) → Left v s a t → At (v.automaton s) s (u ++ a ∷ []) → ∥ At (v.automaton s) t u ∥₁
  closed_stands s t a u h k = go h.returned
    where
      go : Returned v s a t → ∥ At (v.automaton s) t u ∥₁
      go (recalled deep e f) = ∣ with_parts (v.automaton s) t u e h.depth f (recalls (v.automaton s) (v.serves s) _ _ _ u a k deep) ∣₁
      go (retraced high low f) = ∥∥₁_elim low ∥∥₁_prop (λ g. ∣ with_parts (v.automaton s) t u refl h.depth f (retraces (v.automaton s) (v.serves s) _ _ _ u a k (v.state t) high g) ∣₁)

  pub noting_rules : Rules (meaning v) (moves v)
  noting_rules = record {
    renew_same = λ s t h. same_by s t h.kept;
    renew_stands = λ s t h. stands_by s t [] h.kept ∣ with_parts (v.automaton s) t [] h.state h.depth h.notes (fresh (v.automaton s) (v.serves s)) ∣₁;
    open_same = open_same;
    open_stands = λ s t a r h l u k c.
        ∥∥₁_elim k (×_prop ∥∥₁_prop (Bool-set _ _)) (λ g.
        let e = h.enters l (omega (arith, g.depth)) in
        (stands_by s t (u ++ a ∷ []) e.kept (opened_stands s t a r u l e g), e.answer ∙ ap (v.automaton s).yes (e.state ∙ exact (v.automaton s) (v.serves s) _ _ _ u a l g)));
    close_same = close_same;
    close_stands = λ s t a h b u k.
        ∥∥₁_elim k ∥∥₁_prop (λ g.
        let left = h.leaves (word_parts (v.automaton s).labels (b ∷ u) (a ∷ []) g.word).1.0 (omega (arith, g.depth)) in
        stands_by s t (b ∷ u) left.kept (closed_stands s t a (b ∷ u) left g));
  }
