-- A selector that stores states keeps the rules of its meaning.
use Rattle.std.proofs.Common.{◌≡◌, ℕ, suc, ◌+◌, ◌-◌, ◌<◌, ◌≤◌, min, Bool, List, [], ◌∷◌, ◌++◌, length, get_or, take, sym, refl, ap, ◌∙◌, subst, ap₂, inl, inr, ⊎_elim, arith, length-set}
use Rattle.std.proofs.lemmas.List.{take_more_set, take_at, take-take, get_or_push, get_or-take, length_push}
use Rattle.std.proofs.ByRecursion.{All-push}
use Rattle.std.proofs.lemmas.Bool.{cases_lt}
use Rattle.automata.specs.Automata.{Automaton, Word, run, accepts}
use Rattle.automata.specs.Meaning.{Rules, Same}
use Rattle.automata.proofs.Words.{run_append}
use Rattle.automata.specs.Storing.{Storing, before, labels, carry, Stands, Opened, Pushed, Closed, Popped, meaning, moves}

before_push : (A : Automaton) (p : ℕ) (u : List ℕ) (a : ℕ) → before A p (u ++ (a ∷ [])) ≡ before A p u ++ (run A p u ∷ [])
before_push A p [] a = refl
before_push A p (b ∷ u) a = ap (λ w. p ∷ w) (before_push A (A.step p b) u a)

length_before : (A : Automaton) (p : ℕ) (w : List ℕ) → length (before A p w) ≡ length w
length_before A p [] = refl
length_before A p (a ∷ w) = ap suc (length_before A (A.step p a) w)

-- the last of a pushed list stands before its end
last_of : (xs ys : List ℕ) (y n : ℕ) → take n xs ≡ ys ++ (y ∷ []) → n ≡ length ys + 1 → (get_or xs (n - 1) 0 ≡ y) × (take (n - 1) xs ≡ ys)
last_of xs ys y n e d =
    let at : length ys ≡ n - 1 = omega arith in
    let short : n - 1 < n = omega arith in
    let le : n - 1 ≤ n = omega arith in (
      sym (get_or-take n xs (n - 1) 0 short) ∙ ap (λ l. get_or l (n - 1) 0) e ∙ get_or_push ys y 0 (n - 1) at,
      sym (take-take (n - 1) n xs le) ∙ ap (take (n - 1)) e ∙ take_at ys (y ∷ []) (n - 1) at,
    )

module _ {S : Type 0} (v : Storing S) where
  -- of a selector with the automaton A: its state and its store are those of the path w
  pub record Holds (A : Automaton) (t : S) (w : List ℕ) : Type 0 where
    pub word : Word A.labels w
    pub state : v.state t ≡ run A A.start w
    pub stored : take (v.used t) (v.bytes t) ≡ before A A.start w

  stands_by : (s t : S) (w : List ℕ) → v.kept s t → v.used t ≡ length w → Holds (v.automaton s) t w → Stands v t w
  stands_by s t w k d h =
      let h' : Holds (v.automaton t) t w = subst (λ A. Holds A t w) (sym (v.kept_automaton s t k)) h in
      record { word = h'.word; depth = d; state = h'.state; stored = h'.stored }

  same_by : (s t : S) → v.kept s t → length (v.bytes t) ≡ length (v.bytes s) → Same (meaning v) s t
  same_by s t k e =
      let a = v.kept_automaton s t k in
      record { labels = ap (λ A. A.labels) a; carry = ap (min 65535) e; wants = λ w. ap (λ A. accepts A w) a }

  unmoved_same : (s t : S) → t ≡ s → Same (meaning v) s t
  unmoved_same s t e = record { labels = ap (labels v) e; carry = ap (carry v) e; wants = λ w. ap (λ x. accepts (v.automaton x) w) e }

  open_same : (s t : S) (a : ℕ) (r : Bool) → Opened v s a t r → Same (meaning v) s t
  open_same s t a r h = ⊎_elim (λ known. ⊎_elim (moved known) (λ full. unmoved_same s t (h.stays (inr full)).0) (cases_lt (v.used s) (carry v s))) (λ unknown. unmoved_same s t (h.stays (inl unknown)).0) (cases_lt a (labels v s))
    where
      moved : a < labels v s → v.used s < carry v s → Same (meaning v) s t
      moved l room = let p = h.pushes l room in same_by s t p.kept (ap length p.bytes ∙ length-set (v.bytes s) (v.used s) (v.state s))

  close_same : (s t : S) (a : ℕ) → Closed v s a t → Same (meaning v) s t
  close_same s t a h = ⊎_elim (λ known. ⊎_elim (moved known) (λ none. unmoved_same s t (h.stays (inr (let z : v.used s ≡ 0 = omega arith in z)))) (cases_lt 0 (v.used s))) (λ unknown. unmoved_same s t (h.stays (inl unknown))) (cases_lt a (labels v s))
    where
      moved : a < labels v s → 0 < v.used s → Same (meaning v) s t
      moved l some = let p = h.pops l some in same_by s t p.kept (ap length p.bytes)

  pushed_stands : (s t : S) (a : ℕ) (r : Bool) (u : List ℕ) → a < labels v s → Pushed v s a t r → v.used s < length (v.bytes s) → Stands v s u → Stands v t (u ++ (a ∷ [])) × (r ≡ accepts (v.automaton s) (u ++ (a ∷ [])))
  pushed_stands s t a r u l p room h = (
    stands_by s t (u ++ (a ∷ [])) p.kept (p.used ∙ ap (λ n. n + 1) h.depth ∙ sym (length_push u a)) (record { word = All-push (λ b. b < A.labels) u a h.word l; state = led; stored = stored }),
    p.answer ∙ ap A.yes led,
  )
    where
      A : Automaton
      A = v.automaton s

      led : v.state t ≡ run A A.start (u ++ (a ∷ []))
      led = p.state ∙ ap (λ q. A.step q a) h.state ∙ sym (run_append A A.start u (a ∷ []))

      stored : take (v.used t) (v.bytes t) ≡ before A A.start (u ++ (a ∷ []))
      stored =
          ap₂ take p.used p.bytes ∙ take_more_set (v.bytes s) (v.used s) (v.state s) room ∙ ap₂ (λ l q. l ++ (q ∷ [])) h.stored h.state ∙ sym (before_push A A.start u a)

  popped_stands : (s t : S) (a : ℕ) (u : List ℕ) → Popped v s t → Stands v s (u ++ (a ∷ [])) → Stands v t u
  popped_stands s t a u p h =
      stands_by s t u p.kept (p.used ∙ (let e : v.used s - 1 ≡ length u = omega (arith, deep) in e)) (record {
        word = all_front u h.word;
        state = p.state ∙ last.0;
        stored = ap₂ take p.used p.bytes ∙ last.1;
      })
    where
      A : Automaton
      A = v.automaton s

      deep : v.used s ≡ length u + 1
      deep = h.depth ∙ length_push u a

      all_front : (w : List ℕ) → Word A.labels (w ++ (a ∷ [])) → Word A.labels w
      all_front [] k = tt
      all_front (b ∷ w) k = (k.0, all_front w k.1)

      last : (get_or (v.bytes s) (v.used s - 1) 0 ≡ run A A.start u) × (take (v.used s - 1) (v.bytes s) ≡ before A A.start u)
      last = last_of (v.bytes s) (before A A.start u) (run A A.start u) (v.used s) (h.stored ∙ before_push A A.start u a) (deep ∙ ap (λ n. n + 1) (sym (length_before A A.start u)))

  last_below : (s : S) (u : List ℕ) (a : ℕ) → Word (labels v s) (u ++ (a ∷ [])) → a < labels v s
  last_below s [] a h = h.0
  last_below s (b ∷ u) a h = last_below s u a h.1

  pub storing_rules : Rules (meaning v) (moves v)
  storing_rules = record {
    renew_same = λ s t h. same_by s t h.kept (ap length h.bytes);
    renew_stands = λ s t h. stands_by s t [] h.kept h.used (record { word = tt; state = h.state; stored = ap (λ n. take n (v.bytes t)) h.used });
    open_same = open_same;
    open_stands = λ s t a r h l u k c. pushed_stands s t a r u l (h.pushes l (rw k.depth c)) (omega (arith, k.depth)) k;
    close_same = close_same;
    close_stands = λ s t a h b u k. popped_stands s t a (b ∷ u) (h.pops (last_below s (b ∷ u) a k.word) (omega (arith, k.depth))) k;
  }
