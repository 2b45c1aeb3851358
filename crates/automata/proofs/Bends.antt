-- Documents that go down a path, some way back, down again and out: a machine that confuses two paths errs on one of two.
use Rattle.std.proofs.Common.{◌≡◌, ℕ, ◌<◌, ◌≢◌, List, [], ◌∷◌, ◌++◌, map, reverse, sym, refl, ap, ◌∙◌, subst, append_assoc}
use mathlib.Core.List.{reverse_aux, reverse-append, reverse-reverse, reverse_aux-append, cons-ne-nil}
use mathlib.Core.Bool.{Bool-discrete}
use Rattle.automata.specs.Automata.{Automaton, Word, accepts}
use Rattle.automata.specs.declared.tag.Tag.{Tag}
use Rattle.automata.specs.declared.tag.Tag.TheVariants.{Open, Close}
use Rattle.automata.specs.Streams.{Rest, Document, opened, path, Machine, reads, Errs}
use Rattle.automata.proofs.Words.{word_append}
use Rattle.automata.proofs.Tags.{opened_append, path_open, reads_append}

-- the tags lead from the labels `old` open to `new` open, without closing the root
record Leads (n : ℕ) (old : List ℕ) (ts : List (Tag ℕ)) (new : List ℕ) : Type 0 where
  rest : (us : List (Tag ℕ)) → Rest n new us → Rest n old (ts ++ us)
  labels : opened old ts ≡ new

leads_append : {n : ℕ} {r s t : List ℕ} {ts us : List (Tag ℕ)} → Leads n r ts s → Leads n s us t → Leads n r (ts ++ us) t
leads_append {n} {r} {ts} {us} h k = record {
  rest = λ vs e. subst (Rest n r) (sym (append_assoc ts us vs)) (h.rest (us ++ vs) (k.rest vs e));
  labels = opened_append r ts us ∙ ap (λ s. opened s us) h.labels ∙ k.labels;
}

leads_down : (n : ℕ) (stack w : List ℕ) → stack ≢ [] → Word n w → Leads n stack (map Open w) (reverse_aux w stack)
leads_down n stack [] some word = record { rest = λ us e. e; labels = refl }
leads_down n [] (a ∷ w) some word = absurd (some refl)
leads_down n (b ∷ stack) (a ∷ w) some (h, word) =
    let k = leads_down n (a ∷ b ∷ stack) w (cons-ne-nil a (b ∷ stack)) word in
    record { rest = λ us e. (h, k.rest us e); labels = k.labels }

leads_up : (n : ℕ) (stack s : List ℕ) → Leads n (s ++ stack) (map Close s) stack
leads_up n stack [] = record { rest = λ us e. e; labels = refl }
leads_up n stack (a ∷ s) = record { rest = λ us e. (refl, (leads_up n stack s).rest us e); labels = (leads_up n stack s).labels }

-- all that is open closes
rest_close : (n : ℕ) (stack : List ℕ) → Rest n stack (map Close stack)
rest_close n [] = refl
rest_close n (a ∷ stack) = (refl, rest_close n stack)

-- down c and y, back up to c, down v
abbrev front : List ℕ → List ℕ → List ℕ → List (Tag ℕ)
front c y v = map Open (c ++ y) ++ (map Close (reverse y) ++ map Open v)

-- the same, one opening more, and out
abbrev bend : List ℕ → List ℕ → List ℕ → ℕ → List (Tag ℕ)
bend c y v b = front c y v ++ Open b ∷ map Close (b ∷ reverse (c ++ v))

pub some_reverse : (a : ℕ) (w : List ℕ) → reverse (a ∷ w) ≢ []
some_reverse a w e = cons-ne-nil a w (sym (reverse-reverse (a ∷ w)) ∙ ap reverse e)

module _ (n a : ℕ) (c y v : List ℕ) (c_word : Word n (a ∷ c)) (y_word : Word n y) (v_word : Word n v) where
  leads_front : Leads n (a ∷ []) (map Open (c ++ y) ++ (map Close (reverse y) ++ map Open v)) (reverse (a ∷ c ++ v))
  leads_front =
      let down = leads_down n (a ∷ []) (c ++ y) (cons-ne-nil a []) (word_append n c y c_word.1 y_word) in
      let up = leads_up n (reverse (a ∷ c)) (reverse y) in
      let along = leads_down n (reverse (a ∷ c)) v (some_reverse a c) v_word in
      leads_append
      (subst (Leads n (a ∷ []) (map Open (c ++ y))) (reverse-append (a ∷ c) y) down)
      (leads_append up (subst (Leads n (reverse (a ∷ c)) (map Open v)) (sym (reverse_aux-append (a ∷ c) v [])) along))

  bend_document : (b : ℕ) → b < n → Document n (bend (a ∷ c) y v b)
  bend_document b h =
      let stack : List ℕ = reverse (a ∷ c ++ v) in
      let last = leads_down n stack (b ∷ []) (some_reverse a (c ++ v)) (h, tt) in
      (c_word.0, leads_front.rest _ (last.rest (map Close (b ∷ stack)) (rest_close n (b ∷ stack))))

  bend_path : (b : ℕ) → path (front (a ∷ c) y v ++ Open b ∷ []) ≡ (a ∷ c) ++ (v ++ b ∷ [])
  bend_path b = path_open (front (a ∷ c) y v) b ∙ ap (λ s. reverse s ++ b ∷ []) leads_front.labels ∙ ap (λ w. w ++ b ∷ []) (reverse-reverse (a ∷ c ++ v)) ∙ append_assoc (a ∷ c) v (b ∷ [])

-- the machine errs on some document
abbrev pub Fails : Automaton → Machine → Type 0
Fails A M = (d : List (Tag ℕ)) × Document A.labels d × Errs A M d

module _ (A : Automaton) (M : Machine) (a : ℕ) (c y v : List ℕ) (b : ℕ) (c_word : Word A.labels (a ∷ c)) (y_word : Word A.labels y) (v_word : Word A.labels v) (b_word : b < A.labels) where
  -- the machine's answer at the last opening of the bend
  bend_fails : M.picks (reads M M.start (front (a ∷ c) y v ++ Open b ∷ [])) ≢ accepts A ((a ∷ c) ++ (v ++ b ∷ [])) → Fails A M
  bend_fails h = (
    bend (a ∷ c) y v b,
    bend_document A.labels a c y v c_word y_word v_word b b_word,
    record {
      before = front (a ∷ c) y v;
      opens = b;
      after = map Close (b ∷ reverse (a ∷ c ++ v));
      splits = refl;
      differs = λ e. h (e ∙ ap (accepts A) (bend_path A.labels a c y v c_word y_word v_word b));
    },
  )

-- a machine that is in one state after two paths answers alike when it comes back and goes on
front_same : (M : Machine) (c d y v : List ℕ) (b : ℕ) → reads M M.start (map Open (c ++ y)) ≡ reads M M.start (map Open (d ++ y)) → reads M M.start (front c y v ++ Open b ∷ []) ≡ reads M M.start (front d y v ++ Open b ∷ [])
front_same M c d y v b e = steps c ∙ ap (λ m. reads M (reads M m (map Close (reverse y) ++ map Open v)) (Open b ∷ [])) e ∙ sym (steps d)
  where
    steps : (x : List ℕ) → reads M M.start (front x y v ++ Open b ∷ []) ≡ reads M (reads M (reads M M.start (map Open (x ++ y))) (map Close (reverse y) ++ map Open v)) (Open b ∷ [])
    steps x = reads_append M M.start (front x y v) (Open b ∷ []) ∙ ap (λ m. reads M m (Open b ∷ [])) (reads_append M M.start (map Open (x ++ y)) (map Close (reverse y) ++ map Open v))

-- a machine that is in one state after two paths errs, if the automaton tells them apart where they come back and go on
pub confused : (A : Automaton) (M : Machine) (a : ℕ) (c d y v : List ℕ) (b : ℕ) → Word A.labels (a ∷ c) → Word A.labels (a ∷ d) → Word A.labels y → Word A.labels v → b < A.labels → reads M M.start (map Open ((a ∷ c) ++ y)) ≡ reads M M.start (map Open ((a ∷ d) ++ y)) → accepts A ((a ∷ c) ++ (v ++ b ∷ [])) ≢ accepts A ((a ∷ d) ++ (v ++ b ∷ [])) → Fails A M
confused A M a c d y v b c_word d-word y_word v_word b_word same apart = cases (Bool-discrete (M.picks (reads M M.start (front (a ∷ c) y v ++ Open b ∷ []))) (accepts A ((a ∷ c) ++ (v ++ b ∷ []))))
  where
    cases : Dec (M.picks (reads M M.start (front (a ∷ c) y v ++ Open b ∷ [])) ≡ accepts A ((a ∷ c) ++ (v ++ b ∷ []))) → Fails A M
    cases (no h) = bend_fails A M a c y v b c_word y_word v_word b_word h
    cases (yes h) = bend_fails A M a d y v b d-word y_word v_word b_word (λ k. apart (sym h ∙ ap M.picks (front_same M (a ∷ c) (a ∷ d) y v b same) ∙ k))
