-- An automaton has one minimal automaton whose states are numbered as they are first met.
use Rattle.std.proofs.Common.{◌≡◌, ℕ, zero, suc, ◌<◌, ◌≤◌, max, List, [], ◌∷◌, sym, refl, ap, ◌∙◌, subst, ⊎_elim, arith}
use Rattle.std.proofs.lemmas.Bool.{cases_lt}
use Rattle.automata.specs.Automata.{Automaton, Word, run, WellFormed}
use Rattle.automata.specs.Minimising.{Minimised, OnlyMinimised}
use Rattle.automata.specs.Numbering.{met_in_row, met}
use Rattle.automata.proofs.Meeting.{row_grows, met_before}

module _ (A B C : Automaton) (b_formed : WellFormed B) (c_formed : WellFormed C) (b : Minimised A B) (c : Minimised A C) where
  same_labels : B.labels ≡ C.labels
  same_labels = b.labels ∙ sym c.labels

  word_back : (w : List ℕ) → Word C.labels w → Word B.labels w
  word_back w = subst (λ n. Word n w) (sym same_labels)

  -- p in B and q in C accept the same continuations
  Like : ℕ → ℕ → Type 0
  Like p q = (w : List ℕ) → Word B.labels w → B.yes (run B p w) ≡ C.yes (run C q w)

  moves : (p q l : ℕ) → l < B.labels → Like p q → Like (B.step p l) (C.step q l)
  unfolding Like
  moves p q l i like w word = like (l ∷ w) (i, word)

  starts : Like B.start C.start
  unfolding Like
  starts w word = let here = subst (λ n. Word n w) b.labels word in b.accepts w here ∙ sym (c.accepts w here)

  one_in_C : (p q r : ℕ) → q < C.states → r < C.states → Like p q → Like p r → q ≡ r
  unfolding Like
  one_in_C p q r h k e f = c.minimal.distinct q r h k (λ w word. sym (e w (word_back w word)) ∙ f w (word_back w word))

  one_in_B : (p q r : ℕ) → p < B.states → q < B.states → Like p r → Like q r → p ≡ q
  unfolding Like
  one_in_B p q r h k e f = b.minimal.distinct p q h k (λ w word. e w word ∙ sym (f w word))

  -- the first k states of both are alike
  record Agree (k : ℕ) : Type 0 where
    like : (q : ℕ) → q < k → Like q q
    in_B : k ≤ B.states
    in_C : k ≤ C.states

  -- a place that comes behind k states in both
  module _ (p l k : ℕ) (h : p < B.states) (h' : p < C.states) (i : l < B.labels) (known : p < k) (agree : Agree k) (le : B.step p l ≤ k) (le' : C.step p l ≤ k) where
    leads : Like (B.step p l) (C.step p l)
    leads = moves p p l i (agree.like p known)

    inside : B.step p l < B.states
    inside = b_formed.step p l h i

    inside' : C.step p l < C.states
    inside' = c_formed.step p l h' (omega (arith, same_labels))

    same_target : B.step p l ≡ C.step p l
    same_target = ⊎_elim
        (λ (less : B.step p l < k). one_in_C (B.step p l) (B.step p l) (C.step p l) (omega (arith, agree.in_C)) inside' (agree.like (B.step p l) less) leads)
        (λ (past : k ≤ B.step p l). ⊎_elim
        (λ (less : C.step p l < k). one_in_B (B.step p l) (C.step p l) (C.step p l) inside (omega (arith, agree.in_B)) leads (agree.like (C.step p l) less))
        (λ (past' : k ≤ C.step p l). let e : B.step p l ≡ C.step p l = omega arith in e)
        (cases_lt (C.step p l) k))
        (cases_lt (B.step p l) k)

    agree_more : Agree (max k (suc (B.step p l)))
    agree_more = record {
      like = λ q j. ⊎_elim
          (λ (less : q < k). agree.like q less)
          (λ (past : k ≤ q). let e : B.step p l ≡ q = omega arith in subst (λ x. Like x x) e (subst (Like (B.step p l)) (sym same_target) leads))
          (cases_lt q k);
      in_B = omega (arith, agree.in_B, inside);
      in_C = omega (arith, agree.in_C, inside', same_target);
    }

  -- behind the first l targets of row p both scans have met the same
  record Level (p l : ℕ) : Type 0 where
    same : met_in_row (B.step p) (met B.labels B.step p) l ≡ met_in_row (C.step p) (met C.labels C.step p) l
    agree : Agree (met_in_row (B.step p) (met B.labels B.step p) l)

  level_row : (p : ℕ) → p < B.states → p < C.states → Level p 0 → (l : ℕ) → l ≤ B.labels → Level p l
  level_row p h h' first zero i = first
  level_row p h h' first (suc l) i =
      let before = level_row p h h' first l (omega arith) in
      let n : ℕ = met_in_row (B.step p) (met B.labels B.step p) l in
      let known : p < n = omega (arith, met_before B b.numbered p (b.minimal.reached p h), row_grows (B.step p) (met B.labels B.step p) l) in
      let le : B.step p l ≤ n = b.numbered.next p l h (omega arith) in
      let le' : C.step p l ≤ n = omega (arith, c.numbered.next p l h' (omega (arith, same_labels)), before.same) in
      let target = same_target p l n h h' (omega arith) known before.agree le le' in
      record { same = λ j. max (before.same j) (suc (target j)); agree = agree_more p l n h h' (omega arith) known before.agree le le' }

  level : (p : ℕ) → p ≤ B.states → p ≤ C.states → Level p 0
  level zero h k = record {
    same = refl;
    agree = record {
      like = λ q j. let e : 0 ≡ q = omega arith in subst (λ x. Like x x) e (subst (λ x. Like x 0) b.numbered.start (subst (Like B.start) c.numbered.start starts));
      in_B = omega (arith, b_formed.start);
      in_C = omega (arith, c_formed.start);
    };
  }
  level (suc p) h k =
      let row = level_row p h k (level p (omega arith) (omega arith)) B.labels (omega arith) in
      record { same = row.same ∙ ap (met_in_row (C.step p) (met C.labels C.step p)) same_labels; agree = row.agree }

  no_more : B.states ≤ C.states
  no_more = ⊎_elim
      (λ (less : C.states < B.states). absurd (omega (arith, met_before B b.numbered C.states (b.minimal.reached C.states less), (level C.states (omega arith) (omega arith)).same, c.numbered.whole)))
      (λ (more : B.states ≤ C.states). more)
      (cases_lt C.states B.states)

  like_itself : (p : ℕ) → p < B.states → Like p p
  like_itself p h = (level B.states (omega arith) no_more).agree.like p (omega (arith, b.numbered.whole))

  same_answer : (p : ℕ) → p < B.states → B.yes p ≡ C.yes p
  unfolding Like
  same_answer p h = like_itself p h [] tt

  same_step : (p l : ℕ) → p < B.states → l < B.labels → B.step p l ≡ C.step p l
  same_step p l h i =
      let x : ℕ = B.step p l in
      let in_B = b_formed.step p l h i in
      one_in_C x x (C.step p l) (omega (arith, in_B, no_more)) (c_formed.step p l (omega (arith, no_more)) (omega (arith, same_labels))) (like_itself x in_B) (moves p p l i (like_itself p h))

pub only_minimised : (A B : Automaton) → WellFormed B → Minimised A B → OnlyMinimised A B
only_minimised A B b_formed b C c_formed c = record {
  labels = same_labels A B C b_formed c_formed b c;
  states = omega (arith, no_more A B C b_formed c_formed b c, no_more A C B c_formed b_formed c b);
  start = b.numbered.start ∙ sym c.numbered.start;
  step = same_step A B C b_formed c_formed b c;
  yes = same_answer A B C b_formed c_formed b c;
}
