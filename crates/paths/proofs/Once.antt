-- A path has one table: two scans meet the same sets in the same order.
use Rattle.std.proofs.Common.{◌≡◌, ℕ, zero, suc, ◌<◌, ◌≤◌, max, List, length, Decides, sym, refl, ap, ◌∙◌, subst, ⊎_elim, arith}
use Rattle.std.proofs.lemmas.Bool.{cases_lt}
use Rattle.std.proofs.lemmas.Bool.Decides.{same_from_decides}
use Rattle.automata.specs.Automata.{Automaton}
use Rattle.paths.specs.declared.path.Step.{Step}
use Rattle.automata.specs.Numbering.{met_in_row, met, Alike}
use Rattle.paths.specs.Positions.{Holds, Moved}
use Rattle.paths.specs.Tables.{Compiled}
use Rattle.paths.proofs.Counted.{one_name}
use Rattle.automata.proofs.Meeting.{row_grows, met_before}
use Rattle.paths.proofs.Moves.{moved_same}

module _ (steps : List Step) (n : ℕ) (A B : Automaton) (a : Compiled steps n A) (b : Compiled steps n B) where
  same_labels : A.labels ≡ B.labels
  same_labels = a.labels ∙ sym b.labels

  -- equal sets move to equal sets
  moves_same : (p l : ℕ) → p < A.states → p < B.states → l < A.labels → a.named.set_of p ≡ b.named.set_of p → a.named.set_of (A.step p l) ≡ b.named.set_of (B.step p l)
  moves_same p l h k i e =
      moved_same steps l (b.named.set_of p) (a.named.set_of (A.step p l)) (b.named.set_of (B.step p l))
      (subst (λ s. Moved steps l s (a.named.set_of (A.step p l))) e (a.named.step p l h i))
      (b.named.step p l k (omega (arith, same_labels)))

  -- the first k states of both have the same names
  record Agree (k : ℕ) : Type 0 where
    names : (q : ℕ) → q < k → a.named.set_of q ≡ b.named.set_of q
    in_A : k ≤ A.states
    in_B : k ≤ B.states

  -- a place that comes behind k states in both
  module _ (p l k : ℕ) (h : p < A.states) (h' : p < B.states) (i : l < A.labels) (known : p < k) (agree : Agree k) (le : A.step p l ≤ k) (le' : B.step p l ≤ k) where
    leads : a.named.set_of (A.step p l) ≡ b.named.set_of (B.step p l)
    leads = moves_same p l h h' i (agree.names p known)

    inside : A.step p l < A.states
    inside = a.formed.step p l h i

    inside' : B.step p l < B.states
    inside' = b.formed.step p l h' (omega (arith, same_labels))

    same_target : A.step p l ≡ B.step p l
    same_target = ⊎_elim
        (λ (less : A.step p l < k). one_name steps B b.formed b.named (A.step p l) (B.step p l) (omega (arith, agree.in_B)) inside' (sym (agree.names (A.step p l) less) ∙ leads))
        (λ (past : k ≤ A.step p l). ⊎_elim
        (λ (less : B.step p l < k). one_name steps A a.formed a.named (A.step p l) (B.step p l) inside (omega (arith, agree.in_A)) (leads ∙ sym (agree.names (B.step p l) less)))
        (λ (past' : k ≤ B.step p l). let e : A.step p l ≡ B.step p l = omega arith in e)
        (cases_lt (B.step p l) k))
        (cases_lt (A.step p l) k)

    agree_more : Agree (max k (suc (A.step p l)))
    agree_more = record {
      names = λ q j. ⊎_elim
          (λ (less : q < k). agree.names q less)
          (λ (past : k ≤ q). let e : A.step p l ≡ q = omega arith in subst (λ x. a.named.set_of x ≡ b.named.set_of x) e (leads ∙ ap b.named.set_of (sym same_target)))
          (cases_lt q k);
      in_A = omega (arith, agree.in_A, inside);
      in_B = omega (arith, agree.in_B, inside', same_target);
    }

  -- behind the first l targets of row p both scans have met the same
  record Level (p l : ℕ) : Type 0 where
    same : met_in_row (A.step p) (met A.labels A.step p) l ≡ met_in_row (B.step p) (met B.labels B.step p) l
    agree : Agree (met_in_row (A.step p) (met A.labels A.step p) l)

  level_row : (p : ℕ) → p < A.states → p < B.states → Level p 0 → (l : ℕ) → l ≤ A.labels → Level p l
  level_row p h h' first zero i = first
  level_row p h h' first (suc l) i =
      let before = level_row p h h' first l (omega arith) in
      let n : ℕ = met_in_row (A.step p) (met A.labels A.step p) l in
      let known : p < n = omega (arith, met_before A a.numbered p (a.reached p h), row_grows (A.step p) (met A.labels A.step p) l) in
      let le : A.step p l ≤ n = a.numbered.next p l h (omega arith) in
      let le' : B.step p l ≤ n = omega (arith, b.numbered.next p l h' (omega (arith, same_labels)), before.same) in
      let target = same_target p l n h h' (omega arith) known before.agree le le' in
      record { same = λ j. max (before.same j) (suc (target j)); agree = agree_more p l n h h' (omega arith) known before.agree le le' }

  level : (p : ℕ) → p ≤ A.states → p ≤ B.states → Level p 0
  level zero h k = record {
    same = refl;
    agree = record {
      names = λ q j. let e : 0 ≡ q = omega arith in subst (λ x. a.named.set_of x ≡ b.named.set_of x) e (ap a.named.set_of (sym a.numbered.start) ∙ a.named.start ∙ sym b.named.start ∙ ap b.named.set_of b.numbered.start);
      in_A = omega (arith, a.formed.start);
      in_B = omega (arith, b.formed.start);
    };
  }
  level (suc p) h k =
      let row = level_row p h k (level p (omega arith) (omega arith)) A.labels (omega arith) in
      record { same = row.same ∙ ap (met_in_row (B.step p) (met B.labels B.step p)) same_labels; agree = row.agree }

  no_more : A.states ≤ B.states
  no_more = ⊎_elim
      (λ (less : B.states < A.states). absurd (omega (arith, met_before A a.numbered B.states (a.reached B.states less), (level B.states (omega arith) (omega arith)).same, b.numbered.whole)))
      (λ (more : A.states ≤ B.states). more)
      (cases_lt B.states A.states)

  same_name : (p : ℕ) → p < A.states → a.named.set_of p ≡ b.named.set_of p
  same_name p h = (level A.states (omega arith) no_more).agree.names p (omega (arith, a.numbered.whole))

pub alike : (steps : List Step) (n : ℕ) (A B : Automaton) → Compiled steps n A → Compiled steps n B → Alike A B
alike steps n A B a b = record {
  labels = same_labels steps n A B a b;
  states = omega (arith, up, no_more steps n B A b a);
  start = a.numbered.start ∙ sym b.numbered.start;
  step = λ p l h i.
      let x : ℕ = A.step p l in
      let in_A = a.formed.step p l h i in
      one_name steps B b.formed b.named x (B.step p l) (omega (arith, in_A, up)) (b.formed.step p l (omega (arith, up)) (omega (arith, same_labels steps n A B a b)))
      (sym (name x in_A) ∙ moves_same steps n A B a b p l h (omega (arith, up)) i (name p h));
  yes = λ p h. same_from_decides (A.yes p) (B.yes p) (a.named.yes p h) (subst (λ s. Decides (B.yes p) (Holds s (length steps))) (sym (name p h)) (b.named.yes p (omega (arith, up))));
}
  where
    up : A.states ≤ B.states
    up = no_more steps n A B a b

    name : (p : ℕ) → p < A.states → a.named.set_of p ≡ b.named.set_of p
    name = same_name steps n A B a b
