-- Some power of a word leads each state to one that the power keeps.
use Rattle.std.proofs.Common.{◌≡◌, ℕ, zero, suc, ◌+◌, ◌-◌, ◌*◌, ◌<◌, ◌≤◌, List, sym, refl, ap, ◌∙◌, suc-mul, zero-mul, le-mul_of_pos_right, arith}
use Rattle.automata.specs.Automata.{Word, Automaton, run, WellFormed}
use Rattle.automata.proofs.Pigeonhole.{pigeonhole}
use Rattle.automata.proofs.Words.{repeated, repeated_add, word_repeated, run_append, run_below}

-- u repeated `power` times leads p to a state that the same repetition keeps
pub record Loop (A : Automaton) (p : ℕ) (u : List ℕ) : Type 0 where
  pub power : ℕ
  pub some : 0 < power
  pub keeps : run A (run A p (repeated u power)) (repeated u power) ≡ run A p (repeated u power)

module _ (A : Automaton) (p : ℕ) (u : List ℕ) where
  -- the state after u, k times
  abbrev at : ℕ → ℕ
  at k = run A p (repeated u k)

  at_add : (j k : ℕ) → run A (at j) (repeated u k) ≡ at (j + k)
  at_add j k = sym (run_append A p (repeated u j) (repeated u k)) ∙ ap (run A p) (sym (repeated_add u j k))

  -- once a state comes again d later, so do all after it
  again : (i d m : ℕ) → at i ≡ at (i + d) → i ≤ m → at (m + d) ≡ at m
  again i d m e h =
      let there : m + d ≡ i + d + (m - i) = omega arith in
      let here : i + (m - i) ≡ m = omega arith in
      ap at there ∙ sym (at_add (i + d) (m - i)) ∙ ap (λ r. run A r (repeated u (m - i))) (sym e) ∙ at_add i (m - i) ∙ ap at here

  -- and c times d later
  again_times : (i d m : ℕ) → at i ≡ at (i + d) → i ≤ m → (c : ℕ) → at (m + c * d) ≡ at m
  again_times i d m e h zero = ap at (omega (arith, zero-mul d))
  again_times i d m e h (suc c) =
      let there : m + suc c * d ≡ m + c * d + d = omega (arith, suc-mul c d) in
      ap at there ∙ again i d (m + c * d) e (omega arith) ∙ again_times i d m e h c

  pub loop : WellFormed A → p < A.states → Word A.labels u → Loop A p u
  loop f h word =
      let r = pigeonhole A.states (λ k. at (suc k)) (λ k _. run_below A f p (repeated u (suc k)) h (word_repeated A.labels u (suc k) word)) in
      let i : ℕ = suc r.early in
      let d : ℕ = r.late - r.early in
      let back : suc r.late ≡ i + d = omega (arith, r.order) in
      let far : i ≤ i * d = le-mul_of_pos_right i (omega (arith, r.order)) in
      record {
        power = i * d;
        some = omega (arith, far);
        keeps = at_add (i * d) (i * d) ∙ again_times i d (i * d) (r.same ∙ ap at back) far i;
      }

-- states that meet by u meet by each power of it
pub meet_later : (A : Automaton) (p q : ℕ) (u : List ℕ) → run A p u ≡ run A q u → (k : ℕ) → 0 < k → run A p (repeated u k) ≡ run A q (repeated u k)
meet_later A p q u e zero h = absurd (omega arith)
meet_later A p q u e (suc k) h = run_append A p u (repeated u k) ∙ ap (λ r. run A r (repeated u k)) e ∙ sym (run_append A q u (repeated u k))

-- a state that w leads p to and keeps is where each power of w leads p
pub kept : (A : Automaton) (p r : ℕ) (w : List ℕ) → run A p w ≡ r → run A r w ≡ r → (k : ℕ) → 0 < k → run A p (repeated w k) ≡ r
kept A p r w e s zero h = absurd (omega arith)
kept A p r w e s (suc k) h = run_append A p w (repeated w k) ∙ ap (λ x. run A x (repeated w k)) e ∙ stays k
  where
    stays : (j : ℕ) → run A r (repeated w j) ≡ r
    stays zero = refl
    stays (suc j) = run_append A r w (repeated w j) ∙ ap (λ x. run A x (repeated w j)) s ∙ stays j
