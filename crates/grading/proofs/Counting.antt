-- The lowest state of a component, and how many there are.
use Rattle.std.proofs.Common.{ℕ, suc, ◌+◌, ◌<◌, eqb, Decides, sym, subst, add-one, arith}
use Rattle.std.proofs.lemmas.Bool.Decides.{Decides-like, Decides-eqb}
use Rattle.automata.specs.Automata.{Automaton}
use Rattle.automata.specs.Components.{Count, has, lacks, Lowest, Numbers}
use Rattle.automata.specs.States.{Together}
use Rattle.automata.proofs.Representatives.{lowest_same}
use Rattle.automata.proofs.Together.{together_trans}
use Rattle.grading.specs.StateSets.{In, None, Gathers, Taken}
use Rattle.grading.specs.declared.states.StateSet.{StateSet}
use Rattle.grading.proofs.Worded.{reaches_self}

module _ (A : Automaton) (p : ℕ) (s : StateSet) (below : p < A.states) (component : Gathers (Together A p) A.states s) where
  itself : In p s
  itself = (component p).1 (below, record { there = reaches_self A p; back = reaches_self A p })

  pub not_none : ¬ None s
  not_none none = none p itself

  -- the lowest state of the set is the component's number
  pub taken_numbers : (t : StateSet) (x : ℕ) → Taken s t x → Numbers A p x
  taken_numbers t x taken = record { below = found.0; together = found.1; lowest = lowest }
    where
      found : (x < A.states) × Together A p x
      found = (component x).0 taken.has

      lowest : Lowest A x
      lowest q l together = taken.lowest q l ((component q).1 (omega (arith, found.0), together_trans A found.1 together))

-- a state is the lowest of its component just where it is the number
pub lowest_decides : (A : Automaton) (p n : ℕ) → Numbers A p n → Decides (eqb n p) (Lowest A p)
lowest_decides A p n h = Decides-like (eqb n p) (λ e. subst (Lowest A) e h.lowest) (λ low. sym (lowest_same A p n h.together low h.lowest)) (Decides-eqb n p)

pub count_has : (P : ℕ → Type 0) (n c : ℕ) → P n → Count P n c → Count P (n + 1) (c + 1)
count_has P n c h k = subst (λ m. Count P m (c + 1)) (sym (add-one n)) (subst (Count P (suc n)) (sym (add-one c)) (has h k))

pub count_lacks : (P : ℕ → Type 0) (n c : ℕ) → ¬ P n → Count P n c → Count P (n + 1) c
count_lacks P n c h k = subst (λ m. Count P m c) (sym (add-one n)) (lacks h k)
