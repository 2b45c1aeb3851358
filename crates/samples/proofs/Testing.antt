-- Tests of numbers and labels that compute.
use Rattle.std.proofs.Common.{◌≡◌, ℕ, zero, suc, ◌<◌, ◌≤◌, Bool, true, ◌&&◌, ltb, List, [], ◌∷◌, subst, ⊎_elim, arith}
use Rattle.std.proofs.lemmas.Bool.{and_parts, ltb-true, cases_lt}
use Rattle.automata.specs.Automata.{Word}
use Rattle.std.specs.List.{list_all}

-- a test of each number below n
abbrev pub below : ℕ → (ℕ → Bool) → Bool
below zero test = true
below (suc n) test = test n && below n test

pub below_at : (n : ℕ) (test : ℕ → Bool) → below n test ≡ true → (a : ℕ) → a < n → test a ≡ true
below_at zero test h a l = absurd (omega arith)
below_at (suc n) test h a l = ⊎_elim
    (λ (less : a < n). below_at n test (and_parts _ _ h).1 a less)
    (λ (past : n ≤ a). let e : n ≡ a = omega arith in subst (λ x. test x ≡ true) e (and_parts _ _ h).0)
    (cases_lt a n)

pub word_of : (n : ℕ) (w : List ℕ) → list_all (λ a. ltb a n) w ≡ true → Word n w
word_of n [] h = tt
word_of n (a ∷ w) h = (ltb-true a n (and_parts _ _ h).0, word_of n w (and_parts _ _ h).1)
