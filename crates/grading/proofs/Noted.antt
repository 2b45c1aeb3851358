-- The notes at the first places of a list, as one is taken back.
use Rattle.std.proofs.Common.{◌≡◌, ℕ, ◌-◌, ◌≤◌, List, map, length, take, sym, ap, ◌∙◌, arith, length-take}
use Rattle.std.proofs.lemmas.List.{length-map, take-take, take-map}
use Rattle.automata.specs.Noting.{older}
use Rattle.grading.specs.Held.{plain}
use Rattle.grading.specs.declared.notes.Note.{Note as Written}

held_length : (n : ℕ) (xs : List Written) → n ≤ length xs → length (map plain (take n xs)) ≡ n
held_length n xs h = length-map (take n xs) plain ∙ simp length-take (omega arith)

pub held_older : (n : ℕ) (xs : List Written) → n ≤ length xs → map plain (take (n - 1) xs) ≡ older (map plain (take n xs))
held_older n xs h =
    let fewer : n - 1 ≤ n = omega arith in
    sym (ap (λ m. take (m - 1) (map plain (take n xs))) (held_length n xs h) ∙ take-map plain (n - 1) (take n xs) ∙ ap (map plain) (take-take (n - 1) n xs fewer))
