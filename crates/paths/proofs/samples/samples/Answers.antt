-- Each path as it is written, and words that lead to all of its sets.
use Rattle.std.proofs.Common.{true, false, [], ◌∷◌, codes, refl, arith}
use Rattle.paths.specs.Samples.{ab, abc}
use Rattle.paths.proofs.Sampling.{has_states, has_none, all_words, first_words}
use Rattle.paths.proofs.samples.samples.Goals as goal

pub returns : goal.returns
returns c = record {
  child_below = has_states abc ((false, codes "a") ∷ (true, codes "b") ∷ []) ([] ∷ (0 ∷ []) ∷ (1 ∷ []) ∷ (0 ∷ 1 ∷ []) ∷ []) refl (refl, refl) (record { some = refl; start = refl; inside = refl; next = refl; all = refl }) 4 refl (omega arith);
  child_child = has_states abc ((false, codes "a") ∷ (false, codes "b") ∷ []) ([] ∷ (0 ∷ []) ∷ (1 ∷ []) ∷ (0 ∷ 1 ∷ []) ∷ []) refl (refl, refl) (record { some = refl; start = refl; inside = refl; next = refl; all = refl }) 4 refl (omega arith);
  below_below = has_states abc ((true, codes "a") ∷ (true, codes "b") ∷ []) ([] ∷ (0 ∷ []) ∷ (0 ∷ 1 ∷ []) ∷ []) refl (refl, refl) (record { some = refl; start = refl; inside = refl; next = refl; all = refl }) 3 refl (omega arith);
  below_child = has_states abc ((true, codes "a") ∷ (false, codes "b") ∷ []) ([] ∷ (0 ∷ []) ∷ (0 ∷ 1 ∷ []) ∷ []) refl (refl, refl) (record { some = refl; start = refl; inside = refl; next = refl; all = refl }) 3 refl (omega arith);
  full = has_states ab ((true, codes "a") ∷ (false, codes "*") ∷ (false, codes "*") ∷ (false, codes "*") ∷ (false, codes "*") ∷ []) (first_words 5) refl (refl, refl) (record { some = refl; start = refl; inside = refl; next = refl; all = refl }) 32 refl (omega arith);
  over = has_none ab ((true, codes "a") ∷ (false, codes "*") ∷ (false, codes "*") ∷ (false, codes "*") ∷ (false, codes "*") ∷ (false, codes "*") ∷ []) (all_words 6) refl (refl, refl) (omega arith);
}
