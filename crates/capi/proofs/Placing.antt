-- Values laid over places.
use Rattle.std.proofs.Common.{◌≡◌, ℕ, ◌≤◌, List, [], ◌∷◌, ◌++◌, length, drop, refl, ap, arith}
use Rattle.base.specs.Courses.{laid}

-- those that fit, and then the places past them
pub laid_over : (values places : List ℕ) → length values ≤ length places → laid values places ≡ values ++ drop (length values) places
laid_over [] places h = refl
laid_over (x ∷ xs) [] h = absurd (omega arith)
laid_over (x ∷ xs) (y ∷ ys) h = ap (λ zs. x ∷ zs) (laid_over xs ys (omega arith))
