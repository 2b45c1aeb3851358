-- When a tag is refused, and why.
use Rattle.std.specs.Prelude.{ℕ, Bool, cond, ◌||◌, List, [], ◌∷◌, Some, None, Option, ◌==◌, nat_le, nat_lt}
use Rattle.automata.specs.declared.tag.Tag.{Tag}
use Rattle.automata.specs.declared.tag.Tag.TheVariants.{Open, Close}
use Rattle.text.specs.declared.refusal.Refusal.{Refusal}
use Rattle.text.specs.declared.refusal.Refusal.TheVariants.{Limit, Label, AfterRoot, TooDeep, TooMany, NothingOpen}

-- the first refusal whose test fits
abbrev pub first : List (Bool × Refusal) → Option Refusal
first [] = None
first (x ∷ rest) = cond x.0 (Some x.1) (first rest)

-- what a tag is judged by
pub record Standing : Type 0 where
  pub limit : ℕ
  pub labels : ℕ
  pub carry : ℕ
  pub depth : ℕ
  pub openings : ℕ
  -- whether the root was closed
  pub closed : Bool

-- 0, above 65,535 or above the carry
abbrev pub bad_limit : Standing → Bool
bad_limit s = s.limit == 0 || (nat_lt 65535 s.limit || nat_lt s.carry s.limit)

-- the tests in their order
abbrev pub refusal : Standing → Tag ℕ → Option Refusal
refusal s (Open a) = first (
    (bad_limit s, Limit) ∷
    (nat_le s.labels a, Label) ∷
    (s.closed, AfterRoot) ∷
    ((s.depth == s.limit), TooDeep) ∷
    ((s.openings == 1000000), TooMany) ∷ [])
refusal s (Close a) = first (
    (bad_limit s, Limit) ∷
    (nat_le s.labels a, Label) ∷
    ((s.depth == 0), NothingOpen) ∷ [])
