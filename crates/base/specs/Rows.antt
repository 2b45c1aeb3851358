-- The rows of a table.
use Rattle.std.specs.Prelude.{ℕ, Bool, false, ltb, List, [], take, slice_index, slice_index_or}
use Rattle.std.specs.List.{list_all}
use Rattle.base.specs.declared.table.Row.{Row}

-- what stands past the last row
abbrev pub no_row : Row
no_row = record { targets = []; accepts = false }

abbrev pub row : List Row → ℕ → Row
row rows p = slice_index_or rows p no_row

abbrev pub target : List Row → ℕ → ℕ → ℕ
target rows p a = slice_index (row rows p).targets a

abbrev pub each_below : ℕ → List ℕ → Bool
each_below bound = list_all (λ x. ltb x bound)

-- of each row the first n targets are below the bound
abbrev pub rows_each_below : ℕ → ℕ → List Row → Bool
rows_each_below n bound = list_all (λ r. each_below bound (take n r.targets))
