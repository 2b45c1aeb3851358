-- Lists of what is made of their places' numbers.
use Rattle.std.specs.Prelude.{ℕ, ◌<◌, List, slice_index_or}

-- at each place below n stands what may be made of its number
abbrev pub Tabulates : {T : Type 0} → (ℕ → T → Type 0) → ℕ → List T → Type 0
Tabulates {T} makes n xs = (k : ℕ) (d : T) → k < n → makes k (slice_index_or xs k d)
