-- What the calls of the store do.
use Rattle.std.specs.Prelude.{◌≡◌, ℕ, ◌+◌, ◌-◌, ◌<◌, length, Some, None, Ok, Err, Option, Result, slice_index_or, slice_set}
use Rattle.base.specs.declared.stack.Stack.{Stack}

-- how many entries are stored, from the first place on
abbrev pub used : {T : Type 0} → Stack T → ℕ
used s = s.len

-- x goes to the first free place, and nothing else is written
pub record Stored {T : Type 0} (before : Stack T) (x : T) (after : Stack T) : Type 0 where
  pub room : used before < length before.places.now
  pub places : after.places.now ≡ slice_set before.places.now (used before) x
  pub used : used after ≡ used before + 1
  pub lent : after.places.ghost_name ≡ before.places.ghost_name

-- a full store stays as it is, and gives x back
abbrev pub Pushes : {T : Type 0} → Stack T → T → Stack T → Result (Unit {0}) T → Type 0
Pushes before x after (Ok done) = Stored before x after
Pushes before x after (Err back) = (used before ≡ length before.places.now) × (after ≡ before) × (back ≡ x)

-- x, the last entry, is taken off, and nothing is written
pub record Taken {T : Type 0} (before : Stack T) (x : T) (after : Stack T) : Type 0 where
  pub some : 0 < used before
  pub entry : x ≡ slice_index_or before.places.now (used before - 1) x
  pub places : after.places.now ≡ before.places.now
  pub used : used after ≡ used before - 1
  pub lent : after.places.ghost_name ≡ before.places.ghost_name

-- an empty store stays as it is
abbrev pub Pops : {T : Type 0} → Stack T → Stack T → Option T → Type 0
Pops before after None = (used before ≡ 0) × (after ≡ before)
Pops before after (Some x) = Taken before x after

-- every entry is taken off, and nothing is written
pub record Empties {T : Type 0} (before after : Stack T) : Type 0 where
  pub used : used after ≡ 0
  pub places : after.places.now ≡ before.places.now
  pub lent : after.places.ghost_name ≡ before.places.ghost_name
