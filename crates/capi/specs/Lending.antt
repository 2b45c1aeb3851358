-- What a picking call is lent to write to.
use Rattle.std.specs.Prelude.{◌≡◌, ℕ, List, Ok, Err, Option, Result}
use Rattle.text.specs.declared.refusal.Refusal.{Refusal}
use Rattle.base.specs.declared.table.Table.{Table}
use Rattle.choosing.specs.Kinds.{number_of_kind}
use Rattle.choosing.specs.declared.kind.SelectorKind.{SelectorKind}
use Rattle.capi.specs.Outcomes.{Buffers, lent, Unbegun, Picked}
use Rattle.capi.specs.declared.lent.Lent.{Lent}
use Rattle.capi.specs.declared.lent.Ran.{Ran}

-- what the lent memory holds
abbrev pub memory : Lent → Buffers
memory l = lent l.stack.now l.picks.now l.totals.now

-- it is the same memory
pub record Kept (before after : Lent) : Type 0 where
  pub stack : after.stack.ghost_name ≡ before.stack.ghost_name
  pub picks : after.picks.ghost_name ≡ before.picks.ghost_name
  pub totals : after.totals.ghost_name ≡ before.totals.ghost_name

-- a run reads the tags, or none begins and nothing is written
abbrev pub Begun : (Result Table Refusal → Type 0) → Option SelectorKind → ℕ → List ℕ → Lent → Lent → Result Ran Refusal → Type 0
Begun query wanted limit tags before after (Ok run) =
    Picked query wanted tags limit before.stack.now after.stack.now before.picks.now after.picks.now (number_of_kind run.selector) run.reading
Begun query wanted limit tags before after (Err why) =
    Unbegun query wanted tags why × (after.stack.now ≡ before.stack.now) × (after.picks.now ≡ before.picks.now)
