-- Which selector is chosen for a table.
use Rattle.std.specs.Prelude.{◌≡◌, Ok, Err, Option, Result}
use Rattle.text.specs.declared.refusal.Refusal.{Refusal}
use Rattle.base.specs.Tables.{automaton}
use Rattle.base.specs.declared.table.Table.{Table}
use Rattle.choosing.specs.Choices.{Makes}
use Rattle.choosing.specs.declared.chosen.Chosen.{Chosen}
use Rattle.choosing.specs.declared.kind.SelectorKind.{SelectorKind}

-- the table, with a selector as wanted; or the one that is wanted does not serve
abbrev pub Chooses : Table → Option SelectorKind → Result Chosen Refusal → Type 0
Chooses t wanted (Ok c) = (c.table.now ≡ t) × Makes (automaton t) wanted (Ok c.made)
Chooses t wanted (Err why) = Makes (automaton t) wanted (Err why)
