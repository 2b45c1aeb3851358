-- The picks of the table that was read.
use Rattle.std.proofs.Common.{rules}
use Rattle.capi.proofs.Queried.{picks_read, picks_left}
use Rattle.capi.proofs.pick.pintleapple_pick_table.Goals as goal

pub returns : goal.returns
returns c = rw c.number_of.ensures (picks_left (search rules) (search rules) (search rules) (picks_read _ _ _ _ _ _ c.of_text.ensures c.pick.ensures.picks))
