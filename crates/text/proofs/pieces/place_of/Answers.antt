use Rattle.text.proofs.Splitting.{split_by_position}
use Rattle.text.proofs.pieces.place_of.Goals as goal

pub returns : goal.returns
returns c = rw c.first_at.ensures (split_by_position c.args.sep c.args.s.now)
