-- A note that is deeper is taken back, and the others stay.
use Rattle.std.proofs.Common.{ap, arith}
use Rattle.grading.proofs.Noted.{held_older}
use Rattle.grading.proofs.notes.Notes.recall.Goals as goal

pub returns : goal.returns
returns c =
    let s = c.args.self.now in
    let is = c.in_ok-note.ensures.1 in
    (omega (arith, ap (λ n. n.depth) is), is, held_older s.count s.places (omega arith))
