use Rattle.text.proofs.Decimal.{Read}
use Rattle.text.proofs.numbers.read_number.Given as goal

abbrev pub invariant-loop-b : goal.invariant-loop-b
invariant-loop-b l = Read l.field l.b-index l.n
