-- A byte is taken off the front, or none is left.
use Rattle.std.proofs.Common.{◌≡◌, ◌<◌, ◌≤◌, drop, length, get_or, rules}
use Rattle.base.specs.Packed.{packed_tag}
use Rattle.base.proofs.Giving.{packed_end, packed_more}
use Rattle.base.proofs.packed.PackedSourceTagSource.next.Goals as goal

pub returns-in_default : goal.returns-in_default
returns-in_default c =
    let none : length c.args.self.now.bytes.now ≤ 0 = search rules in
    packed_end _ none

pub returns : goal.returns
returns c =
    let s = c.args.self.now.bytes.now in
    let some : 0 < length s = search rules in
    let tag : c.unpacked.result ≡ packed_tag (get_or s 0 0) = search rules in
    let rest : c.in-Some.rest.now ≡ drop 1 s = search rules in
    rw rest (packed_more s c.unpacked.result some tag)
