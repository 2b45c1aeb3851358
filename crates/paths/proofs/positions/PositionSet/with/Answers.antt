-- One bit more is one position more.
use Rattle.std.proofs.Common.{◌≡◌, ◌^◌, ◌⊎◌, ◌↔◌, subst}
use Rattle.std.proofs.lemmas.Nat.{one_shl}
use lib.Bits.{bit_or}
use Rattle.paths.specs.Positions.{Holds}
use Rattle.paths.proofs.Masks.{with_holds}
use Rattle.paths.proofs.positions.PositionSet.with.Goals as goal

pub returns : goal.returns
returns c i =
    let bits = c.self.inside.bits in
    rw (one_shl c.args.at 16 c.requires) (subst (λ s. Holds (bit_or bits (2 ^ c.args.at)) i ↔ (Holds s i ⊎ (i ≡ c.args.at))) c.self.view_is (with_holds bits c.args.at i))
