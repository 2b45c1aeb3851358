-- The low seven bits of a byte are its remainder by 128.
use Rattle.std.proofs.Common.{ltb, sym, ap, ◌∙◌}
use Rattle.std.proofs.lemmas.Nat.{and_mask}
use Rattle.std.proofs.lemmas.Bool.{cond-true, cond-false, lt-ltb, le-ltb}
use Rattle.automata.specs.declared.tag.Tag.TheVariants.{Open, Close}
use Rattle.base.proofs.packed.unpacked.Goals as goal

pub returns-then-b-lt128 : goal.returns-then-b-lt128
returns-then-b-lt128 c =
    ap Open (and_mask c.args.b 7) ∙ sym (cond-true (ltb c.args.b 128) _ _ (lt-ltb _ _ c.if-b-lt128.true))

pub returns-else-b-lt128 : goal.returns-else-b-lt128
returns-else-b-lt128 c =
    ap Close (and_mask c.args.b 7) ∙ sym (cond-false (ltb c.args.b 128) _ _ (le-ltb _ _ c.if-b-lt128.false))
