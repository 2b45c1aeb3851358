-- Each turn of a drain keeps what its tags so far have done.
use Rattle.std.proofs.Common.{Some, None, Ok, sym, ap, ◌∙◌}
use Rattle.std.specs.Option.{option_to_list}
use Rattle.base.proofs.Draining.{more_picked, more_passed, ended_so, refused_so}
use Rattle.base.proofs.run.Run.drain.Goals as goal

pub returns-in-Ok-None : goal.returns-in-Ok-None
returns-in-Ok-None g c =
    let gave = c.in-Ok-None.ensures in
    ended_so g.S.Selector.meaning g.S.Selector.moves _ None c.loop-tag.invariant (ap Ok (sym c.in-Ok-None.field-0-is) ∙ gave.given) gave.left

pub returns-in-Err : goal.returns-in-Err
returns-in-Err g c =
    let gave = c.in-Err.ensures in
    ended_so g.S.Selector.meaning g.S.Selector.moves _ (Some c.in-Err.fault) c.loop-tag.invariant gave.given gave.left

pub loop-tag-preserved-in-Some : goal.loop-tag-preserved-in-Some
loop-tag-preserved-in-Some g c =
    let gave = c.in-Ok-Some.ensures in
    more_picked g.S.Selector.meaning g.S.Selector.moves _ _ c.in-Ok.did _ _ _ c.loop-tag.invariant (ap Ok (sym c.in-Ok-Some.field-0-is) ∙ gave.given) gave.left c.in-Ok.ensures (sym c.picked.ensures ∙ ap option_to_list c.in-Some.is) c.put.ensures

pub loop-tag-preserved : goal.loop-tag-preserved
loop-tag-preserved g c =
    let gave = c.in-Ok-Some.ensures in
    more_passed g.S.Selector.meaning g.S.Selector.moves _ _ c.in-Ok.did _ c.loop-tag.invariant (ap Ok (sym c.in-Ok-Some.field-0-is) ∙ gave.given) gave.left c.in-Ok.ensures (sym c.picked.ensures ∙ ap option_to_list c.in_default.is)

pub returns-in-Err-offer : goal.returns-in-Err-offer
returns-in-Err-offer g c =
    let gave = c.in-Ok-Some.ensures in
    let no = c.in-Err-offer.ensures in
    refused_so g.S.Selector.meaning g.S.Selector.moves _ _ _ _ c.loop-tag.invariant (ap Ok (sym c.in-Ok-Some.field-0-is) ∙ gave.given) gave.left no.0 no.1
