-- The law over runs holds from the first call on.
use Rattle.std.proofs.Common.{rules}
use Rattle.base.proofs.Keeping.{keeps_its_book}
use Rattle.base.proofs.run.Run.begin.Goals as goal

pub returns : goal.returns
returns g c = record {
  promise = search rules;
  law = keeps_its_book g.S.Selector.meaning g.S.Selector.moves g.S.Selector.rules c.args.selector c.args.limit _ (search rules);
}
