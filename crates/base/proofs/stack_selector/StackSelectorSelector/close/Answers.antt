-- An empty store stays, and with it the selector.
use Rattle.std.proofs.Common.{rules}
use Rattle.base.proofs.Same.{same_store}
use Rattle.base.proofs.stack_selector.StackSelectorSelector.close.Goals as goal

pub returns-in_default : goal.returns-in_default
returns-in_default c = record {
  pops = λ known some. absurd (search rules);
  stays = λ _. same_store c.args.self.now _ _ c.in_default.ensures.1;
}
