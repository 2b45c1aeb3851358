-- A stack selector is its table, store and state.
use Rattle.std.proofs.Common.{◌≡◌, ℕ, sym, subst, ap}
use Rattle.std.proofs.Props.{props}
use Rattle.base.specs.declared.stack.Stack.{Stack}
use Rattle.base.specs.declared.stack_selector.StackSelector.{StackSelector, inside-type}

pub same_store : (s : StackSelector) (store : Stack ℕ) (inside : inside-type s.table store s.state) → store ≡ s.store → record { table = s.table; store = store; state = s.state; inside = inside } ≡ s
same_store s store inside e =
    subst (λ u. (h : inside-type s.table u s.state) → record { table = s.table; store = u; state = s.state; inside = h } ≡ s) (sym e)
    (λ h. ap (λ h. record { table = s.table; store = s.store; state = s.state; inside = h }) (one h s.inside)) inside
  where
    one : IsProp (inside-type s.table s.store s.state)
    one = Prim.hlevel props
