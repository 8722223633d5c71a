use Rattle.std.proofs.Common.{◌≡◌, ◌++◌, take}
use Rattle.delegate_view.specs.View.{more_lookups}
use Rattle.delegate_view.proofs.view.append_more.Given as goal

abbrev pub invariant-loop-item : goal.invariant-loop-item
invariant-loop-item l = l.out.items ≡ l.fn.out.items ++ more_lookups (take l.item-index l.items)
