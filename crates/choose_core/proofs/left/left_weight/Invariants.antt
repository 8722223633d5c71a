use Rattle.std.proofs.Common.{◌≡◌, ◌≤◌, ◌+◌, ◌*◌, drop}
use Rattle.choose_core.specs.Branch.{total_weight}
use Rattle.choose_core.proofs.Branches.{left_of}
use Rattle.choose_core.proofs.left.left_weight.Given as goal

abbrev pub invariant-loop-item : goal.invariant-loop-item
invariant-loop-item l = record {
  fits : l.total ≤ 999999999999 * l.item-index;
  total : l.total + total_weight (left_of l.book.services (drop l.item-index l.items))
      ≡ total_weight (left_of l.book.services l.items);
}
