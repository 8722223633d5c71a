use Rattle.std.proofs.Common.{◌≡◌, map, take}
use Rattle.name_tree.specs.declared.tree.Branches.{out-Branches}
use Rattle.name_tree.specs.Tree.{value_of, branch_value}
use Rattle.name_tree.proofs.tree.+same.Given as goal

abbrev pub invariant-Branches::same-loop-at : goal.invariant-Branches::same-loop-at
invariant-Branches::same-loop-at l = map branch_value (take l.at l.branch-items)
    ≡ map branch_value (take l.at (out-Branches l.other).items.items)

abbrev pub invariant-Trees::same-loop-at : goal.invariant-Trees::same-loop-at
invariant-Trees::same-loop-at l = map value_of (take l.at l.tree-items)
    ≡ map value_of (take l.at l.other.items.items)
