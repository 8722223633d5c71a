use Rattle.std.proofs.Common.{◌≡◌, map, drop}
use Rattle.name_tree.specs.Value.{tree_values}
use Rattle.name_tree.specs.Lean.{values_then, lean_all, lean_each, joined_parts}
use Rattle.name_tree.specs.LeanUnion.{parts_in}
use Rattle.name_tree.specs.Tree.{value_of, listed}
use Rattle.name_tree.proofs.tree.+lean.Given as goal

abbrev pub invariant-Branches::lean-loop-branch : goal.invariant-Branches::lean-loop-branch
invariant-Branches::lean-loop-branch l =
    joined_parts (parts_in l.left) (lean_each (listed (drop l.branch-index l.branch-items)))
    ≡ lean_each (listed l.branch-items)

abbrev pub invariant-Trees::lean-loop-tree : goal.invariant-Trees::lean-loop-tree
invariant-Trees::lean-loop-tree l =
    values_then (map value_of l.left.items)
    (lean_all (tree_values (map value_of (drop l.tree-index l.tree-items))))
    ≡ lean_all (tree_values (map value_of l.tree-items))
