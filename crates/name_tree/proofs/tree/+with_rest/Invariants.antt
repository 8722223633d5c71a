use Rattle.std.proofs.Common.{◌≡◌, map, take, drop}
use Rattle.name_tree.specs.Value.{append_rest, append_rest_branches}
use Rattle.name_tree.specs.Tree.{value_of, listed}
use Rattle.name_tree.proofs.tree.+with_rest.Given as goal

abbrev pub invariant-Trees::with_rest-loop-tree : goal.invariant-Trees::with_rest-loop-tree
invariant-Trees::with_rest-loop-tree l = map value_of l.items.items
    ≡ map (λ t. append_rest (value_of t) (drop l.from l.path)) (take l.tree-index l.tree-items)

abbrev pub invariant-Branches::with_rest-loop-branch :
    goal.invariant-Branches::with_rest-loop-branch
invariant-Branches::with_rest-loop-branch l = listed l.items.items
    ≡ append_rest_branches (listed (take l.branch-index l.branch-items)) (drop l.from l.path)
