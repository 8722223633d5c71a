use Rattle.std.proofs.Common.{◌≡◌, ◌++◌, map, take}
use Rattle.name_tree.specs.Value.{tree_values}
use Rattle.name_tree.specs.Canon.{canon_alts, canon_branches}
use Rattle.name_tree.specs.Tree.{value_of, listed}
use Rattle.name_tree.proofs.write.+put.Given as goal

abbrev pub invariant-put_alts-loop-at : goal.invariant-put_alts-loop-at
invariant-put_alts-loop-at l = l.out.items ≡ l.fn.out.items
    ++ canon_alts (tree_values (map value_of (take l.at l.tree-items)))

abbrev pub invariant-put_branches-loop-at : goal.invariant-put_branches-loop-at
invariant-put_branches-loop-at l = l.out.items ≡ l.fn.out.items
    ++ canon_branches (listed (take l.at l.branch-items))
