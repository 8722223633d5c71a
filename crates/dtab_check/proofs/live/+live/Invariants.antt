use Rattle.std.proofs.Common.{◌+◌, map}
use Rattle.name_tree.specs.Tree.{value_of, listed}
use Rattle.dtab_check.specs.Live.{Adds}
use Rattle.dtab_check.proofs.Lives.{front_leaves, front_stops, front_branch_leaves}
use Rattle.dtab_check.proofs.Lives.{front_branch_stops, work_of, works_of, branch_works_of}
use Rattle.dtab_check.proofs.live.+live.Given as goal

abbrev pub invariant-add_alternatives-loop-tree : goal.invariant-add_alternatives-loop-tree
invariant-add_alternatives-loop-tree l =
    Adds l.fn.live l.live (front_leaves l.trees l.tree-index) (front_stops l.trees l.tree-index)

abbrev pub invariant-add_branches-loop-branch : goal.invariant-add_branches-loop-branch
invariant-add_branches-loop-branch l =
    Adds l.fn.live l.live (front_branch_leaves l.branches l.branch-index)
    (front_branch_stops l.branches l.branch-index)

abbrev pub decreases-add_tree : goal.decreases-add_tree
decreases-add_tree l = work_of (value_of l.tree.now)

abbrev pub decreases-add_alternatives : goal.decreases-add_alternatives
decreases-add_alternatives l = works_of (map value_of l.trees.now)

abbrev pub decreases-add_branches : goal.decreases-add_branches
decreases-add_branches l = branch_works_of (listed l.branches.now)

abbrev pub decreases-add_branch : goal.decreases-add_branch
decreases-add_branch l = work_of (value_of l.branch.now.tree) + 1
