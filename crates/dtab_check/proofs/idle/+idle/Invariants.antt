use Rattle.std.proofs.Common.{◌≡◌, ◌+◌, map}
use Rattle.name_tree.specs.Tree.{value_of, listed}
use Rattle.dtab_check.proofs.Lives.{work_of, works_of, branch_works_of}
use Rattle.dtab_check.proofs.Noting.{front_idle, front_idle_branches}
use Rattle.dtab_check.proofs.idle.+idle.Given as goal

abbrev pub invariant-some_has_idle-loop-tree : goal.invariant-some_has_idle-loop-tree
invariant-some_has_idle-loop-tree l = l.found ≡ front_idle l.trees l.tree-index

abbrev pub invariant-some_is_idle-loop-branch : goal.invariant-some_is_idle-loop-branch
invariant-some_is_idle-loop-branch l = l.found ≡ front_idle_branches l.branches l.branch-index

abbrev pub decreases-has_idle : goal.decreases-has_idle
decreases-has_idle l = work_of (value_of l.tree.now)

abbrev pub decreases-some_has_idle : goal.decreases-some_has_idle
decreases-some_has_idle l = works_of (map value_of l.trees.now)

abbrev pub decreases-some_is_idle : goal.decreases-some_is_idle
decreases-some_is_idle l = branch_works_of (listed l.branches.now)

abbrev pub decreases-is_idle : goal.decreases-is_idle
decreases-is_idle l = work_of (value_of l.branch.now.tree) + 1
