use Rattle.std.proofs.Common.{◌≡◌, length}
use Rattle.std.specs.Slice.Iter.{iter_rest}
use Rattle.name_tree.specs.Tree.{listed}
use Rattle.bind_core.specs.Stack.{weighted}
use Rattle.bind_core.proofs.frame.next_weighted.Given as goal

abbrev pub invariant-loop-branch : goal.invariant-loop-branch
invariant-loop-branch l = weighted (listed (iter_rest l.branches))
    ≡ weighted (listed (iter_rest l.fn.branches))

abbrev pub decreases-loop-branch : goal.decreases-loop-branch
decreases-loop-branch l = length (iter_rest l.branches)
