use Rattle.std.proofs.Common.{◌≡◌, ◌+◌, ◌<◌, map, sym, ap, ◌∙◌, arith, List}
use Rattle.name_tree.specs.declared.tree.Tree.{Tree}
use Rattle.name_tree.specs.Value.{alt, tree_values}
use Rattle.name_tree.specs.Tree.{value_of, listed}
use Rattle.name_tree.proofs.Bridge.{value_of-Alt}
use Rattle.dtab_check.proofs.Lives.{next_alternative, next_branch, work_of, works_of}
use Rattle.dtab_check.proofs.Lives.{branch_works_of, less_tree, less_branch, alternatives_less}
use Rattle.dtab_check.proofs.live.+live.Goals as goal

pub add_alternatives-add_tree-requires : goal.add_alternatives-add_tree-requires
add_alternatives-add_tree-requires t c =
    let less : work_of (value_of c.tree-item.result) < works_of (map value_of c.args.trees.now) =
    less_tree c.args.trees.now c.loop-tree.tree-index c.tree-item.result c.loop-tree-test.true
    c.tree-item.is in
    (omega (arith, less, c.decreases), tt)

pub add_alternatives-loop-tree-preserved : goal.add_alternatives-loop-tree-preserved
add_alternatives-loop-tree-preserved t c =
    next_alternative c.args.live.now c.loop-tree.live c.add_tree.new.live c.args.trees.now
    c.loop-tree.tree-index c.tree-item.result c.loop-tree-test.true c.tree-item.is
    c.loop-tree.invariant
    c.in_ok-add_tree.ensures

pub add_branches-add_branch-requires : goal.add_branches-add_branch-requires
add_branches-add_branch-requires t c =
    let less : work_of (value_of c.branch-item.result.tree) + 1
    < branch_works_of (listed c.args.branches.now) =
    less_branch c.args.branches.now c.loop-branch.branch-index c.branch-item.result
    c.loop-branch-test.true c.branch-item.is in
    (omega (arith, less, c.decreases), tt)

pub add_branches-loop-branch-preserved : goal.add_branches-loop-branch-preserved
add_branches-loop-branch-preserved t c =
    next_branch c.args.live.now c.loop-branch.live c.add_branch.new.live c.args.branches.now
    c.loop-branch.branch-index c.branch-item.result c.loop-branch-test.true c.branch-item.is
    c.loop-branch.invariant c.in_ok-add_branch.ensures

pub add_tree-add_alternatives-requires : goal.add_tree-add_alternatives-requires
add_tree-add_alternatives-requires t c =
    let same : value_of c.args.tree.now ≡ alt (tree_values (map value_of c.items.result.now)) =
    ap value_of c.in-Alt.is
    ∙ (value_of-Alt c.in-Alt.trees ∙ ap (λ (ts : List Tree). alt (tree_values (map value_of ts)))
    (sym c.items.ensures)) in
    let less : works_of (map value_of c.items.result.now) < work_of (value_of c.args.tree.now) =
    alternatives_less (value_of c.args.tree.now) (map value_of c.items.result.now) same in
    (omega (arith, less, c.decreases), tt)

pub add_tree-returns-in-Alt : goal.add_tree-returns-in-Alt
add_tree-returns-in-Alt t c =
    let same : value_of c.args.tree.now ≡ alt (tree_values (map value_of c.items.result.now)) =
    ap value_of c.in-Alt.is
    ∙ (value_of-Alt c.in-Alt.trees ∙ ap (λ (ts : List Tree). alt (tree_values (map value_of ts)))
    (sym c.items.ensures)) in
    rw same c.add_alternatives.ensures
