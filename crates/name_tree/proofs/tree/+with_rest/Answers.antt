use Rattle.std.proofs.Common.{drop}
use Rattle.name_tree.proofs.Rests.{alt_with_rest, union_with_rest, branch_more, branches_with_rest}
use Rattle.name_tree.proofs.tree.+with_rest.Goals as goal

pub Tree::with_rest-returns-in_ok-with_rest-in-Alt :
    goal.Tree::with_rest-returns-in_ok-with_rest-in-Alt
Tree::with_rest-returns-in_ok-with_rest-in-Alt t c =
    alt_with_rest _ _ _ (drop c.args.from c.args.path.now) c.in-Alt.is
    c.in_ok-with_rest-in-Alt.ensures

pub Tree::with_rest-returns-in_ok-with_rest-in-Union :
    goal.Tree::with_rest-returns-in_ok-with_rest-in-Union
Tree::with_rest-returns-in_ok-with_rest-in-Union t c =
    union_with_rest _ c.in_ok-with_rest-in-Union.field-0 _
    (drop c.args.from c.args.path.now) c.in-Union.is c.in_ok-with_rest-in-Union.ensures

pub Branches::with_rest-loop-branch-preserved : goal.Branches::with_rest-loop-branch-preserved
Branches::with_rest-loop-branch-preserved t c =
    branch_more c.deref-branch-items.result.now c.loop-branch.branch-index c.branch-item.result
    c.in_ok-with_rest.field-0 c.loop-branch.items.items c.push.new.self.items
    (drop c.args.from c.args.path.now) c.loop-branch-test.true c.branch-item.is
    c.in_ok-with_rest.ensures.weight c.in_ok-with_rest.ensures.tree c.in_ok-push.ensures.items
    c.loop-branch.invariant

pub Branches::with_rest-returns : goal.Branches::with_rest-returns
Branches::with_rest-returns t c =
    branches_with_rest c.args.self.now c.loop-branch.items c.deref-branch-items.result.now
    c.loop-branch.branch-index (drop c.args.from c.args.path.now) c.deref-branch-items.ensures.value
    c.loop-branch-test.false c.loop-branch.invariant
