use Rattle.std.proofs.Common.{None, ◌++◌, refl, sym, ap, map, drop, ◌∙◌, arith}
use Rattle.name_tree.specs.declared.tree.Tree.{Tree}
use Rattle.name_tree.specs.Value.{TreeValue, Branches, neg, fail, empty, alt, append_rest}
use Rattle.name_tree.specs.Value.{append_rest_branches}
use Rattle.name_tree.specs.Tree.{value_of, branches_of, listed}
use Rattle.name_tree.proofs.Bridge.{value_of-Alt}
use Rattle.bind_core.specs.declared.frame.TreesLeft.TheVariants.{Alternatives}
use Rattle.bind_core.specs.Rewritten.{labels_of, tree_of}
use Rattle.bind_core.specs.Stack.{rules_at, names_at}
use Rattle.bind_core.proofs.Trees.{append_rest-tree_values}
use Rattle.bind_core.proofs.Stepping.{alt_step, union_step, mark_step, leaf_step, long_leaf_step}
use Rattle.bind_core.proofs.Paying.{neg_due, fail_due, empty_due, leaf_due, long_due, alt_due}
use Rattle.bind_core.proofs.Paying.{union_due}
use Rattle.bind_core.proofs.Turns.{on_ok}
use Rattle.bind_core.proofs.delegate.step.Goals as goal

pub returns-in-Neg-clause-step : goal.returns-in-Neg-clause-step
returns-in-Neg-clause-step g c =
    let rest = drop c.args.tried.from (labels_of c.args.tried.path) in
    mark_step (rules_at c.args.scene.now) (names_at c.args.scene.now) _ (tree_of c.args.tried) neg
    c.args.left _ _ c.requires (ap (λ (t : Tree). append_rest (value_of t) rest) c.in-Neg.is)
    refl (omega arith)

pub returns-in-Fail-clause-step : goal.returns-in-Fail-clause-step
returns-in-Fail-clause-step g c =
    let rest = drop c.args.tried.from (labels_of c.args.tried.path) in
    mark_step (rules_at c.args.scene.now) (names_at c.args.scene.now) _ (tree_of c.args.tried) fail
    c.args.left _ _ c.requires (ap (λ (t : Tree). append_rest (value_of t) rest) c.in-Fail.is)
    refl (omega arith)

pub returns-in-Empty-clause-step : goal.returns-in-Empty-clause-step
returns-in-Empty-clause-step g c =
    let rest = drop c.args.tried.from (labels_of c.args.tried.path) in
    mark_step (rules_at c.args.scene.now) (names_at c.args.scene.now) _ (tree_of c.args.tried) empty
    c.args.left _ _ c.requires (ap (λ (t : Tree). append_rest (value_of t) rest) c.in-Empty.is)
    refl (omega arith)

pub returns-in-Some-clause-step : goal.returns-in-Some-clause-step
returns-in-Some-clause-step g c =
    let rest = drop c.args.tried.from (labels_of c.args.tried.path) in
    leaf_step (rules_at c.args.scene.now) (names_at c.args.scene.now) _ (tree_of c.args.tried)
    (c.in-Leaf.leaf ++ rest) c.args.left _ _ c.look_up.result c.in-Ok.joined
    c.in-Some.path
    (ap (λ (t : Tree). append_rest (value_of t) rest) c.in-Leaf.is) c.in-Some.is
    c.in-Ok.ensures c.look_up.ensures.step

pub returns-in-None-clause-step : goal.returns-in-None-clause-step
returns-in-None-clause-step g c =
    let rest = drop c.args.tried.from (labels_of c.args.tried.path) in
    long_leaf_step (rules_at c.args.scene.now) (names_at c.args.scene.now) _ (tree_of c.args.tried)
    (c.in-Leaf.leaf ++ rest) c.args.left _ c.in-Ok.joined c.requires
    (ap (λ (t : Tree). append_rest (value_of t) rest) c.in-Leaf.is) c.in-None.is
    c.in-Ok.ensures

pub returns-in-Alt-clause-step : goal.returns-in-Alt-clause-step
returns-in-Alt-clause-step g c =
    let rest = drop c.args.tried.from (labels_of c.args.tried.path) in
    let given : Tree → TreeValue = λ t. append_rest (value_of t) rest in
    on_ok c.next_tree.result (λ next. alt_step (rules_at c.args.scene.now)
    (names_at c.args.scene.now) _ (tree_of c.args.tried) c.args.left c.args.work.now
    c.next_tree.new.work next (map given c.in-Alt.trees.items.items)
    (record {
      trees = Alternatives (record { trees = c.iter.result; from = c.args.tried.from });
      path = c.args.tried.path;
      named = None;
      visit = None;
      left = c.args.left;
    })
    (ap given c.in-Alt.is ∙ (ap (λ (v : TreeValue). append_rest v rest)
    (value_of-Alt c.in-Alt.trees) ∙ ap alt
    (append_rest-tree_values c.in-Alt.trees.items.items rest)))
    refl (ap (map given) (c.iter.ensures.rest ∙ c.items.ensures)) refl refl)
    (c.next_tree.ensures.step (rules_at c.args.scene.now) (names_at c.args.scene.now))

pub returns-in-Union-clause-step : goal.returns-in-Union-clause-step
returns-in-Union-clause-step g c =
    let rest = drop c.args.tried.from (labels_of c.args.tried.path) in
    on_ok c.next_branch.result (λ next. union_step (rules_at c.args.scene.now)
    (names_at c.args.scene.now) _ (tree_of c.args.tried) c.args.left c.args.work.now
    c.next_branch.new.work next (append_rest_branches (branches_of c.in-Union.branches) rest)
    (record {
      branches = c.iter-in-Union.result;
      path = c.args.tried.path;
      from = c.args.tried.from;
      weight = 0;
      gathered = c.new.result;
      left = c.args.left;
    })
    (ap (λ (t : Tree). append_rest (value_of t) rest) c.in-Union.is)
    refl
    (ap (λ (bs : Branches). append_rest_branches bs rest)
    (ap listed c.iter-in-Union.ensures.rest ∙ sym c.items-in-Union.ensures)) c.new.ensures)
    (c.next_branch.ensures.step (rules_at c.args.scene.now) (names_at c.args.scene.now))

pub returns-in-Neg-clause-paid : goal.returns-in-Neg-clause-paid
returns-in-Neg-clause-paid g c =
    let rest = drop c.args.tried.from (labels_of c.args.tried.path) in
    λ depth start less due. absurd (neg_due depth start _ _ _ c.args.tried c.args.left due
    (ap (λ (t : Tree). append_rest (value_of t) rest) c.in-Neg.is))

pub returns-in-Fail-clause-paid : goal.returns-in-Fail-clause-paid
returns-in-Fail-clause-paid g c =
    let rest = drop c.args.tried.from (labels_of c.args.tried.path) in
    λ depth start less due. fail_due depth start _ _ _ c.args.tried c.args.left due
    (ap (λ (t : Tree). append_rest (value_of t) rest) c.in-Fail.is)

pub returns-in-Empty-clause-paid : goal.returns-in-Empty-clause-paid
returns-in-Empty-clause-paid g c =
    let rest = drop c.args.tried.from (labels_of c.args.tried.path) in
    λ depth start less due. empty_due depth start _ _ _ c.args.tried c.args.left due
    (ap (λ (t : Tree). append_rest (value_of t) rest) c.in-Empty.is)

pub returns-in-Some-clause-paid : goal.returns-in-Some-clause-paid
returns-in-Some-clause-paid g c =
    let rest = drop c.args.tried.from (labels_of c.args.tried.path) in
    λ depth start less due. c.look_up.ensures.paid depth start less
    (leaf_due depth start _ _ _ c.args.tried c.args.left due (c.in-Leaf.leaf ++ rest)
    (ap (λ (t : Tree). append_rest (value_of t) rest) c.in-Leaf.is))

pub returns-in-None-clause-paid : goal.returns-in-None-clause-paid
returns-in-None-clause-paid g c =
    let rest = drop c.args.tried.from (labels_of c.args.tried.path) in
    λ depth start less due. long_due depth start _ _ _ c.args.tried c.args.left due
    (c.in-Leaf.leaf ++ rest) (ap (λ (t : Tree). append_rest (value_of t) rest) c.in-Leaf.is)

pub returns-in-Alt-clause-paid : goal.returns-in-Alt-clause-paid
returns-in-Alt-clause-paid g c =
    let rest = drop c.args.tried.from (labels_of c.args.tried.path) in
    let given : Tree → TreeValue = λ t. append_rest (value_of t) rest in
    λ depth start less due. on_ok c.next_tree.result (λ next turn. rw c.next_tree.ensures.count
    (alt_due depth start _ _ _ c.args.tried c.args.left due
    (record {
      trees = Alternatives (record { trees = c.iter.result; from = c.args.tried.from });
      path = c.args.tried.path;
      named = None;
      visit = None;
      left = c.args.left;
    })
    (map given c.in-Alt.trees.items.items) c.next_tree.new.work.stack.items next
    (ap given c.in-Alt.is ∙ (ap (λ (v : TreeValue). append_rest v rest)
    (value_of-Alt c.in-Alt.trees) ∙ ap alt
    (append_rest-tree_values c.in-Alt.trees.items.items rest)))
    (ap (map given) (c.iter.ensures.rest ∙ c.items.ensures)) turn)) c.next_tree.ensures.moves

pub returns-in-Union-clause-paid : goal.returns-in-Union-clause-paid
returns-in-Union-clause-paid g c =
    let rest = drop c.args.tried.from (labels_of c.args.tried.path) in
    λ depth start less due. on_ok c.next_branch.result (λ next turn. rw c.next_branch.ensures.count
    (union_due depth start _ _ _ c.args.tried c.args.left due
    (record {
      branches = c.iter-in-Union.result;
      path = c.args.tried.path;
      from = c.args.tried.from;
      weight = 0;
      gathered = c.new.result;
      left = c.args.left;
    })
    (append_rest_branches (branches_of c.in-Union.branches) rest) c.next_branch.new.work.stack.items
    next
    (ap (λ (t : Tree). append_rest (value_of t) rest) c.in-Union.is)
    (ap (λ (bs : Branches). append_rest_branches bs rest)
    (ap listed c.iter-in-Union.ensures.rest ∙ sym c.items-in-Union.ensures)) turn))
    c.next_branch.ensures.moves
