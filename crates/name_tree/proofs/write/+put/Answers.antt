use Rattle.std.proofs.Common.{Bool, List, ℕ, ◌≡◌, ◌++◌, ◌∙◌, OnOk, ap, refl, subst, sym}
use Rattle.name_tree.specs.Value.{neg, fail, empty}
use Rattle.name_tree.specs.Canon.{canon, grouped}
use Rattle.name_tree.specs.Tree.{value_of}
use Rattle.name_tree.proofs.Bridge.{value_of-Alt}
use Rattle.name_tree.proofs.Growing.{grows_behind}
use Rattle.name_tree.proofs.Writing.{alts_grown, branches_grown, branches_written, tree_put}
use Rattle.name_tree.proofs.Writing.{branch_put}
use Rattle.name_tree.proofs.write.+put.Goals as goal

pub put_alts-loop-at-preserved : goal.put_alts-loop-at-preserved
put_alts-loop-at-preserved t c =
    alts_grown _ _ c.tree-item.result _ _ _ _ _ c.loop-at-test.true c.tree-item.is
    c.loop-at.invariant c.in_ok-put_separator.ensures.ok c.is_alt.ensures
    c.in_ok-put_grouped.ensures.ok

pub put_alts-returns-in_err-put_separator-clause-grows :
    goal.put_alts-returns-in_err-put_separator-clause-grows
put_alts-returns-in_err-put_separator-clause-grows t c =
    grows_behind _ _ _ _ c.loop-at.invariant c.put_separator.ensures.grows

pub put_alts-returns-in_err-put_grouped-clause-grows :
    goal.put_alts-returns-in_err-put_grouped-clause-grows
put_alts-returns-in_err-put_grouped-clause-grows t c =
    grows_behind _ _ _ _ c.loop-at.invariant
    (grows_behind _ _ _ _ c.in_ok-put_separator.ensures.ok c.put_grouped.ensures.grows)

pub put_branches-loop-at-preserved : goal.put_branches-loop-at-preserved
put_branches-loop-at-preserved t c =
    branches_grown _ _ c.branch-item.result _ _ _ _ c.loop-at-test.true c.branch-item.is
    c.loop-at.invariant c.in_ok-put_separator.ensures.ok c.in_ok-put_branch.ensures.ok

pub put_branches-returns-in_err-put_separator-clause-grows :
    goal.put_branches-returns-in_err-put_separator-clause-grows
put_branches-returns-in_err-put_separator-clause-grows t c =
    grows_behind _ _ _ _ c.loop-at.invariant c.put_separator.ensures.grows

pub put_branches-returns-in_err-put_branch-clause-grows :
    goal.put_branches-returns-in_err-put_branch-clause-grows
put_branches-returns-in_err-put_branch-clause-grows t c =
    grows_behind _ _ _ _ c.loop-at.invariant
    (grows_behind _ _ _ _ c.in_ok-put_separator.ensures.ok c.put_branch.ensures.grows)

pub put_branches-returns-clause-ok : goal.put_branches-returns-clause-ok
put_branches-returns-clause-ok t c =
    branches_written c.args.branches.now c.deref-branch-items.result.now _ _ _ c.loop-at-test.false
    c.deref-branch-items.ensures.value c.loop-at.invariant

pub put_branch-returns-clause-ok : goal.put_branch-returns-clause-ok
put_branch-returns-clause-ok t c =
    branch_put c.args.branch.now.weight (value_of c.args.branch.now.tree) c.is_compound.result
    c.put_grouped.result c.args.out.now.items c.put_weight.new.out.items
    c.extend_from_slice.new.self.items
    c.put_grouped.new.out.items c.in_ok-put_weight.ensures.ok
    c.in_ok-extend_from_slice.ensures.items c.is_compound.ensures c.put_grouped.ensures.ok

pub put_branch-returns-clause-grows : goal.put_branch-returns-clause-grows
put_branch-returns-clause-grows t c =
    grows_behind _ _ _ _ c.in_ok-put_weight.ensures.ok
    (grows_behind _ _ _ _ c.in_ok-extend_from_slice.ensures.items c.put_grouped.ensures.grows)

pub put_grouped-returns-then-not-is_group-clause-ok :
    goal.put_grouped-returns-then-not-is_group-clause-ok
put_grouped-returns-then-not-is_group-clause-ok t c =
    let text = canon (value_of c.args.tree.now) in
    subst (λ (bytes : List ℕ). OnOk c.put_tree.result
    (c.put_tree.new.out.items ≡ c.args.out.now.items ++ bytes))
    (ap (λ (is_group : Bool). grouped is_group text) (sym c.if-not-is_group.true))
    c.put_tree.ensures.ok

pub put_tree-returns-in-Leaf-clause-ok : goal.put_tree-returns-in-Leaf-clause-ok
put_tree-returns-in-Leaf-clause-ok t c =
    tree_put c.args.tree.now _ c.put_path.result c.args.out.now.items c.put_path.new.out.items _
    (ap value_of c.in-Leaf.is) refl c.put_path.ensures.ok

pub put_tree-returns-in-Neg-clause-ok : goal.put_tree-returns-in-Neg-clause-ok
put_tree-returns-in-Neg-clause-ok t c =
    tree_put c.args.tree.now neg c.put_mark.result c.args.out.now.items c.put_mark.new.out.items _
    (ap value_of c.in-Neg.is) refl c.put_mark.ensures.ok

pub put_tree-returns-in-Fail-clause-ok : goal.put_tree-returns-in-Fail-clause-ok
put_tree-returns-in-Fail-clause-ok t c =
    tree_put c.args.tree.now fail c.put_mark-in-Fail.result c.args.out.now.items
    c.put_mark-in-Fail.new.out.items _ (ap value_of c.in-Fail.is) refl c.put_mark-in-Fail.ensures.ok

pub put_tree-returns-in-Empty-clause-ok : goal.put_tree-returns-in-Empty-clause-ok
put_tree-returns-in-Empty-clause-ok t c =
    tree_put c.args.tree.now empty c.put_mark-in-Empty.result c.args.out.now.items
    c.put_mark-in-Empty.new.out.items _ (ap value_of c.in-Empty.is) refl
    c.put_mark-in-Empty.ensures.ok

pub put_tree-returns-in-Alt-clause-ok : goal.put_tree-returns-in-Alt-clause-ok
put_tree-returns-in-Alt-clause-ok t c =
    tree_put c.args.tree.now _ c.put_alts.result c.args.out.now.items c.put_alts.new.out.items _
    (ap value_of c.in-Alt.is ∙ value_of-Alt c.in-Alt.trees) refl c.put_alts.ensures.ok

pub put_tree-returns-in-Union-clause-ok : goal.put_tree-returns-in-Union-clause-ok
put_tree-returns-in-Union-clause-ok t c =
    tree_put c.args.tree.now _ c.put_branches.result c.args.out.now.items
    c.put_branches.new.out.items _ (ap value_of c.in-Union.is) refl c.put_branches.ensures.ok
