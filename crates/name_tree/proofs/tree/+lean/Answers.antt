use Rattle.std.proofs.Common.{List, map, sym, ap, subst, ◌∙◌, ◌≡◌}
use Rattle.std.specs.Prelude.{IfOk}
use Rattle.name_tree.specs.declared.tree.Tree.{Tree}
use Rattle.name_tree.specs.declared.tree.Branch.{Branch}
use Rattle.name_tree.specs.Value.{tree_values}
use Rattle.name_tree.specs.Lean.{Parts, lean_all, lean_each, union_of_parts}
use Rattle.name_tree.specs.LeanUnion.{parts_in}
use Rattle.name_tree.specs.Tree.{value_of, listed}
use Rattle.name_tree.proofs.Bridge.{branches_of-out}
use Rattle.name_tree.proofs.Leaning.{alternatives_end, alternatives_seen, alt_is_lean}
use Rattle.name_tree.proofs.Leaning.{branches_seen}
use Rattle.name_tree.proofs.tree.+lean.Goals as goal

pub Tree::lean-returns-in_ok-lean-in-Alt : goal.Tree::lean-returns-in_ok-lean-in-Alt
Tree::lean-returns-in_ok-lean-in-Alt t c =
    alt_is_lean c.args.self.now c.in-Alt.trees c.in_ok-lean-in-Alt.field-0.items
    c.lean_choice.result c.in-Alt.is c.in_ok-lean-in-Alt.ensures c.lean_choice.ensures

pub Trees::lean-returns-then-not-goes_on : goal.Trees::lean-returns-then-not-goes_on
Trees::lean-returns-then-not-goes_on t c =
    alternatives_end c.deref-tree-items.result.now c.loop-tree.tree-index c.tree-item.result
    c.in_ok-lean.field-0 c.loop-tree.left.items c.put_alternative.new.left.items
    c.in_ok-goes_on.goes_on
    (lean_all (tree_values (map value_of c.deref-tree-items.result.now))) c.if-not-goes_on.true
    c.loop-tree-test.true c.tree-item.is c.in_ok-lean.ensures c.in_ok-goes_on.ensures
    c.loop-tree.invariant
    ∙ ap (λ (ts : List Tree). lean_all (tree_values (map value_of ts)))
    c.deref-tree-items.ensures.value

pub Trees::lean-returns : goal.Trees::lean-returns
Trees::lean-returns t c =
    alternatives_seen c.deref-tree-items.result.now c.loop-tree.tree-index c.loop-tree.left.items
    (lean_all (tree_values (map value_of c.deref-tree-items.result.now))) c.loop-tree-test.false
    c.loop-tree.invariant
    ∙ ap (λ (ts : List Tree). lean_all (tree_values (map value_of ts)))
    c.deref-tree-items.ensures.value

pub Branches::lean-returns : goal.Branches::lean-returns
Branches::lean-returns t c =
    let seen : parts_in c.loop-branch.left ≡ lean_each (listed c.deref-branch-items.result.now) =
    branches_seen c.deref-branch-items.result.now c.loop-branch.branch-index
    (parts_in c.loop-branch.left) (lean_each (listed c.deref-branch-items.result.now))
    c.loop-branch-test.false c.loop-branch.invariant in
    subst (λ (p : Parts). IfOk c.into_tree.result (λ tree. value_of tree ≡ union_of_parts p))
    (seen ∙ (ap (λ (bs : List Branch). lean_each (listed bs)) c.deref-branch-items.ensures.value
    ∙ ap lean_each (sym (branches_of-out c.args.self.now)))) c.into_tree.ensures
