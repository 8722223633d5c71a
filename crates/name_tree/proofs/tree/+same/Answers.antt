use Rattle.std.proofs.Common.{◌≡◌, ◌∙◌, List, length, map, false, true, refl, sym, ap, subst}
use Rattle.std.specs.Prelude.{◌↔◌, IsTrue}
use Rattle.name_tree.specs.declared.tree.Tree.{Tree}
use Rattle.name_tree.specs.declared.tree.Branches.{out-Branches}
use Rattle.name_tree.specs.Tree.{value_of, branch_value}
use Rattle.name_tree.proofs.Apart.{apart}
use Rattle.name_tree.proofs.Same.{of_other_length, one_more, other_member, all_same, same_choices}
use Rattle.name_tree.proofs.Same.{same_joined, same_unions}
use Rattle.name_tree.proofs.tree.+same.Goals as goal

pub Branches::same-returns-then-len : goal.Branches::same-returns-then-len
Branches::same-returns-then-len t c =
    let xs = (out-Branches c.args.self.now).items in
    let ys = (out-Branches c.args.other.now).items in
    same_unions false c.args.self.now c.args.other.now xs.items ys.items refl refl
    (of_other_length branch_value xs.items ys.items
    (λ same. c.if-len.true (c.len.ensures
    ∙ (xs.ok.0 ∙ (same ∙ (sym ys.ok.0 ∙ sym c.len-2.ensures))))))

pub Branches::same-returns-then-not-same : goal.Branches::same-returns-then-not-same
Branches::same-returns-then-not-same t c =
    let xs = (out-Branches c.args.self.now).items in
    let ys = (out-Branches c.args.other.now).items in
    let as_many : length c.deref-branch-items.result.now ≡ length ys.items =
    ap length c.deref-branch-items.ensures.value
    ∙ (sym xs.ok.0 ∙ (sym c.len.ensures ∙ (c.if-len.false ∙ (c.len-2.ensures ∙ ys.ok.0)))) in
    same_unions false c.args.self.now c.args.other.now c.deref-branch-items.result.now ys.items
    c.deref-branch-items.ensures.value refl
    (other_member branch_value c.deref-branch-items.result.now ys.items c.loop-at.at
    c.branch-item.result c.index.result.now c.loop-at-test.true as_many c.branch-item.is
    c.index.ensures
    (λ same. let yes : IsTrue c.same.result = c.same.ensures.1 same in
    let no : c.same.result ≡ false = c.if-not-same.true in cc))

pub Branches::same-loop-at-preserved : goal.Branches::same-loop-at-preserved
Branches::same-loop-at-preserved t c =
    let xs = (out-Branches c.args.self.now).items in
    let ys = (out-Branches c.args.other.now).items in
    let as_many : length c.deref-branch-items.result.now ≡ length ys.items =
    ap length c.deref-branch-items.ensures.value
    ∙ (sym xs.ok.0 ∙ (sym c.len.ensures ∙ (c.if-len.false ∙ (c.len-2.ensures ∙ ys.ok.0)))) in
    one_more branch_value c.deref-branch-items.result.now ys.items c.loop-at.at
    c.branch-item.result c.index.result.now c.loop-at-test.true as_many c.branch-item.is
    c.index.ensures
    (c.same.ensures.0 c.if-not-same.false) c.loop-at.invariant

pub Branches::same-returns : goal.Branches::same-returns
Branches::same-returns t c =
    let xs = (out-Branches c.args.self.now).items in
    let ys = (out-Branches c.args.other.now).items in
    let as_many : length c.deref-branch-items.result.now ≡ length ys.items =
    ap length c.deref-branch-items.ensures.value
    ∙ (sym xs.ok.0 ∙ (sym c.len.ensures ∙ (c.if-len.false ∙ (c.len-2.ensures ∙ ys.ok.0)))) in
    same_unions true c.args.self.now c.args.other.now c.deref-branch-items.result.now ys.items
    c.deref-branch-items.ensures.value refl
    (all_same branch_value c.deref-branch-items.result.now ys.items c.loop-at.at
    c.loop-at-test.false as_many c.loop-at.invariant)

pub Tree::same-returns-in-Alt-other : goal.Tree::same-returns-in-Alt-other
Tree::same-returns-in-Alt-other t c =
    same_choices _ _ _ c.in-Alt.trees c.in-Alt-other.own c.in-Alt.is c.in-Alt-other.is
    c.same.ensures

pub Trees::same-returns-then-not-same : goal.Trees::same-returns-then-not-same
Trees::same-returns-then-not-same t c =
    let xs = c.args.self.now.items in
    let ys = c.args.other.now.items in
    let as_many : length c.deref-tree-items.result.now ≡ length ys.items =
    ap length c.deref-tree-items.ensures.value
    ∙ (sym xs.ok.0 ∙ (sym c.len.ensures ∙ (c.if-len.false ∙ (c.len-2.ensures ∙ ys.ok.0)))) in
    subst (λ (ts : List Tree). IsTrue false
    ↔ (map value_of ts ≡ map value_of c.args.other.now.items.items))
    c.deref-tree-items.ensures.value
    (other_member value_of c.deref-tree-items.result.now ys.items c.loop-at.at c.tree-item.result
    c.index.result.now c.loop-at-test.true as_many c.tree-item.is c.index.ensures
    (λ same. let yes : IsTrue c.same.result = c.same.ensures.1 same in
    let no : c.same.result ≡ false = c.if-not-same.true in cc))

pub Trees::same-loop-at-preserved : goal.Trees::same-loop-at-preserved
Trees::same-loop-at-preserved t c =
    let xs = c.args.self.now.items in
    let ys = c.args.other.now.items in
    let as_many : length c.deref-tree-items.result.now ≡ length ys.items =
    ap length c.deref-tree-items.ensures.value
    ∙ (sym xs.ok.0 ∙ (sym c.len.ensures ∙ (c.if-len.false ∙ (c.len-2.ensures ∙ ys.ok.0)))) in
    one_more value_of c.deref-tree-items.result.now ys.items c.loop-at.at c.tree-item.result
    c.index.result.now c.loop-at-test.true as_many c.tree-item.is c.index.ensures
    (c.same.ensures.0 c.if-not-same.false) c.loop-at.invariant

pub Trees::same-returns : goal.Trees::same-returns
Trees::same-returns t c =
    let xs = c.args.self.now.items in
    let ys = c.args.other.now.items in
    let as_many : length c.deref-tree-items.result.now ≡ length ys.items =
    ap length c.deref-tree-items.ensures.value
    ∙ (sym xs.ok.0 ∙ (sym c.len.ensures ∙ (c.if-len.false ∙ (c.len-2.ensures ∙ ys.ok.0)))) in
    subst (λ (ts : List Tree). IsTrue true
    ↔ (map value_of ts ≡ map value_of c.args.other.now.items.items))
    c.deref-tree-items.ensures.value
    (all_same value_of c.deref-tree-items.result.now ys.items c.loop-at.at c.loop-at-test.false
    as_many c.loop-at.invariant)

pub Tree::same-returns-in-Leaf-other : goal.Tree::same-returns-in-Leaf-other
Tree::same-returns-in-Leaf-other t c =
    apart _ _ _ _ (ap value_of c.in-Alt.is) (ap value_of c.in-Leaf-other.is) refl

pub Tree::same-returns-in-Neg-other : goal.Tree::same-returns-in-Neg-other
Tree::same-returns-in-Neg-other t c =
    apart _ _ _ _ (ap value_of c.in-Alt.is) (ap value_of c.in-Neg-other.is) refl

pub Tree::same-returns-in-Fail-other : goal.Tree::same-returns-in-Fail-other
Tree::same-returns-in-Fail-other t c =
    apart _ _ _ _ (ap value_of c.in-Alt.is) (ap value_of c.in-Fail-other.is) refl

pub Tree::same-returns-in-Empty-other : goal.Tree::same-returns-in-Empty-other
Tree::same-returns-in-Empty-other t c =
    apart _ _ _ _ (ap value_of c.in-Alt.is) (ap value_of c.in-Empty-other.is) refl

pub Tree::same-returns-in-Union-other : goal.Tree::same-returns-in-Union-other
Tree::same-returns-in-Union-other t c =
    apart _ _ _ _ (ap value_of c.in-Alt.is) (ap value_of c.in-Union-other.is) refl

pub Tree::same-returns-in-Leaf-other-2 : goal.Tree::same-returns-in-Leaf-other-2
Tree::same-returns-in-Leaf-other-2 t c =
    apart _ _ _ _ (ap value_of c.in-Union.is) (ap value_of c.in-Leaf-other-2.is) refl

pub Tree::same-returns-in-Neg-other-2 : goal.Tree::same-returns-in-Neg-other-2
Tree::same-returns-in-Neg-other-2 t c =
    apart _ _ _ _ (ap value_of c.in-Union.is) (ap value_of c.in-Neg-other-2.is) refl

pub Tree::same-returns-in-Fail-other-2 : goal.Tree::same-returns-in-Fail-other-2
Tree::same-returns-in-Fail-other-2 t c =
    apart _ _ _ _ (ap value_of c.in-Union.is) (ap value_of c.in-Fail-other-2.is) refl

pub Tree::same-returns-in-Empty-other-2 : goal.Tree::same-returns-in-Empty-other-2
Tree::same-returns-in-Empty-other-2 t c =
    apart _ _ _ _ (ap value_of c.in-Union.is) (ap value_of c.in-Empty-other-2.is) refl

pub Tree::same-returns-in-Alt-other-2 : goal.Tree::same-returns-in-Alt-other-2
Tree::same-returns-in-Alt-other-2 t c =
    apart _ _ _ _ (ap value_of c.in-Union.is) (ap value_of c.in-Alt-other-2.is) refl

pub Tree::same-returns-in-Union-other-2 : goal.Tree::same-returns-in-Union-other-2
Tree::same-returns-in-Union-other-2 t c =
    same_joined _ _ _ c.in-Union.branches c.in-Union-other-2.own c.in-Union.is
    c.in-Union-other-2.is c.same-in-Union-other-2.ensures
