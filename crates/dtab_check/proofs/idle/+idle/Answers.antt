use Rattle.std.proofs.Common.{◌≡◌, ◌+◌, ◌<◌, map, sym, ap, ◌∙◌, arith, Bool, List}
use Rattle.std.specs.Prelude.{◌||◌}
use Rattle.name_tree.specs.declared.tree.Tree.{Tree}
use Rattle.name_tree.specs.Value.{alt, tree_values}
use Rattle.name_tree.specs.Tree.{value_of, listed}
use Rattle.name_tree.proofs.Bridge.{value_of-Alt}
use Rattle.dtab_check.specs.Notes.{has_idle, branch_is_idle}
use Rattle.dtab_check.proofs.Lives.{work_of, works_of, branch_works_of, less_tree, less_branch}
use Rattle.dtab_check.proofs.Lives.{alternatives_less}
use Rattle.dtab_check.proofs.Noting.{next_idle, next_idle_branch}
use Rattle.dtab_check.proofs.idle.+idle.Goals as goal
use Rattle.dtab_check.proofs.idle.+idle.Goals.{some_has_idle-then-found, some_has_idle-else-found}
use Rattle.dtab_check.proofs.idle.+idle.Goals.{some_is_idle-then-found, some_is_idle-else-found}

pub some_has_idle-has_idle-found-requires : goal.some_has_idle-has_idle-found-requires
some_has_idle-has_idle-found-requires t c =
    let less : work_of (value_of c.tree-item.result) < works_of (map value_of c.args.trees.now) =
    less_tree c.args.trees.now c.loop-tree.tree-index c.tree-item.result c.loop-tree-test.true
    c.tree-item.is in
    (omega (arith, less, c.decreases), tt)

pub some_has_idle-loop-tree-preserved : goal.some_has_idle-loop-tree-preserved
some_has_idle-loop-tree-preserved t c =
    let own : Bool = has_idle (value_of c.tree-item.result) in
    let next = next_idle c.args.trees.now c.loop-tree.tree-index c.tree-item.result
    c.loop-tree-test.true c.tree-item.is in
    elim c.if-found.branch [
      | some_has_idle-then-found w ↦
          w.found-is ∙ (w.if-found.true ∙ sym
          (next ∙ ap (λ (b : Bool). b || own) (sym c.loop-tree.invariant ∙ w.if-found.true)))
      | some_has_idle-else-found w ↦
          w.found-is ∙ (w.has_idle-found.ensures
          ∙ sym (next ∙ ap (λ (b : Bool). b || own) (sym c.loop-tree.invariant ∙ w.if-found.false)))
    ]

pub some_is_idle-is_idle-found-requires : goal.some_is_idle-is_idle-found-requires
some_is_idle-is_idle-found-requires t c =
    let less : work_of (value_of c.branch-item.result.tree) + 1
    < branch_works_of (listed c.args.branches.now) =
    less_branch c.args.branches.now c.loop-branch.branch-index c.branch-item.result
    c.loop-branch-test.true c.branch-item.is in
    (omega (arith, less, c.decreases), tt)

pub some_is_idle-loop-branch-preserved : goal.some_is_idle-loop-branch-preserved
some_is_idle-loop-branch-preserved t c =
    let own : Bool = branch_is_idle c.branch-item.result in
    let next = next_idle_branch c.args.branches.now c.loop-branch.branch-index c.branch-item.result
    c.loop-branch-test.true c.branch-item.is in
    elim c.if-found.branch [
      | some_is_idle-then-found w ↦
          w.found-is ∙ (w.if-found.true ∙ sym
          (next ∙ ap (λ (b : Bool). b || own) (sym c.loop-branch.invariant ∙ w.if-found.true)))
      | some_is_idle-else-found w ↦
          w.found-is ∙ (w.is_idle-found.ensures
          ∙ sym (next ∙ ap (λ (b : Bool). b || own)
          (sym c.loop-branch.invariant ∙ w.if-found.false)))
    ]

pub has_idle-some_has_idle-requires : goal.has_idle-some_has_idle-requires
has_idle-some_has_idle-requires t c =
    let same : value_of c.args.tree.now ≡ alt (tree_values (map value_of c.items.result.now)) =
    ap value_of c.in-Alt.is
    ∙ (value_of-Alt c.in-Alt.trees ∙ ap (λ (ts : List Tree). alt (tree_values (map value_of ts)))
    (sym c.items.ensures)) in
    let less : works_of (map value_of c.items.result.now) < work_of (value_of c.args.tree.now) =
    alternatives_less (value_of c.args.tree.now) (map value_of c.items.result.now) same in
    (omega (arith, less, c.decreases), tt)

pub has_idle-returns-in-Alt : goal.has_idle-returns-in-Alt
has_idle-returns-in-Alt t c =
    let same : value_of c.args.tree.now ≡ alt (tree_values (map value_of c.items.result.now)) =
    ap value_of c.in-Alt.is
    ∙ (value_of-Alt c.in-Alt.trees ∙ ap (λ (ts : List Tree). alt (tree_values (map value_of ts)))
    (sym c.items.ensures)) in
    rw same c.some_has_idle.ensures
