-- What trees of the code say, in terms of the lists that they hold.
use Rattle.std.proofs.Common.{◌≡◌, List, [], ◌∷◌, length, map, Vec, Global, refl, sym, ap, ◌∙◌}
use Rattle.std.proofs.lemmas.List.{length-map}
use mathlib.Core.Former.{Count}
use Rattle.name_tree.specs.declared.tree.Tree.{Tree, Alt, Alt', Row_of-Tree, end_of-Tree}
use Rattle.name_tree.specs.declared.tree.Tree.{more_of-Tree, items-the_row-Tree}
use Rattle.name_tree.specs.declared.tree.Tree.{items_hidden-the_row-Tree-0}
use Rattle.name_tree.specs.declared.tree.Trees.{Trees}
use Rattle.name_tree.specs.declared.tree.Branch.{Branch}
use Rattle.name_tree.specs.declared.tree.Branches.{Branches as BranchList, Branches', out-Branches}
use Rattle.name_tree.specs.declared.tree.Branches.{roll-Branches, rolls-Branches'}
use Rattle.name_tree.specs.declared.tree.Branches.{roll-out-Branches, Row_of-Branch, end_of-Branch}
use Rattle.name_tree.specs.declared.tree.Branches.{more_of-Branch, items-the_row-Branch}
use Rattle.name_tree.specs.declared.tree.Branches.{items_hidden-the_row-Branch-1}
use Rattle.name_tree.specs.declared.tree.Tree.TheBlock.{shape-the_row-Branch-1}
use Rattle.name_tree.specs.declared.tree.Tree.TheBlock.{hidden-the_row-Branch-1}
use Rattle.name_tree.specs.Value.{TreeValue, alt, tree_values, more, branch, one_or_alt}
use Rattle.name_tree.specs.Tree.{value_of, branches_of, row_values, row_branches, listed}

abbrev row_in : Tree → (n : Count) × Row_of-Tree n
row_in (Alt' _ row) = (_, row)
row_in _ = (_, end_of-Tree)

row_is : (n : Count) (row : Row_of-Tree n) → row_values row
    ≡ tree_values (map value_of (items-the_row-Tree n row))
row_is n end_of-Tree = refl
row_is n (more_of-Tree t ts) = ap (more (value_of t)) (row_is _ ts)

-- a choice says what its alternatives say, in their order
pub value_of-Alt : (trees : Trees) → value_of (Alt trees)
    ≡ alt (tree_values (map value_of trees.items.items))
value_of-Alt trees = let row = row_in (Alt trees) in
    ap alt (row_is row.0 row.1 ∙ ap (λ (ts : List Tree). tree_values (map value_of ts))
    (items_hidden-the_row-Tree-0 trees.items))

branch_row_is : (n : Count) (row : Row_of-Branch n)
    → row_branches row ≡ listed (items-the_row-Branch n row)
branch_row_is n end_of-Branch = refl
branch_row_is n (more_of-Branch weight t bs) = ap (branch weight (value_of t)) (branch_row_is _ bs)

choice_of : (ts : List TreeValue) → (length ts ≡ 1 → ⊥) → one_or_alt ts ≡ alt (tree_values ts)
choice_of [] not_one = refl
choice_of (t ∷ []) not_one = absurd (not_one refl)
choice_of (t ∷ u ∷ ts) not_one = refl

-- where there is not exactly one tree, they are a choice
pub choice_is : (ts : List Tree) (trees : Trees) → (length ts ≡ 1 → ⊥) → trees.items.items ≡ ts
    → value_of (Alt trees) ≡ one_or_alt (map value_of ts)
choice_is ts trees not_one is = value_of-Alt trees
    ∙ (rw is (sym (choice_of (map value_of ts)
    (λ one. not_one (sym (length-map ts value_of) ∙ one)))))

abbrev branch_row_in : BranchList → (n : Count) × Row_of-Branch n
branch_row_in (Branches' _ row) = (_, row)

branches_of-row : (bs : BranchList) → branches_of bs ≡ row_branches (branch_row_in bs).1
branches_of-row (Branches' shape row) = refl

-- branches say what those of their list say, in its order
pub branches_of-roll : (items : Vec Branch Global)
    → branches_of (roll-Branches (record { items = items })) ≡ listed items.items
branches_of-roll items =
    let row = hidden-the_row-Branch-1 items in
    rw rolls-Branches' (branches_of-row (Branches' (shape-the_row-Branch-1 items) row)
    ∙ (branch_row_is _ row ∙ ap listed (items_hidden-the_row-Branch-1 items)))

pub branches_of-out : (bs : BranchList) → branches_of bs ≡ listed (out-Branches bs).items.items
branches_of-out bs = ap branches_of (sym (roll-out-Branches bs))
    ∙ branches_of-roll (out-Branches bs).items
