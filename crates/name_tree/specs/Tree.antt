-- What the code's trees say.
use Rattle.std.specs.Prelude.{ℕ, List, [], ◌∷◌}
use Rattle.name_tree.specs.declared.tree.Tree.{Tree, Leaf, Neg, Fail, Empty, Alt', Union}
use Rattle.name_tree.specs.declared.tree.Tree.{Row_of-Tree, end_of-Tree, more_of-Tree}
use Rattle.name_tree.specs.declared.tree.Trees.{Trees}
use Rattle.name_tree.specs.declared.tree.Branch.{Branch}
use Rattle.name_tree.specs.declared.tree.Branches.{Branches as BranchList, Branches', Row_of-Branch}
use Rattle.name_tree.specs.declared.tree.Branches.{end_of-Branch, more_of-Branch}
use Rattle.name_tree.specs.Value.{TreeValue, leaf, neg, fail, empty, alt, union, TreeValues, none}
use Rattle.name_tree.specs.Value.{more, Branches, no_branch, branch}

abbrev mutual
  -- what a tree of the code says
  pub value_of : Tree → TreeValue
  value_of (Leaf path) = leaf path
  value_of Neg = neg
  value_of Fail = fail
  value_of Empty = empty
  value_of (Alt' shape row) = alt (row_values row)
  value_of (Union bs) = union (branches_of bs)

  -- what the branches of a union of the code say
  pub branches_of : BranchList → Branches
  branches_of (Branches' shape row) = row_branches row

  pub row_values : {m : _} → Row_of-Tree m → TreeValues
  row_values end_of-Tree = none
  row_values (more_of-Tree t ts) = more (value_of t) (row_values ts)

  pub row_branches : {m : _} → Row_of-Branch m → Branches
  row_branches end_of-Branch = no_branch
  row_branches (more_of-Branch weight t bs) = branch weight (value_of t) (row_branches bs)

-- the alternatives of a choice of the code, in their order
abbrev pub trees_in : Trees → List Tree
trees_in trees = trees.items.items

-- a branch of the code: its weight, and what its tree says
abbrev pub branch_value : Branch → ℕ × TreeValue
branch_value b = (b.weight, value_of b.tree)

-- branches, in the order of a list
abbrev pub listed : List Branch → Branches
listed [] = no_branch
listed (b ∷ bs) = branch b.weight (value_of b.tree) (listed bs)
