-- Trees as values.
use Rattle.std.specs.Prelude.{ℕ, List, [], ◌∷◌, ◌++◌, Option, Some, None, unwrap_or}
use Rattle.name_tree.specs.Path.{Labels}

mutual
  -- a tree of paths: what a leaf, a mark, a choice or a union says, and nothing of how it lies in
  -- memory
  pub data TreeValue : Type 0 where
    leaf : Labels → TreeValue
    neg : TreeValue
    fail : TreeValue
    empty : TreeValue
    alt : TreeValues → TreeValue
    union : Branches → TreeValue

  -- some trees in order
  pub data TreeValues : Type 0 where
    none : TreeValues
    more : TreeValue → TreeValues → TreeValues

  -- some trees in order, each with its weight in millionths
  pub data Branches : Type 0 where
    no_branch : Branches
    branch : ℕ → TreeValue → Branches → Branches

-- a list of trees, in its order
abbrev pub tree_values : List TreeValue → TreeValues
tree_values [] = none
tree_values (t ∷ ts) = more t (tree_values ts)

-- one tree is itself, several are a choice between them
abbrev pub one_or_alt : List TreeValue → TreeValue
one_or_alt (t ∷ []) = t
one_or_alt ts = alt (tree_values ts)

-- a branch of a union as it is written: its weight in millionths, if one is written, and its tree
abbrev pub BranchValue : Type 0
BranchValue = Option ℕ × TreeValue

-- the weight of a branch without one
abbrev pub one_whole : ℕ
one_whole = 1000000

abbrev pub branches : List BranchValue → Branches
branches [] = no_branch
branches (p ∷ ps) = branch (unwrap_or p.0 one_whole) p.1 (branches ps)

-- one branch without a weight is its tree, and any other branch is a union of one
abbrev pub lone : Option ℕ → TreeValue → TreeValue
lone None v = v
lone (Some n) v = union (branch n v no_branch)

-- what some branches with `&` between them stand for
abbrev pub union_of : List BranchValue → TreeValue
union_of (p ∷ []) = lone p.0 p.1
union_of ps = union (branches ps)

abbrev mutual
  -- a tree with these labels put behind every leaf
  pub append_rest : TreeValue → Labels → TreeValue
  append_rest (leaf path) rest = leaf (path ++ rest)
  append_rest neg rest = neg
  append_rest fail rest = fail
  append_rest empty rest = empty
  append_rest (alt ts) rest = alt (append_rest_all ts rest)
  append_rest (union bs) rest = union (append_rest_branches bs rest)

  pub append_rest_all : TreeValues → Labels → TreeValues
  append_rest_all none rest = none
  append_rest_all (more t ts) rest = more (append_rest t rest) (append_rest_all ts rest)

  pub append_rest_branches : Branches → Labels → Branches
  append_rest_branches no_branch rest = no_branch
  append_rest_branches (branch n t bs) rest =
      branch n (append_rest t rest) (append_rest_branches bs rest)
