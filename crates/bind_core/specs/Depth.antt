-- How deep the trees of a table are, and how many turns each lookup takes at most.
use Rattle.std.specs.Prelude.{ℕ, ◌+◌, ◌*◌, max, List, [], ◌∷◌}
use Rattle.name_tree.specs.Value.{TreeValue, TreeValues, Branches, leaf, neg, fail, empty, alt}
use Rattle.name_tree.specs.Value.{union, none, more, no_branch, branch}
use Rattle.dtab_table.specs.Rules.{Rule}

abbrev mutual
  -- how deep alternations and unions stand in each other, with the leaves in them
  pub depth_of : TreeValue → ℕ
  depth_of (leaf path) = 1
  depth_of neg = 0
  depth_of fail = 0
  depth_of empty = 0
  depth_of (alt ts) = 1 + depth_of_all ts
  depth_of (union bs) = 1 + depth_of_each bs

  pub depth_of_all : TreeValues → ℕ
  depth_of_all none = 0
  depth_of_all (more t ts) = max (depth_of t) (depth_of_all ts)

  pub depth_of_each : Branches → ℕ
  depth_of_each no_branch = 0
  depth_of_each (branch n t bs) = max (depth_of t) (depth_of_each bs)

-- the greatest depth of a table's trees
abbrev pub greatest_depth : List Rule → ℕ
greatest_depth [] = 0
greatest_depth (r ∷ rs) = max (depth_of r.tree) (greatest_depth rs)

-- the most turns for a lookup, where trees are no deeper than so
abbrev pub turns_per_lookup : ℕ → ℕ
turns_per_lookup depth = 12 * (depth + 1)
