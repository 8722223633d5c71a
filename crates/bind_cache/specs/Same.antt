-- Whether paths, trees and rules are the same, as tests.
use Rattle.std.specs.Prelude.{◌==◌, ◌&&◌, Bool, true, false, List, Some, None}
use Rattle.std.specs.Cmp.Lexicographic.{pointwise}
use Rattle.std.specs.Str.{bytes_eq}
use Rattle.name_tree.specs.Path.{Labels}
use Rattle.name_tree.specs.Value.{TreeValue, TreeValues, Branches, leaf, neg, fail, empty, alt}
use Rattle.name_tree.specs.Value.{union, none, more, no_branch, branch}
use Rattle.dtab_table.specs.Pattern.{Pattern}
use Rattle.dtab_table.specs.Rules.{Rule}

abbrev pub same_path : Labels → Labels → Bool
same_path p q = pointwise bytes_eq p q

unfoldable mutual
  pub same_tree : TreeValue → TreeValue → Bool
  same_tree (leaf p) (leaf q) = same_path p q
  same_tree neg neg = true
  same_tree fail fail = true
  same_tree empty empty = true
  same_tree (alt ts) (alt us) = same_trees ts us
  same_tree (union bs) (union cs) = same_branches bs cs
  same_tree _ _ = false

  pub same_trees : TreeValues → TreeValues → Bool
  same_trees none none = true
  same_trees (more t ts) (more u us) = same_tree t u && same_trees ts us
  same_trees _ _ = false

  pub same_branches : Branches → Branches → Bool
  same_branches no_branch no_branch = true
  same_branches (branch n t bs) (branch m u cs) = (n == m) && (same_tree t u && same_branches bs cs)
  same_branches _ _ = false

abbrev pub same_pattern : Pattern → Pattern → Bool
same_pattern None None = true
same_pattern (Some l) (Some m) = bytes_eq l m
same_pattern _ _ = false

-- two rules have the same prefix and the same tree
unfoldable pub same_rule : Rule → Rule → Bool
same_rule r q = pointwise same_pattern r.prefix q.prefix && same_tree r.tree q.tree

-- the same rules, in the same order
abbrev pub same_rules : List Rule → List Rule → Bool
same_rules rs qs = pointwise same_rule rs qs
