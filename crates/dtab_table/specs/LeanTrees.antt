-- What there is to try of the trees that a table rewrites a path to.
use Rattle.std.specs.Prelude.{List, [], ◌∷◌, map, drop}
use Rattle.name_tree.specs.Path.{Labels}
use Rattle.name_tree.specs.Value.{TreeValue, leaf, neg, fail, empty, alt, union, append_rest}
use Rattle.name_tree.specs.Tree.{value_of}
use Rattle.name_tree.specs.Lean.{lean}
use Rattle.dtab_table.specs.declared.lean_tree.LeanTree.{LeanTree}

-- a tree before others, unless it is negative
abbrev pub unless_neg : TreeValue → List TreeValue → List TreeValue
unless_neg (leaf path) ts = leaf path ∷ ts
unless_neg neg ts = ts
unless_neg fail ts = fail ∷ ts
unless_neg empty ts = empty ∷ ts
unless_neg (alt us) ts = alt us ∷ ts
unless_neg (union bs) ts = union bs ∷ ts

-- some trees without what makes no lookup, and without those of which nothing is left
abbrev pub lean_trees : List TreeValue → List TreeValue
lean_trees [] = []
lean_trees (t ∷ ts) = unless_neg (lean t) (lean_trees ts)

-- a tree that a table lends, with the labels of a path behind those that its prefix took behind
-- every leaf
abbrev pub lent_tree : Labels → LeanTree → TreeValue
lent_tree path lent = append_rest (value_of lent.tree.now) (drop lent.taken path)

abbrev pub lent_trees : Labels → List LeanTree → List TreeValue
lent_trees path lent = map (lent_tree path) lent
