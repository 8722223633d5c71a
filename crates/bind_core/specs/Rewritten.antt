-- What the code's paths and trees say, which tables lend and no label of which is joined before a
-- leaf is looked up.
use Rattle.std.specs.Prelude.{drop}
use Rattle.std.specs.Rc.{rc_value}
use Rattle.name_tree.specs.Path.{Labels}
use Rattle.name_tree.specs.Value.{TreeValue, append_rest}
use Rattle.name_tree.specs.Tree.{value_of}
use Rattle.bind_core.specs.declared.rewritten.HeldPath.{HeldPath}
use Rattle.bind_core.specs.declared.rewritten.HeldPath.TheVariants as held
use Rattle.bind_core.specs.declared.rewritten.Rewritten.{Rewritten}

-- the labels of a path
abbrev pub labels_of : HeldPath → Labels
labels_of (held.Lent path) = path.now
labels_of (held.Shared path) = rc_value path

-- the tree, with the labels behind those that the prefix took behind every leaf
abbrev pub tree_of : Rewritten → TreeValue
tree_of r = append_rest (value_of r.tree.now) (drop r.from (labels_of r.path))
