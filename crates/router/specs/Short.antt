-- Names whose texts fit into the room that is set aside for them.
use Rattle.std.specs.Prelude.{◌≤◌, length}
use Rattle.name_tree.specs.Path.{canon_path}
use Rattle.addr_book.specs.declared.leaf.Leaf.{Leaf}

-- the text of either part of a leaf's path has at most so many bytes
pub record IsShort (l : Leaf) : Type 0 where
  pub client : length (canon_path l.client) ≤ 2048
  pub residual : length (canon_path l.residual) ≤ 2048
