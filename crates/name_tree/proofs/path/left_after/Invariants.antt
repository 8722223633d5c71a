use Rattle.std.proofs.Common.{◌≡◌, ◌+◌, take, length}
use Rattle.std.specs.List.{flat_map}
use Rattle.name_tree.specs.Path.{canon_byte}
use Rattle.name_tree.proofs.path.left_after.Given as goal

abbrev pub invariant-loop-b : goal.invariant-loop-b
invariant-loop-b l = l.left + (1 + length (flat_map canon_byte (take l.b-index l.label))) ≡ l.most
