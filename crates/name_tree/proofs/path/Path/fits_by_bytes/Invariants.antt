use Rattle.std.proofs.Common.{◌≡◌, ◌+◌, take, length}
use Rattle.std.specs.List.{flat_map}
use Rattle.name_tree.specs.Path.{canon_label}
use Rattle.name_tree.proofs.path.Path.fits_by_bytes.Given as goal

abbrev pub invariant-loop-at : goal.invariant-loop-at
invariant-loop-at l = l.left + length (flat_map canon_label (take l.at l.self)) ≡ l.most
