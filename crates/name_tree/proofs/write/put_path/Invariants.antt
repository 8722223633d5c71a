use Rattle.std.proofs.Common.{◌≡◌, ◌++◌, take}
use Rattle.std.specs.List.{flat_map}
use Rattle.name_tree.specs.Path.{canon_label}
use Rattle.name_tree.proofs.write.put_path.Given as goal

abbrev pub invariant-loop-at : goal.invariant-loop-at
invariant-loop-at l = l.out.items ≡ l.fn.out.items ++ flat_map canon_label (take l.at l.path)
