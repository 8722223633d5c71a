use Rattle.std.proofs.Common.{◌≡◌, ◌∷◌, ◌++◌, take}
use Rattle.std.specs.List.{flat_map}
use Rattle.name_tree.specs.Path.{slash, canon_byte}
use Rattle.name_tree.proofs.write.put_label.Given as goal

abbrev pub invariant-loop-byte : goal.invariant-loop-byte
invariant-loop-byte l = l.out.items ≡ l.fn.out.items ++ slash
    ∷ flat_map canon_byte (take l.byte-index l.label)
