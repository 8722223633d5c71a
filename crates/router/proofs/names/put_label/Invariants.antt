use Rattle.std.proofs.Common.{◌≡◌, ◌≤◌, ◌+◌, ◌++◌, ◌∷◌, take, drop, length, vec_len, vec_capacity}
use Rattle.std.specs.List.{flat_map}
use Rattle.name_tree.specs.Path.{slash, canon_byte}
use Rattle.router.proofs.names.put_label.Given as goal

abbrev pub invariant-loop-byte : goal.invariant-loop-byte
invariant-loop-byte l = record {
  written : l.out.items ≡ l.fn.out.items ++ slash ∷ flat_map canon_byte (take l.byte-index l.label);
  room : vec_len l.out + length (flat_map canon_byte (drop l.byte-index l.label))
      ≤ vec_capacity l.out;
  same : vec_capacity l.out ≡ vec_capacity l.fn.out;
}
