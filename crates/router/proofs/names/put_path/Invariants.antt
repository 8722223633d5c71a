use Rattle.std.proofs.Common.{◌≡◌, ◌≤◌, ◌+◌, ◌++◌, take, drop, length, vec_len, vec_capacity}
use Rattle.std.specs.List.{flat_map}
use Rattle.name_tree.specs.Path.{canon_label}
use Rattle.router.proofs.names.put_path.Given as goal

abbrev pub invariant-loop-at : goal.invariant-loop-at
invariant-loop-at l = record {
  written : l.out.items ≡ l.fn.out.items ++ flat_map canon_label (take l.at l.path);
  room : vec_len l.out + length (flat_map canon_label (drop l.at l.path)) ≤ vec_capacity l.out;
  same : vec_capacity l.out ≡ vec_capacity l.fn.out;
}
