use Rattle.std.proofs.Common.{◌≡◌, ◌++◌, map, take}
use Rattle.std.specs.List.{flat_map}
use Rattle.dtab_table.specs.Pattern.{pattern_of}
use Rattle.dtab_table.specs.TableCanon.{canon_pattern}
use Rattle.dtab_table.proofs.write.put_prefix.Given as goal

abbrev pub invariant-loop-label : goal.invariant-loop-label
invariant-loop-label l = l.out.items ≡ l.fn.out.items
    ++ flat_map canon_pattern (map pattern_of (take l.label-index l.label-items))
