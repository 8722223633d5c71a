use Rattle.std.proofs.Common.{◌≡◌, map, take}
use Rattle.dtab_table.specs.Pattern.{pattern_of}
use Rattle.dtab_table.proofs.prefix.Prefix.copied.Given as goal

abbrev pub invariant-loop-label : goal.invariant-loop-label
invariant-loop-label l = map pattern_of l.labels.items
    ≡ map pattern_of (take l.label-index l.label-items)
