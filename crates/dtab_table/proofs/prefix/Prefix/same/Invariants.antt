use Rattle.std.proofs.Common.{◌≡◌, map, take}
use Rattle.dtab_table.specs.Pattern.{pattern_of}
use Rattle.dtab_table.proofs.prefix.Prefix.same.Given as goal

abbrev pub invariant-loop-at : goal.invariant-loop-at
invariant-loop-at l = map pattern_of (take l.at l.label-items)
    ≡ map pattern_of (take l.at l.other-inside.labels.items)
