use Rattle.std.proofs.Common.{◌≡◌, map, take}
use Rattle.dtab_index.specs.Prefix.{patterns_of as indexed}
use Rattle.dtab_table.specs.Pattern.{pattern_of}
use Rattle.dtab_table.proofs.prefix.Prefix.patterns.Given as goal

abbrev pub invariant-loop-label : goal.invariant-loop-label
invariant-loop-label l = indexed l.patterns.items
    ≡ map pattern_of (take l.label-index l.label-items)
