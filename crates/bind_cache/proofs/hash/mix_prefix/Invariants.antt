use Rattle.std.proofs.Common.{◌≡◌, map, drop}
use Rattle.dtab_table.specs.Pattern.{pattern_of}
use Rattle.bind_cache.specs.Hash.{with_patterns}
use Rattle.bind_cache.proofs.hash.mix_prefix.Given as goal

abbrev pub invariant-loop-label : goal.invariant-loop-label
invariant-loop-label l = with_patterns l.all (map pattern_of (drop l.label-index l.labels))
    ≡ with_patterns l.hash (map pattern_of l.labels)
