use Rattle.std.proofs.Common.{map, reverse}
use Rattle.dtab_table.specs.Rules.{rule_of}
use Rattle.bind_cache.proofs.Fronts.{CommonFrom}
use Rattle.bind_cache.proofs.touch.common_back.Given as goal

abbrev pub invariant-loop-count : goal.invariant-loop-count
invariant-loop-count l = CommonFrom (reverse (map rule_of l.old))
    (reverse (map rule_of l.new)) l.count
