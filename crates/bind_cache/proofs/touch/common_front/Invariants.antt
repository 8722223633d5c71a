use Rattle.std.proofs.Common.{map}
use Rattle.dtab_table.specs.Rules.{rule_of}
use Rattle.bind_cache.proofs.Fronts.{CommonFrom}
use Rattle.bind_cache.proofs.touch.common_front.Given as goal

abbrev pub invariant-loop-count : goal.invariant-loop-count
invariant-loop-count l = CommonFrom (map rule_of l.old) (map rule_of l.new) l.count
