use Rattle.std.proofs.Common.{◌≡◌, map, drop}
use Rattle.dtab_table.specs.Rules.{rule_of}
use Rattle.bind_cache.specs.Hash.{with_rules}
use Rattle.bind_cache.proofs.hash.mix_rules.Given as goal

abbrev pub invariant-loop-entry : goal.invariant-loop-entry
invariant-loop-entry l = with_rules l.all (map rule_of (drop l.entry-index l.entries))
    ≡ with_rules l.hash (map rule_of l.entries)
