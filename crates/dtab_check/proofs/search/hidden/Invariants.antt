use Rattle.std.proofs.Common.{◌≡◌, ◌++◌, map, drop}
use Rattle.dtab_table.specs.Rules.{rule_of}
use Rattle.dtab_check.specs.Sure.{is_sure}
use Rattle.dtab_check.specs.Hidden.{hidden_from, hidden_in}
use Rattle.dtab_check.proofs.search.hidden.Given as goal

abbrev pub invariant-loop-at : goal.invariant-loop-at
invariant-loop-at l = l.items.items ++ hidden_from (is_sure (map rule_of l.entries)) l.at
    (drop l.at (map rule_of l.entries)) ≡ hidden_in (map rule_of l.entries)
