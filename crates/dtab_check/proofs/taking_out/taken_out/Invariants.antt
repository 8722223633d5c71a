use Rattle.std.proofs.Common.{◌≡◌, ◌≤◌, ◌++◌, length, map, drop}
use Rattle.dtab_table.specs.Rules.{rule_of}
use Rattle.dtab_check.specs.Hidden.{without_from, without}
use Rattle.dtab_check.proofs.taking_out.taken_out.Given as goal

abbrev pub invariant-loop-at : goal.invariant-loop-at
invariant-loop-at l = record {
  kept : map rule_of l.kept.items ++ without_from l.at l.list (drop l.at (map rule_of l.entries))
      ≡ without l.list (map rule_of l.entries);
  few : length l.kept.items ≤ l.at;
}
