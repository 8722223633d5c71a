use Rattle.std.proofs.Common.{◌≡◌, ◌≤◌, ◌++◌, length, map, drop}
use Rattle.std.specs.List.{All}
use Rattle.dtab_table.specs.Dtab.{rewrites, rewritten_by_each}
use Rattle.dtab_table.specs.Rules.{rule_of}
use Rattle.dtab_table.proofs.Rewriting.{trees_at}
use Rattle.dtab_table.proofs.lending.lend_entries.Given as goal

abbrev pub invariant-loop-at : goal.invariant-loop-at
invariant-loop-at l = record {
  trees : rewritten_by_each l.path l.found.items ++ trees_at l.entries l.path
      (drop l.at-index l.at-items) ≡ rewrites (map rule_of l.entries) l.path;
  long : All (λ entry. length entry.now.prefix ≤ length l.path) l.found.items;
}
