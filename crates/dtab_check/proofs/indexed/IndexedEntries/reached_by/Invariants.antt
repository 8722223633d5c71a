use Rattle.std.proofs.Common.{◌≡◌, map, take}
use Rattle.dtab_table.specs.Rules.{rule_of}
use Rattle.dtab_check.specs.Live.{paths_of, reached_by}
use Rattle.dtab_check.proofs.indexed.IndexedEntries.reached_by.Given as goal

abbrev pub invariant-loop-place : goal.invariant-loop-place
invariant-loop-place l = l.row.items
    ≡ take l.place-index (reached_by (paths_of l.leaves) (map rule_of l.self.entries.now))
