use Rattle.std.proofs.Common.{◌≡◌, map, take}
use Rattle.dtab_table.specs.Rules.{rule_of}
use Rattle.dtab_check.specs.Live.{leaves_in, stops_in, reached_by}
use Rattle.dtab_check.proofs.sure.sure_entries.Given as goal

abbrev pub invariant-loop-entry : goal.invariant-loop-entry
invariant-loop-entry l = record {
  own : l.own.items ≡ map (λ r. stops_in r.tree) (map rule_of (take l.entry-index l.entries));
  rows : map (λ row. row.items) l.rows.items
      ≡ map (λ r. reached_by (leaves_in r.tree) (map rule_of l.entries))
      (map rule_of (take l.entry-index l.entries));
}
