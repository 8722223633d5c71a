use Rattle.std.proofs.Common.{◌≡◌, drop, length, map}
use Rattle.serde_json.specs.View.{view}
use Rattle.dtab_table.specs.Rules.{rule_of}
use Rattle.ns_api.specs.JsonTable.{row_rules}
use Rattle.ns_api.proofs.Rows.{behind}
use Rattle.ns_api.proofs.json_table.read_rows.Given as goal

abbrev pub invariant-loop-row : goal.invariant-loop-row
invariant-loop-row l = record {
  rules : row_rules (map view l.rows)
      ≡ behind (map rule_of l.entries.items) (row_rules (map view (drop l.row-index l.rows)));
  count : length l.entries.items ≡ l.row-index;
}
