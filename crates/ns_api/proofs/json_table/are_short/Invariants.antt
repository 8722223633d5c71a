use Rattle.std.proofs.Common.{◌≡◌, drop, map}
use Rattle.std.specs.Prelude.{nat_le, sum_by}
use Rattle.serde_json.specs.View.{view}
use Rattle.ns_api.specs.JsonTable.{row_size}
use Rattle.ns_api.proofs.json_table.are_short.Given as goal

abbrev pub invariant-loop-row : goal.invariant-loop-row
invariant-loop-row l =
    nat_le (sum_by row_size (map view (drop l.row-index l.rows))) l.room
    ≡ nat_le (sum_by row_size (map view l.rows)) 65536
