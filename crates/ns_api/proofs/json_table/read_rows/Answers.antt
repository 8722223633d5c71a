use Rattle.ns_api.proofs.Rows.{one_longer, row_read}
use Rattle.ns_api.proofs.json_table.read_rows.Goals as goal

pub loop-row-preserved : goal.loop-row-preserved
loop-row-preserved c =
    let i = c.loop-row.row-index in
    let read = c.in_ok-read_row.field-0 in
    let items = c.loop-row.entries.items in
    let new = c.push.new.self.items in
    let before = c.loop-row.invariant in
    record {
      rules =
          row_read c.args.rows.now i c.row-item.result items new read c.loop-row-test.true
          c.row-item.is before.rules c.in_ok-read_row.ensures c.in_ok-push.ensures.items;
      count = one_longer items new read i before.count c.in_ok-push.ensures.items;
    }
