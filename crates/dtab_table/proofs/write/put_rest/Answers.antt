use Rattle.dtab_table.proofs.TableWriting.{entries_grown}
use Rattle.dtab_table.proofs.write.put_rest.Goals as goal

pub loop-entry-preserved : goal.loop-entry-preserved
loop-entry-preserved c = entries_grown _ _ c.entry-item.result _ _ _ _ c.loop-entry-test.true
    c.entry-item.is c.loop-entry.invariant c.in_ok-push.ensures.items c.in_ok-put_entry.ensures
