use Rattle.dtab_table.proofs.LeanMatching.{leaner_more}
use Rattle.dtab_table.proofs.lean_tree.leaner_of.Goals as goal

pub loop-entry-preserved : goal.loop-entry-preserved
loop-entry-preserved c =
    leaner_more c.args.entries.now c.loop-entry.entry-index c.entry-item.result
    c.in_ok-leaner_tree.field-0 c.loop-entry.leaner.items c.push.new.self.items
    c.loop-entry-test.true c.entry-item.is
    c.in_ok-leaner_tree.ensures c.in_ok-push.ensures.items c.loop-entry.invariant
