use Rattle.dtab_table.proofs.Placing.{all_below, one_more}
use Rattle.dtab_table.proofs.places.index_all.Goals as goal

pub add-requires : goal.add-requires
add-requires c = all_below c.args.entries.now c.loop-at.at c.loop-at.index c.loop-at-test.true
    c.loop-at.invariant

pub loop-at-preserved : goal.loop-at-preserved
loop-at-preserved c =
    one_more c.args.entries.now c.loop-at.at c.index-entries-at.result c.loop-at.index
    c.add.new.self _ c.loop-at-test.true c.index-entries-at.is c.loop-at.invariant
    c.in_ok-patterns.ensures c.in_ok-add.ensures.ok
