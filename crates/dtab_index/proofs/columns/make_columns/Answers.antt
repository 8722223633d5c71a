use Rattle.dtab_index.proofs.Known.{keep_pushed}
use Rattle.dtab_index.proofs.columns.make_columns.Goals as goal

pub loop-alloc-preserved : goal.loop-alloc-preserved
loop-alloc-preserved c = λ place.
    keep_pushed place c.args.columns.now.items c.loop-alloc.columns.items c.push.new.self.items
    c.new.result (c.loop-alloc.invariant place) c.in_ok-push.ensures.items (c.new.ensures place)
