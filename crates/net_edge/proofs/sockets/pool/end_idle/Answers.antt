use Rattle.line_base.proofs.Kept.{some_all, some_trans}
use Rattle.net_edge.specs.Pools.{addresses}
use Rattle.net_edge.proofs.sockets.pool.end_idle.Goals as goal

pub earliest-init : goal.earliest-init
earliest-init g c = some_all (addresses c.args.kept.now.items)

pub earliest-preserved : goal.earliest-preserved
earliest-preserved g c =
    some_trans (addresses c.end_first.new.kept.items) (addresses c.earliest.kept.items)
    (addresses c.args.kept.now.items) c.end_first.ensures.others c.earliest.invariant
