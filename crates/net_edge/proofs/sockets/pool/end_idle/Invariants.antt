use Rattle.line_base.specs.Dials.{AreSomeOf}
use Rattle.net_edge.specs.Pools.{addresses}
use Rattle.net_edge.proofs.sockets.pool.end_idle.Given as goal

abbrev pub invariant-earliest : goal.invariant-earliest
invariant-earliest g l = AreSomeOf (addresses l.kept.items) (addresses l.fn.kept.items)
