use Rattle.std.proofs.Common.{arith}
use Rattle.net_edge.proofs.Pools.{left_fewer}
use Rattle.net_edge.proofs.sockets.pool.Pool.end_idle.Goals as goal

pub invariant_of-self : goal.invariant_of-self
invariant_of-self g c =
    let left = left_fewer c.args.self.now.kept.items c.end_idle.new.kept.items c.end_idle.ensures in
    record { few = omega (arith, left, c.args.self.now.few) }
