use Rattle.std.proofs.Common.{arith}
use Rattle.net_edge.specs.Pools.{addresses}
use Rattle.net_edge.proofs.Pools.{left_fewer, puts_behind}
use Rattle.net_edge.proofs.sockets.pool.Pool.put.Goals as goal

pub returns-clause-put : goal.returns-clause-put
returns-clause-put g c =
    puts_behind (c.args.upstream.ip, c.args.upstream.port) (addresses c.args.self.now.kept.items)
    (addresses c.end_idle.new.kept.items) (addresses c.make_room-ended.new.kept.items)
    (addresses c.put_last.new.kept.items) c.end_idle.ensures c.make_room-ended.ensures.others
    c.put_last.ensures.put

pub make_room-ended-requires-clause-few : goal.make_room-ended-requires-clause-few
make_room-ended-requires-clause-few g c =
    let left = left_fewer c.args.self.now.kept.items c.end_idle.new.kept.items c.end_idle.ensures in
    omega (arith, left, c.args.self.now.few)
