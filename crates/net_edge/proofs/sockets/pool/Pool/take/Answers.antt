use Rattle.std.proofs.Common.{ap, arith}
use Rattle.line_base.proofs.Kept.{some_same, some_taken, some_trans, takes_out_by}
use Rattle.net_edge.specs.Pools.{address_of, addresses}
use Rattle.net_edge.proofs.Pools.{left_fewer, takes_from}
use Rattle.net_edge.proofs.sockets.pool.Pool.take.Goals as goal

pub returns-in-Some-clause-taken : goal.returns-in-Some-clause-taken
returns-in-Some-clause-taken g c =
    takes_from (c.args.ip, c.args.port) (addresses c.args.self.now.kept.items)
    (addresses c.end_idle.new.kept.items) (addresses c.take_out.new.kept.items) c.end_idle.ensures
    (takes_out_by address_of c.in-Some.idle c.args.ip c.args.port c.end_idle.new.kept.items
    c.take_out.new.kept.items c.in-Some.ensures.there.0 c.in-Some.ensures.there.1
    c.in-Some.ensures.taken)

pub returns-in-Some-clause-others : goal.returns-in-Some-clause-others
returns-in-Some-clause-others g c =
    some_trans (addresses c.take_out.new.kept.items) (addresses c.end_idle.new.kept.items)
    (addresses c.args.self.now.kept.items)
    (some_taken address_of c.in-Some.idle c.end_idle.new.kept.items c.take_out.new.kept.items
    c.in-Some.ensures.taken) c.end_idle.ensures

pub returns-in-None-clause-others : goal.returns-in-None-clause-others
returns-in-None-clause-others g c =
    some_trans (addresses c.take_out.new.kept.items) (addresses c.end_idle.new.kept.items)
    (addresses c.args.self.now.kept.items)
    (some_same (addresses c.take_out.new.kept.items) (addresses c.end_idle.new.kept.items)
    (ap addresses c.in-None.ensures.none)) c.end_idle.ensures

pub invariant_of-self : goal.invariant_of-self
invariant_of-self g c =
    let left = left_fewer c.args.self.now.kept.items c.end_idle.new.kept.items c.end_idle.ensures in
    record { few = omega (arith, c.take_out.ensures.fewer, left, c.args.self.now.few) }
