use Rattle.std.proofs.Common.{ap, arith}
use Rattle.line_base.proofs.Kept.{some_same, some_taken, some_trans}
use Rattle.net_edge.specs.Pools.{address_of, addresses}
use Rattle.net_edge.proofs.Pools.{taken_fewer}
use Rattle.net_edge.proofs.sockets.pool.make_room.Goals as goal

pub returns-in-Some-clause-others : goal.returns-in-Some-clause-others
returns-in-Some-clause-others c =
    some_taken address_of c.in-Some.idle c.args.kept.now.items c.take_out.new.kept.items
    c.in-Some.ensures.taken

pub returns-in-None-clause-others : goal.returns-in-None-clause-others
returns-in-None-clause-others c =
    some_trans (addresses c.end_first.new.kept.items) (addresses c.take_out.new.kept.items)
    (addresses c.args.kept.now.items) c.end_first.ensures.others
    (some_same (addresses c.take_out.new.kept.items) (addresses c.args.kept.now.items)
    (ap addresses c.in-None.ensures.none))

pub returns-in-None-2-clause-others : goal.returns-in-None-2-clause-others
returns-in-None-2-clause-others c =
    some_same (addresses c.take_out.new.kept.items) (addresses c.args.kept.now.items)
    (ap addresses c.in-None-2.ensures.none)

pub returns-in-Some-clause-room : goal.returns-in-Some-clause-room
returns-in-Some-clause-room c =
    let fewer = taken_fewer c.in-Some.idle c.args.kept.now.items c.take_out.new.kept.items
    c.in-Some.ensures.taken in
    omega (arith, fewer, c.requires.few)
