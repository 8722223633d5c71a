use Rattle.std.proofs.Common.{Ok, Err}
use Rattle.http_wire.proofs.Coming.{read_off}
use Rattle.http_wire.proofs.next.read_next_head.Goals as goal

pub returns-in-Ok : goal.returns-in-Ok
returns-in-Ok g c =
    let e = c.in-Ok.ensures in
    read_off (g.P.Peer.line c.args.peer.now) (g.P.Peer.line c.await_begin.new.peer)
    (g.P.Peer.line c.read_request_head.new.peer) c.args.rest.now c.await_begin.new.rest
    c.read_request_head.new.rest (Ok c.in-Ok.head) c.in-Begun.ensures e.head e.causes e.others

pub returns-in-Err : goal.returns-in-Err
returns-in-Err g c =
    let e = c.in-Err.ensures in
    read_off (g.P.Peer.line c.args.peer.now) (g.P.Peer.line c.await_begin.new.peer)
    (g.P.Peer.line c.read_request_head.new.peer) c.args.rest.now c.await_begin.new.rest
    c.read_request_head.new.rest (Err c.in-Err.end) c.in-Begun.ensures e.head e.causes e.others
