use Rattle.replica_try.proofs.Speaking.{speaks_on, stops_in_body}
use Rattle.replica_try.proofs.trying.Try.converse.Goals as goal

pub returns-in-Err-clause-spoke : goal.returns-in-Err-clause-spoke
returns-in-Err-clause-spoke g c =
    let e = c.pass_body-passed.ensures in
    let b = e.body in
    stops_in_body c.args.self.now.head.now c.args.way.now.out.items c.args.self.now.framing
    c.args.self.now.last (g.P.Peer.line c.args.peer.now) c.args.rest.now
    c.pass_body-passed.new.rest
    (g.D.Dialer.upstream c.args.way.now.dialer).faults
    (g.D.Dialer.upstream c.pass_body-passed.new.dialer).faults
    (g.D.Dialer.upstream c.args.way.now.dialer).log
    (g.D.Dialer.upstream c.pass_body-passed.new.dialer).log b.1
    (g.P.Peer.line c.pass_body-passed.new.peer)
    c.in-Err.end c.of_body.result c.pass_body-passed.result.end b.3
    (record {
      came = b.0;
      count = c.pass_body-passed.result.count;
      taken = b.2;
      passes = b.4;
      ends = e.ends;
      none_left = e.none_left;
      reads = e.reads;
      sends = e.sends;
      never = e.never;
      given = e.peer_stays.given;
      writes = e.peer_stays.write_faults;
      closings = e.peer_stays.closings;
      quiets = e.peer_stays.quiets;
    })
    c.in-Err.is c.of_body.ensures

pub returns-in-Ok-clause-spoke : goal.returns-in-Ok-clause-spoke
returns-in-Ok-clause-spoke g c =
    let e = c.pass_body-passed.ensures in
    let b = e.body in
    speaks_on c.args.self.now.head.now c.args.way.now.out.items c.args.self.now.framing
    c.args.self.now.last (g.P.Peer.line c.args.peer.now) c.args.rest.now
    c.pass_body-passed.new.rest
    (g.D.Dialer.upstream c.args.way.now.dialer).faults
    (g.D.Dialer.upstream c.pass_body-passed.new.dialer).faults
    (g.D.Dialer.upstream c.args.way.now.dialer).log
    (g.D.Dialer.upstream c.pass_body-passed.new.dialer).log b.1
    (g.P.Peer.line c.pass_body-passed.new.peer)
    (g.P.Peer.line c.receive_reply.new.peer)
    c.in-Ok.sent (g.D.Dialer.upstream c.receive_reply.new.way.dialer).faults
    (g.D.Dialer.upstream c.receive_reply.new.way.dialer).log c.receive_reply.result
    c.pass_body-passed.result.end b.3
    (record {
      came = b.0;
      count = c.pass_body-passed.result.count;
      taken = b.2;
      passes = b.4;
      ends = e.ends;
      none_left = e.none_left;
      reads = e.reads;
      sends = e.sends;
      never = e.never;
      given = e.peer_stays.given;
      writes = e.peer_stays.write_faults;
      closings = e.peer_stays.closings;
      quiets = e.peer_stays.quiets;
    })
    c.in-Ok.is c.receive_reply.ensures.replies
