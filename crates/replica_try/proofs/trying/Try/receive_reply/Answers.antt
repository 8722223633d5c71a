use Rattle.replica_try.proofs.Resting.{rests_same}
use Rattle.replica_try.proofs.Speaking.{hears_none, hears_one}
use Rattle.replica_try.proofs.trying.Try.receive_reply.Goals as goal

pub returns-in-Err-clause-replies : goal.returns-in-Err-clause-replies
returns-in-Err-clause-replies g c =
    let h = c.in-Err.ensures.hears in
    hears_none c.args.self.now.head.now c.args.self.now.last c.args.sent
    (g.P.Peer.line c.args.peer.now)
    (g.D.Dialer.upstream c.args.way.now.dialer).faults
    (g.D.Dialer.upstream c.receive_final.new.dialer).faults
    (g.D.Dialer.upstream c.args.way.now.dialer).log
    (g.D.Dialer.upstream c.receive_final.new.dialer).log c.clear.new.self c.receive_final.new.rest
    c.clear.ensures (g.P.Peer.line c.args.peer.now) c.in-Err.fault c.of_head.result h.0 h.1 h.2
    (rests_same (g.P.Peer.line c.args.peer.now)) c.of_head.ensures

pub returns-in-Ok-clause-replies : goal.returns-in-Ok-clause-replies
returns-in-Ok-clause-replies g c =
    let h = c.in-Ok.ensures.hears in
    let b = c.pass_reply-tried.ensures.backs in
    hears_one c.args.self.now.head.now c.args.self.now.last c.args.sent
    (g.P.Peer.line c.args.peer.now)
    (g.D.Dialer.upstream c.args.way.now.dialer).faults
    (g.D.Dialer.upstream c.receive_final.new.dialer).faults
    (g.D.Dialer.upstream c.args.way.now.dialer).log
    (g.D.Dialer.upstream c.receive_final.new.dialer).log c.clear.new.self c.receive_final.new.rest
    c.clear.ensures (g.P.Peer.line c.pass_reply-tried.new.peer) c.in-Ok.reply c.in-Ok.framing
    (g.D.Dialer.upstream c.pass_reply-tried.new.way.dialer).faults
    (g.D.Dialer.upstream c.pass_reply-tried.new.way.dialer).log c.pass_reply-tried.result h.0 h.1
    h.2 b.0
    b.1 b.2
