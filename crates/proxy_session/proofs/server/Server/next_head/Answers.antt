use Rattle.proxy_session.specs.Standing.{standing}
use Rattle.proxy_session.proofs.Reading.{next_read}
use Rattle.proxy_session.proofs.server.Server.next_head.Goals as goal

pub returns-clause-reads : goal.returns-clause-reads
returns-clause-reads g c =
    let at = standing g.P.Peer.line g.D.Dialer.upstream g.C.Clock.to_come in
    next_read (at c.args.connection.now c.args.self.now)
    (g.P.Peer.line c.read_next_head.new.peer) c.read_next_head.new.rest c.read_next_head.result
    c.read_next_head.ensures
