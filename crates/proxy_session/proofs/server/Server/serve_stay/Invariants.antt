use Rattle.std.proofs.Common.{◌≡◌, ◌<◌, ◌-◌, List, None}
use Rattle.exchange_record.specs.Told.{Records, Told}
use Rattle.router.specs.Passes.{slot_in}
use Rattle.proxy_session.specs.Session.{begun}
use Rattle.proxy_session.specs.Standing.{standing}
use Rattle.proxy_session.proofs.Serving.{ServedSoFar}
use Rattle.proxy_session.proofs.server.Server.serve_stay.Given as goal

abbrev pub invariant-requests : goal.invariant-requests
invariant-requests g l = record {
  few : l.connection.served < 10000;
  client : l.connection.client ≡ l.fn.connection.client;
  served :
      (told : List Told)
      × ServedSoFar g.J.Naming.settings l.fn.context.rule.now l.fn.connection.client
      l.fn.connection.served l.connection.served l.fn.connection.budget
      l.connection.budget
      (begun (standing g.P.Peer.line g.D.Dialer.upstream g.C.Clock.to_come l.fn.connection
      l.fn.self))
      (standing g.P.Peer.line g.D.Dialer.upstream g.C.Clock.to_come l.connection l.self) told
      × Records g.K.Recorder.begins g.K.Recorder.ends l.fn.recorder told l.recorder;
  slot : slot_in l.self.pass ≡ None;
}

abbrev pub decreases-requests : goal.decreases-requests
decreases-requests g l = 10000 - l.connection.served
