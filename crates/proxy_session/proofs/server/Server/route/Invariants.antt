use Rattle.std.proofs.Common.{◌≡◌, ◌+◌, ◌<◌, ◌^◌, ℕ, None}
use Rattle.router.specs.Passes.{slot_in}
use Rattle.proxy_session.specs.Attempts.{most_of}
use Rattle.proxy_session.specs.Done.{CountsUpTo}
use Rattle.proxy_session.specs.Sought.{sought_of}
use Rattle.proxy_session.specs.Standing.{standing}
use Rattle.proxy_session.proofs.Attempting.{FailedAs}
use Rattle.proxy_session.proofs.server.Server.route.Given as goal

abbrev pub invariant-attempts : goal.invariant-attempts
invariant-attempts g l = record {
  failed :
      (retries : ℕ) × (retries + l.left ≡ most_of l.connection.budget)
      × FailedAs g.J.Naming.settings l.fn.head l.fn.last (sought_of l.fn.request) retries
      l.fn.connection.budget
      l.connection.budget
      (standing g.P.Peer.line g.D.Dialer.upstream g.C.Clock.to_come l.fn.connection l.fn.self)
      (standing g.P.Peer.line g.D.Dialer.upstream g.C.Clock.to_come l.connection l.self)
      l.so_far
      × CountsUpTo retries l.so_far × (retries + l.left < 2 ^ 32);
  seeks : sought_of l.request ≡ sought_of l.fn.request;
  slot : slot_in l.self.pass ≡ None;
  client : l.connection.client ≡ l.fn.connection.client;
  served : l.connection.served ≡ l.fn.connection.served;
}

abbrev pub decreases-attempts : goal.decreases-attempts
decreases-attempts g l = l.left
