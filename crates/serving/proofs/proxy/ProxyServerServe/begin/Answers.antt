use Rattle.std.proofs.Common.{ℕ, List}
use Rattle.std.specs.Prelude.{Option}
use Rattle.line_base.specs.declared.socket_address.SocketAddress.{SocketAddress}
use Rattle.line_base.specs.Dials.{Upstream}
use Rattle.line_base.specs.Lines.{Line}
use Rattle.serving.specs.Sessions.{going_by}
use Rattle.serving.proofs.Attending.{begins}
use Rattle.serving.proofs.proxy.ProxyServerServe.begin.Goals as goal

pub returns : goal.returns
returns g c =
    let line_of = λ (p : g.row.P.Denot). let l : Line = g.P.Peer.line p in l in
    let address_of = λ (p : g.row.P.Denot).
    let a : Option SocketAddress = g.P.Peer.address p in a in
    let upstream = λ (d : g.row.D.Denot). let u : Upstream = g.D.Dialer.upstream d in u in
    let moments = λ (k : g.row.C.Denot). let m : Option (List ℕ) = g.C.Clock.to_come k in m in
    let old = c.args.self.now in
    let new = c.serve.new.self in
    let served = c.serve.ensures in (
      begins line_of address_of g.K.Recorder g.J.Naming.settings old.policy.now
          (going_by upstream moments old.server old.lacked_memory old.recorder)
          (going_by upstream moments new.server new.lacked_memory new.recorder)
          c.step.new.self c.args.peer _ c.came-client.result c.step.ensures
          c.came-client.ensures served.served,
      served.policy,
      served.number,
    )
