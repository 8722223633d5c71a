use Rattle.std.proofs.Common.{ℕ, List, refl}
use Rattle.std.specs.Prelude.{Option}
use Rattle.line_base.specs.declared.socket_address.SocketAddress.{SocketAddress}
use Rattle.line_base.specs.Dials.{Upstream}
use Rattle.line_base.specs.Lines.{Line}
use Rattle.serving.specs.Sessions.{going_by}
use Rattle.serving.proofs.Attending.{chain_by, ends}
use Rattle.serving.proofs.proxy.ProxyServerServe.end.Goals as goal

pub returns : goal.returns
returns g c =
    let line_of = λ (p : g.row.P.Denot). let l : Line = g.P.Peer.line p in l in
    let address_of = λ (p : g.row.P.Denot).
    let a : Option SocketAddress = g.P.Peer.address p in a in
    let upstream = λ (d : g.row.D.Denot). let u : Upstream = g.D.Dialer.upstream d in u in
    let moments = λ (k : g.row.C.Denot). let m : Option (List ℕ) = g.C.Clock.to_come k in m in
    let old = c.args.self.now in
    let ended = c.end.ensures in (
      ends line_of address_of g.K.Recorder g.J.Naming.settings old.policy.now
          (going_by upstream moments old.server old.lacked_memory old.recorder)
          (going_by upstream moments old.server old.lacked_memory c.step-2.new.self)
          c.step.new.self c.args.stay _
          (chain_by g.J.Naming.settings old.policy.now g.J.Handling.rule g.J.Handling.tries
          c.args.stay old.rule old.tries ended.chain) c.step.ensures ended.line
          c.step-2.ensures refl,
      refl,
      refl,
    )
