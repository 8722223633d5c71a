use Rattle.std.proofs.Common.{refl}
use Rattle.router.specs.Passes.{number_in}
use Rattle.std.specs.Prelude.{Option}
use Rattle.line_base.specs.declared.socket_address.SocketAddress.{SocketAddress}
use Rattle.line_base.specs.Dials.{Upstream}
use Rattle.line_base.specs.Lines.{Line}
use Rattle.serving.specs.declared.policy.Policy.{Policy}
use Rattle.std.specs.Borrow.{Bor}
use Rattle.serving.specs.Jobs.{going_of}
use Rattle.serving.specs.Sessions.{Attends}
use Rattle.serving.specs.declared.proxy.ProxyServer.{ProxyServer}
use Rattle.serving.proofs.Chains.{chain_shows, each_same}
use Rattle.serving.proofs.job.ProxyJob+L+P+J+L+D+C+K+S+A+B.serve.Goals as goal

pub returns : goal.returns
returns g c =
    let did = c.serve_all-end.ensures in
    let turns = did.works.0 in
    let works = did.works.1 in
    let line_of = λ (p : g.row.L-P.Denot). let l : Line = g.L.P.Peer.line p in l in
    let address_of = λ (p : g.row.L-P.Denot). let a : Option SocketAddress =
    g.L.P.Peer.address p in a in
    let upstream = λ (d : g.row.D.Denot). let u : Upstream = g.D.Dialer.upstream d in u in
    record {
      turns = turns;
      serves = chain_shows _
          (λ (s : ProxyServer g.row.J.Denot g.row.D.Denot g.row.C.Denot g.row.K.Denot g.J.Handling
          g.J.Naming).
          going_of upstream g.C.Clock.to_come s)
          (λ (s : ProxyServer g.row.J.Denot g.row.D.Denot g.row.C.Denot g.row.K.Denot g.J.Handling
          g.J.Naming).
          s.policy) (λ (r : Bor Policy) s t v.
          Attends line_of address_of g.K.Recorder g.J.Naming.settings r.now s t v)
          (λ s t v is. (is.0, is.1)) _ _ turns _ refl works.turns;
      lends = works.lends;
      hands = works.hands;
      ends = did.ends;
      stops = c.stop_if_failing.ensures;
      number = each_same _
          (λ (s : ProxyServer g.row.J.Denot g.row.D.Denot g.row.C.Denot g.row.K.Denot g.J.Handling
          g.J.Naming).
          number_in s.server.pass) (λ s t v is. is.2) _ turns _ works.turns;
    }
