use Rattle.std.proofs.Common.{refl}
use Rattle.proxy_session.specs.Sought.{sought_of}
use Rattle.proxy_session.specs.Standing.{standing}
use Rattle.proxy_session.proofs.Attempting.{refused_request, routed_request}
use Rattle.proxy_session.proofs.Exchanging.{refused_so}
use Rattle.replica_try.proofs.Resting.{idle_same}
use Rattle.proxy_session.proofs.Splitting.{request_cause, request_closed, request_fits}
use Rattle.proxy_session.proofs.Splitting.{request_number}
use Rattle.proxy_session.proofs.server.Server.proxy_once.Goals as goal

pub returns-in-Ok-clause-exchange : goal.returns-in-Ok-clause-exchange
returns-in-Ok-clause-exchange g c =
    let at = standing g.P.Peer.line g.D.Dialer.upstream g.C.Clock.to_come in
    routed_request g.J.Naming.settings c.args.context.now.rule.now c.args.head.now c.args.last
    c.args.connection.now.budget c.pay.new.budget c.route.new.connection.budget
    (at c.args.connection.now c.args.self.now)
    (at c.route.new.connection c.route.new.self) c.route.result.end c.route.result.name
    c.route.result.done (sought_of c.in-Ok.request) c.pay.ensures c.in-Ok.ensures.seeks
    c.route.ensures.name c.route.ensures.routes

pub returns-in-Ok-clause-cause : goal.returns-in-Ok-clause-cause
returns-in-Ok-clause-cause g c =
    let at = standing g.P.Peer.line g.D.Dialer.upstream g.C.Clock.to_come in
    let r = returns-in-Ok-clause-exchange g c in
    request_cause g.J.Naming.settings c.args.context.now.rule.now c.args.head.now c.args.last r.0
    c.args.connection.now.budget c.route.new.connection.budget
    (at c.args.connection.now c.args.self.now)
    (at c.route.new.connection c.route.new.self) c.route.result.end r.1.0

pub returns-in-Ok-clause-last : goal.returns-in-Ok-clause-last
returns-in-Ok-clause-last g c =
    let at = standing g.P.Peer.line g.D.Dialer.upstream g.C.Clock.to_come in
    let r = returns-in-Ok-clause-exchange g c in
    request_fits g.J.Naming.settings c.args.context.now.rule.now c.args.head.now c.args.last r.0
    c.args.connection.now.budget c.route.new.connection.budget
    (at c.args.connection.now c.args.self.now)
    (at c.route.new.connection c.route.new.self) c.route.result.end r.1.0

pub returns-in-Ok-clause-closed : goal.returns-in-Ok-clause-closed
returns-in-Ok-clause-closed g c =
    let at = standing g.P.Peer.line g.D.Dialer.upstream g.C.Clock.to_come in
    let r = returns-in-Ok-clause-exchange g c in
    request_closed g.J.Naming.settings c.args.context.now.rule.now c.args.head.now c.args.last r.0
    c.args.connection.now.budget c.route.new.connection.budget
    (at c.args.connection.now c.args.self.now)
    (at c.route.new.connection c.route.new.self) c.route.result.end r.1.0

pub returns-in-Ok-clause-number : goal.returns-in-Ok-clause-number
returns-in-Ok-clause-number g c =
    let at = standing g.P.Peer.line g.D.Dialer.upstream g.C.Clock.to_come in
    let r = returns-in-Ok-clause-exchange g c in
    request_number g.J.Naming.settings c.args.context.now.rule.now c.args.head.now c.args.last r.0
    c.args.connection.now.budget c.route.new.connection.budget
    (at c.args.connection.now c.args.self.now)
    (at c.route.new.connection c.route.new.self) c.route.result.end r.1.0

pub returns-in-Err-clause-exchange : goal.returns-in-Err-clause-exchange
returns-in-Err-clause-exchange g c =
    let at = standing g.P.Peer.line g.D.Dialer.upstream g.C.Clock.to_come in
    let new = at (record {
      peer = c.refuse_request.new.peer;
      client = c.args.connection.now.client;
      served = c.args.connection.now.served;
      budget = c.pay.new.budget;
    }) c.args.self.now in
    refused_request g.J.Naming.settings c.args.context.now.rule.now c.args.head.now c.args.last
    c.args.connection.now.budget c.pay.new.budget
    (at c.args.connection.now c.args.self.now) new c.refuse_request.result.end
    c.refuse_request.result.name c.refuse_request.result.done c.pay.ensures
    (refused_so g.J.Naming.settings c.args.context.now.rule.now c.args.head.now c.args.last
    c.pay.new.budget
    (at c.args.connection.now c.args.self.now) new c.refuse_request.result.end
    c.refuse_request.result.name c.refuse_request.result.done c.in-Err.refusal
    c.in-Err.ensures.seeks
    (record {
      away = record {
        kept = refl;
        upstream = idle_same (g.D.Dialer.upstream c.args.self.now.way.dialer);
      };
      caller = refl;
      moments = refl;
      words = refl;
    })
    c.refuse_request.ensures.refuses c.refuse_request.ensures.name
    c.refuse_request.ensures.done)

pub returns-in-Err-clause-cause : goal.returns-in-Err-clause-cause
returns-in-Err-clause-cause g c =
    let at = standing g.P.Peer.line g.D.Dialer.upstream g.C.Clock.to_come in
    let r = returns-in-Err-clause-exchange g c in
    request_cause g.J.Naming.settings c.args.context.now.rule.now c.args.head.now c.args.last r.0
    c.args.connection.now.budget c.pay.new.budget
    (at c.args.connection.now c.args.self.now)
    (at (record {
      peer = c.refuse_request.new.peer;
      client = c.args.connection.now.client;
      served = c.args.connection.now.served;
      budget = c.pay.new.budget;
    }) c.args.self.now) c.refuse_request.result.end r.1.0

pub returns-in-Err-clause-last : goal.returns-in-Err-clause-last
returns-in-Err-clause-last g c =
    let at = standing g.P.Peer.line g.D.Dialer.upstream g.C.Clock.to_come in
    let r = returns-in-Err-clause-exchange g c in
    request_fits g.J.Naming.settings c.args.context.now.rule.now c.args.head.now c.args.last r.0
    c.args.connection.now.budget c.pay.new.budget
    (at c.args.connection.now c.args.self.now)
    (at (record {
      peer = c.refuse_request.new.peer;
      client = c.args.connection.now.client;
      served = c.args.connection.now.served;
      budget = c.pay.new.budget;
    }) c.args.self.now) c.refuse_request.result.end r.1.0
