use Rattle.std.proofs.Common.{refl, ap, Some, None, arith, [], ◌++◌, ◌+◌, ◌∙◌, eqb}
use Rattle.exchange_record.proofs.Recording.{records_on}
use Rattle.proxy_session.specs.Exchange.{Standing}
use Rattle.proxy_session.specs.Standing.{standing}
use Rattle.proxy_session.proofs.Ending.{stay_cause, stay_complete, stay_hears, stay_keeps}
use Rattle.proxy_session.proofs.Ending.{stay_spent, stay_waits}
use Rattle.proxy_session.proofs.Seeing.{stay_saw}
use Rattle.proxy_session.proofs.Serving.{few_served, for_client, none_served, one_served}
use Rattle.proxy_session.proofs.Serving.{stay_ends}
use Rattle.proxy_session.proofs.server.Server.serve_stay.Goals as goal

pub requests-init : goal.requests-init
requests-init g c = record {
  few = c.requires.few;
  client = refl;
  served = (
    [],
    rw c.clear.ensures (none_served g.J.Naming.settings c.args.context.now.rule.now
        c.args.connection.now.client c.args.connection.now.served
        c.args.connection.now.budget _),
    refl,
  );
  slot = c.requires.free;
}

pub requests-preserved : goal.requests-preserved
requests-preserved g c =
    let at = standing g.P.Peer.line g.D.Dialer.upstream g.C.Clock.to_come in
    let i = c.requests.invariant in
    let mid : Standing = at c.requests.connection c.requests.self in
    let new : Standing = at c.serve_next.new.connection c.serve_next.new.self in
    let count = c.in-None.ensures.counts refl in
    let next = c.in-None.ensures.serves in
    let by_client = for_client g.J.Naming.settings c.args.context.now.rule.now
    c.requests.connection.client c.args.connection.now.client
    (eqb (c.requests.connection.served + 1) 10000) next.0 c.requests.connection.budget
    c.serve_next.new.connection.budget mid new None next.1 i.client next.2 in
    record {
      client = c.in-None.ensures.client ∙ i.client;
      few =
          rw count (few_served g.J.Naming.settings c.args.context.now.rule.now
          c.requests.connection.served next.0 c.requests.connection.budget
          c.serve_next.new.connection.budget mid new i.few next.2.0);
      served = (
        i.served.0 ++ next.1,
        rw count (one_served g.J.Naming.settings c.args.context.now.rule.now
            c.args.connection.now.client c.args.connection.now.served
            c.requests.connection.served next.0
            c.args.connection.now.budget c.requests.connection.budget
            c.serve_next.new.connection.budget _ mid new i.served.0 next.1 i.served.1 by_client),
        records_on g.K.Recorder.begins g.K.Recorder.ends c.args.recorder.now c.requests.recorder
            c.serve_next.new.recorder i.served.0 next.1 i.served.2 next.3,
      );
      slot = c.in-None.ensures.slot;
    }

pub requests-smaller : goal.requests-smaller
requests-smaller g c =
    let count = c.in-None.ensures.counts refl in omega (arith, count, c.requests.invariant.few)

pub returns-in-Some-clause-told : goal.returns-in-Some-clause-told
returns-in-Some-clause-told g c =
    let at = standing g.P.Peer.line g.D.Dialer.upstream g.C.Clock.to_come in
    let mid : Standing = at c.requests.connection c.requests.self in
    let new : Standing = at c.serve_next.new.connection c.serve_next.new.self in
    let so_far = c.requests.invariant.served in
    let next = c.in-Some.ensures.serves in
    let by_client = for_client g.J.Naming.settings c.args.context.now.rule.now
    c.requests.connection.client c.args.connection.now.client
    (eqb (c.requests.connection.served + 1) 10000) next.0 c.requests.connection.budget
    c.serve_next.new.connection.budget mid new (Some c.in-Some.paused) next.1
    c.requests.invariant.client next.2 in (
      so_far.0 ++ next.1,
      stay_ends g.J.Naming.settings c.args.context.now.rule.now c.args.connection.now.client
          c.args.connection.now.served
          c.requests.connection.served c.serve_next.new.connection.served next.0
          c.args.connection.now.budget c.requests.connection.budget
          c.serve_next.new.connection.budget
          (at c.args.connection.now c.args.self.now) mid new c.in-Some.paused so_far.0 next.1
          so_far.1 (λ is. c.in-Some.ensures.still (ap Some is)) by_client,
      records_on g.K.Recorder.begins g.K.Recorder.ends c.args.recorder.now c.requests.recorder
          c.serve_next.new.recorder so_far.0 next.1 so_far.2 next.3,
    )

pub returns-in-Some-clause-client : goal.returns-in-Some-clause-client
returns-in-Some-clause-client g c = c.in-Some.ensures.client ∙ c.requests.invariant.client

pub returns-in-Some-clause-stay : goal.returns-in-Some-clause-stay
returns-in-Some-clause-stay g c = (returns-in-Some-clause-told g c).1.0

pub returns-in-Some-clause-few : goal.returns-in-Some-clause-few
returns-in-Some-clause-few g c is =
    let still = c.in-Some.ensures.still (ap Some is) in
    omega (arith, still, c.requests.invariant.few)

pub returns-in-Some-clause-cause : goal.returns-in-Some-clause-cause
returns-in-Some-clause-cause g c =
    let at = standing g.P.Peer.line g.D.Dialer.upstream g.C.Clock.to_come in
    stay_cause g.J.Naming.settings c.args.context.now.rule.now c.args.connection.now.served
    c.serve_next.new.connection.served c.args.connection.now.budget
    c.serve_next.new.connection.budget
    (at c.args.connection.now c.args.self.now) (at c.serve_next.new.connection
    c.serve_next.new.self)
    c.in-Some.paused (returns-in-Some-clause-stay g c)

pub returns-in-Some-clause-complete : goal.returns-in-Some-clause-complete
returns-in-Some-clause-complete g c none =
    stay_complete c.in-Some.paused (g.P.Peer.line c.args.connection.now.peer)
    (g.P.Peer.line c.serve_next.new.connection.peer) (returns-in-Some-clause-cause g c) none

pub returns-in-Some-clause-spent : goal.returns-in-Some-clause-spent
returns-in-Some-clause-spent g c is =
    let at = standing g.P.Peer.line g.D.Dialer.upstream g.C.Clock.to_come in
    stay_spent g.J.Naming.settings c.args.context.now.rule.now c.args.connection.now.served
    c.serve_next.new.connection.served c.args.connection.now.budget
    c.serve_next.new.connection.budget
    (at c.args.connection.now c.args.self.now) (at c.serve_next.new.connection
    c.serve_next.new.self)
    c.in-Some.paused (returns-in-Some-clause-stay g c) is

pub returns-in-Some-clause-drained : goal.returns-in-Some-clause-drained
returns-in-Some-clause-drained g c =
    let at = standing g.P.Peer.line g.D.Dialer.upstream g.C.Clock.to_come in
    stay_hears g.J.Naming.settings c.args.context.now.rule.now c.args.connection.now.served
    c.serve_next.new.connection.served c.args.connection.now.budget
    c.serve_next.new.connection.budget
    (at c.args.connection.now c.args.self.now) (at c.serve_next.new.connection
    c.serve_next.new.self)
    c.in-Some.paused (returns-in-Some-clause-stay g c)

pub returns-in-Some-clause-quiet : goal.returns-in-Some-clause-quiet
returns-in-Some-clause-quiet g c =
    let at = standing g.P.Peer.line g.D.Dialer.upstream g.C.Clock.to_come in
    stay_waits g.J.Naming.settings c.args.context.now.rule.now c.args.connection.now.served
    c.serve_next.new.connection.served c.args.connection.now.budget
    c.serve_next.new.connection.budget
    (at c.args.connection.now c.args.self.now) (at c.serve_next.new.connection
    c.serve_next.new.self)
    c.in-Some.paused (returns-in-Some-clause-stay g c)

pub returns-in-Some-clause-closed : goal.returns-in-Some-clause-closed
returns-in-Some-clause-closed g c =
    let at = standing g.P.Peer.line g.D.Dialer.upstream g.C.Clock.to_come in
    (stay_keeps g.J.Naming.settings c.args.context.now.rule.now c.args.connection.now.served
    c.serve_next.new.connection.served c.args.connection.now.budget
    c.serve_next.new.connection.budget
    (at c.args.connection.now c.args.self.now) (at c.serve_next.new.connection
    c.serve_next.new.self)
    c.in-Some.paused (returns-in-Some-clause-stay g c)).closed

pub returns-in-Some-clause-pool : goal.returns-in-Some-clause-pool
returns-in-Some-clause-pool g c =
    let at = standing g.P.Peer.line g.D.Dialer.upstream g.C.Clock.to_come in
    (stay_keeps g.J.Naming.settings c.args.context.now.rule.now c.args.connection.now.served
    c.serve_next.new.connection.served c.args.connection.now.budget
    c.serve_next.new.connection.budget
    (at c.args.connection.now c.args.self.now) (at c.serve_next.new.connection
    c.serve_next.new.self)
    c.in-Some.paused (returns-in-Some-clause-stay g c)).pool

pub returns-in-Some-clause-number : goal.returns-in-Some-clause-number
returns-in-Some-clause-number g c =
    let at = standing g.P.Peer.line g.D.Dialer.upstream g.C.Clock.to_come in
    (stay_keeps g.J.Naming.settings c.args.context.now.rule.now c.args.connection.now.served
    c.serve_next.new.connection.served c.args.connection.now.budget
    c.serve_next.new.connection.budget
    (at c.args.connection.now c.args.self.now) (at c.serve_next.new.connection
    c.serve_next.new.self)
    c.in-Some.paused (returns-in-Some-clause-stay g c)).number

pub returns-in-Some-clause-seen : goal.returns-in-Some-clause-seen
returns-in-Some-clause-seen g c =
    let at = standing g.P.Peer.line g.D.Dialer.upstream g.C.Clock.to_come in
    stay_saw g.J.Naming.settings c.args.context.now.rule.now c.args.connection.now.served
    c.serve_next.new.connection.served c.args.connection.now.budget
    c.serve_next.new.connection.budget
    (at c.args.connection.now c.args.self.now) (at c.serve_next.new.connection
    c.serve_next.new.self)
    c.in-Some.paused (returns-in-Some-clause-stay g c)
