use Rattle.std.proofs.Common.{suc, refl, ap, sym, subst, ◌∙◌, zero-add, arith, Some}
use Rattle.dtab_table.specs.Dtab.{rules_of}
use Rattle.machine.specs.Code.{ask_of}
use Rattle.proxy_session.specs.Done.{CountsUpTo}
use Rattle.proxy_session.specs.Seeking.{Sought}
use Rattle.proxy_session.specs.Sought.{sought_of}
use Rattle.proxy_session.specs.Standing.{standing}
use Rattle.proxy_session.proofs.Attempting.{counts_followed, counts_more, redrawn_end}
use Rattle.proxy_session.proofs.Attempting.{redrawn_go_on, same_sought}
use Rattle.proxy_session.proofs.server.Server.route.Goals as goal

pub attempts-init : goal.attempts-init
attempts-init g c = record {
  failed = (
    0,
    zero-add c.most_retries-left.result ∙ c.most_retries-left.ensures,
    ((refl, refl), c.nothing-so_far.ensures.done),
    c.nothing-so_far.ensures.few,
    omega arith,
  );
  seeks = refl;
  slot = c.requires.free;
  client = refl;
  served = refl;
}

pub attempt-made-requires : goal.attempt-made-requires
attempt-made-requires g c = record { free = c.attempts.invariant.slot }

pub followed_by-so_far-requires : goal.followed_by-so_far-requires
followed_by-so_far-requires g c =
    let f = c.attempts.invariant.failed in
    record {
      room = counts_more f.0 4294967295 c.attempts.so_far f.3 (omega (arith, f.4));
      few = c.attempt-made.ensures.few;
    }

pub attempts-preserved : goal.attempts-preserved
attempts-preserved g c =
    let at = standing g.P.Peer.line g.D.Dialer.upstream g.C.Clock.to_come in
    let i = c.attempts.invariant in
    let d = c.draw.ensures in
    let r = redrawn_go_on g.J.Naming.settings c.args.head.now c.args.last (sought_of c.args.request)
    i.failed.0 c.args.connection.now.budget c.attempts.connection.budget
    c.attempt-made.new.connection.budget
    (at c.args.connection.now c.args.self.now) (at c.attempts.connection c.attempts.self)
    (at c.attempt-made.new.connection c.attempt-made.new.self) i.failed.2.0 c.attempts.so_far
    i.failed.2.1 c.draw.new.ask.moment
    (g.C.Clock.to_come c.draw.new.clock) c.draw.new.words (record {
      told = d.told;
      words_are = d.words;
    }) (sought_of c.attempts.request) i.seeks c.draw.new.ask.path (rules_of c.draw.new.ask.local)
    d.path (ap rules_of d.local) (ask_of c.draw.new.ask) d.ask c.attempts.left i.failed.1
    c.attempt-made.result.how c.attempt-made.result.done c.in-Failed.is
    c.attempt-made.ensures.asks in
    let more = sym c.followed_by-so_far.ensures in
    record {
      failed = (
        suc i.failed.0,
        r.1,
        (r.0.0, c.followed_by-so_far.ensures ∙ r.0.1),
        subst (CountsUpTo (suc i.failed.0)) more
            (counts_followed i.failed.0 c.attempts.so_far c.attempt-made.result.done i.failed.3
            c.attempt-made.ensures.few),
        omega (arith, r.2, i.failed.4),
      );
      seeks =
          same_sought (sought_of c.attempts.request) c.draw.new.ask.path
          (rules_of c.draw.new.ask.local) d.path (ap rules_of d.local)
          ∙ i.seeks;
      slot = c.attempt-made.ensures.slot;
      client = c.attempt-made.ensures.client ∙ i.client;
      served = c.attempt-made.ensures.served ∙ i.served;
    }

pub overflow_sub-left : goal.overflow_sub-left
overflow_sub-left g c =
    let at = standing g.P.Peer.line g.D.Dialer.upstream g.C.Clock.to_come in
    let i = c.attempts.invariant in
    let d = c.draw.ensures in
    let r = redrawn_go_on g.J.Naming.settings c.args.head.now c.args.last (sought_of c.args.request)
    i.failed.0 c.args.connection.now.budget c.attempts.connection.budget
    c.attempt-made.new.connection.budget
    (at c.args.connection.now c.args.self.now) (at c.attempts.connection c.attempts.self)
    (at c.attempt-made.new.connection c.attempt-made.new.self) i.failed.2.0 c.attempts.so_far
    i.failed.2.1 c.draw.new.ask.moment
    (g.C.Clock.to_come c.draw.new.clock) c.draw.new.words (record {
      told = d.told;
      words_are = d.words;
    }) (sought_of c.attempts.request) i.seeks c.draw.new.ask.path (rules_of c.draw.new.ask.local)
    d.path (ap rules_of d.local) (ask_of c.draw.new.ask) d.ask c.attempts.left i.failed.1
    c.attempt-made.result.how c.attempt-made.result.done c.in-Failed.is
    c.attempt-made.ensures.asks in
    r.2

pub attempts-smaller : goal.attempts-smaller
attempts-smaller g c = let some = overflow_sub-left g c in omega (arith, some)

pub returns-in-Last-clause-routes : goal.returns-in-Last-clause-routes
returns-in-Last-clause-routes g c =
    let at = standing g.P.Peer.line g.D.Dialer.upstream g.C.Clock.to_come in
    let i = c.attempts.invariant in
    let d = c.draw.ensures in
    let r = redrawn_end g.J.Naming.settings c.args.head.now c.args.last (sought_of c.args.request)
    i.failed.0 c.args.connection.now.budget c.attempts.connection.budget
    c.attempt-made.new.connection.budget
    (at c.args.connection.now c.args.self.now) (at c.attempts.connection c.attempts.self)
    (at c.attempt-made.new.connection c.attempt-made.new.self) i.failed.2.0 c.attempts.so_far
    i.failed.2.1 c.draw.new.ask.moment
    (g.C.Clock.to_come c.draw.new.clock) c.draw.new.words (record {
      told = d.told;
      words_are = d.words;
    }) (sought_of c.attempts.request) i.seeks c.draw.new.ask.path (rules_of c.draw.new.ask.local)
    d.path (ap rules_of d.local) (ask_of c.draw.new.ask) d.ask c.attempts.left i.failed.1
    c.in-Last.end c.attempt-made.result.how c.attempt-made.result.done c.in-Last.is
    c.attempt-made.ensures.asks in
    (r.0, (r.1.0, c.followed_by-so_far.ensures ∙ r.1.1))

pub returns-in-Last-clause-name : goal.returns-in-Last-clause-name
returns-in-Last-clause-name g c =
    ap Some
    (c.into_path.ensures
    ∙ (c.draw.ensures.path ∙ ap (λ (s : Sought). s.path) c.attempts.invariant.seeks))

pub returns-in-Last-clause-client : goal.returns-in-Last-clause-client
returns-in-Last-clause-client g c =
    c.attempt-made.ensures.client ∙ c.attempts.invariant.client

pub returns-in-Last-clause-served : goal.returns-in-Last-clause-served
returns-in-Last-clause-served g c =
    c.attempt-made.ensures.served ∙ c.attempts.invariant.served
