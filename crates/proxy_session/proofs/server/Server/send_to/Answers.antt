use Rattle.std.proofs.Common.{refl, sym, inl, inr}
use Rattle.proxy_session.specs.Attempts.{may_repeat}
use Rattle.proxy_session.specs.Callers.{caller_of}
use Rattle.replica_try.proofs.Resting.{idle_same, rests_same}
use Rattle.replica_try.proofs.BothHold.{and_left}
use Rattle.proxy_session.proofs.Untouched.{tried_untouched}
use Rattle.proxy_session.proofs.server.Server.send_to.Goals as goal

pub returns-in_default-clause-sends : goal.returns-in_default-clause-sends
returns-in_default-clause-sends g c = (
  (
    refl,
    inl (record {
      nothing = record {
        away = record {
          kept = refl;
          upstream = idle_same (g.D.Dialer.upstream c.args.self.now.way.dialer);
        };
        caller = refl;
        moments = refl;
        words = refl;
      };
      line = rests_same (g.P.Peer.line c.args.connection.now.peer);
      ends = refl;
    }),
  ),
  c.stopped.ensures.done,
)

pub returns-in_default-report_on-clause-sends : goal.returns-in_default-report_on-clause-sends
returns-in_default-report_on-clause-sends g c = (
  (
    refl,
    inr (
      record {
        onward = c.write-written.new.out.items;
        is_head = c.in-Ok.ensures;
        how = c.run-tried.result;
        between = g.P.Peer.line c.run-tried.new.peer;
        tries = c.run-tried.ensures.tries;
        held = caller_of c.run-tried.new.pass;
        holds = c.run-tried.ensures.holds;
        settles =
            inr (
              c.in_default-report_on.ensures.err,
              rests_same (g.P.Peer.line c.run-tried.new.peer),
              refl,
            );
        words_are = refl {a = c.args.self.now.words};
      },
      inr refl,
    ),
  ),
  c.done.ensures.done,
)

pub returns-then-charge_for_another-clause-sends :
    goal.returns-then-charge_for_another-clause-sends
returns-then-charge_for_another-clause-sends g c =
    let head = c.args.going.now.head.now in
    let framing = c.args.going.now.framing in
    let how = c.run-tried.result in
    let followed = sym c.if-charge_for_another.ensures.followed in
    let put = tried_untouched head framing c.write-written.new.out.items c.args.going.now.last
    c.args.choice.addr (g.P.Peer.line c.args.connection.now.peer)
    (g.P.Peer.line c.run-tried.new.peer) c.args.self.now.rest c.run-tried.new.rest
    (g.D.Dialer.upstream c.args.self.now.way.dialer)
    (g.D.Dialer.upstream c.run-tried.new.way.dialer) how
    (and_left (may_repeat head framing how) _ followed) c.run-tried.ensures.tries in (
      (
        c.if-charge_for_another.ensures.behind,
        record {
          onward = c.write-written.new.out.items;
          is_head = c.in-Ok.ensures;
          how = how;
          followed = followed;
          tries = c.run-tried.ensures.tries;
          held = caller_of c.run-tried.new.pass;
          holds = c.run-tried.ensures.holds;
          reported = c.in-Ok-report_on.ensures.ok;
          words_are = refl {a = c.args.self.now.words};
          line = put.0;
          kept_is = put.1;
        },
      ),
      c.in_vain.ensures.done,
    )

pub returns-clause-sends : goal.returns-clause-sends
returns-clause-sends g c = (
  (
    c.if-charge_for_another.ensures.behind,
    inr (
      record {
        onward = c.write-written.new.out.items;
        is_head = c.in-Ok.ensures;
        how = c.run-tried.result;
        between = g.P.Peer.line c.run-tried.new.peer;
        tries = c.run-tried.ensures.tries;
        held = caller_of c.run-tried.new.pass;
        holds = c.run-tried.ensures.holds;
        settles = inl (c.in-Ok-report_on.ensures.ok, c.answer-end.ensures);
        words_are = refl {a = c.args.self.now.words};
      },
      inl (sym c.if-charge_for_another.ensures.followed),
    ),
  ),
  c.done-2.ensures.done,
)
