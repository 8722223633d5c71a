use Rattle.std.proofs.Common.{refl, inl, inr}
use Rattle.line_base.specs.declared.dialer.DialEvent.TheVariants.{Dialed}
use Rattle.replica_try.proofs.Growing.{grows_by_none}
use Rattle.replica_try.proofs.Resting.{rests_same}
use Rattle.replica_try.proofs.Speaking.{visits}
use Rattle.replica_try.proofs.trying.Try.run_anew.Goals as goal

pub returns-in-Ok : goal.returns-in-Ok
returns-in-Ok g c =
    inr (
    visits c.args.self.now.head.now c.args.way.now.out.items c.args.self.now.framing
    c.args.self.now.last (g.P.Peer.line c.args.peer.now) (g.P.Peer.line c.visit.new.peer)
    c.args.rest.now c.visit.new.rest (g.D.Dialer.upstream c.args.way.now.dialer)
    (g.D.Dialer.upstream c.visit.new.way.dialer) c.visit.result
    (g.D.Dialer.upstream c.dial.new.self)
    (Dialed c.args.self.now.addr.ip c.args.self.now.addr.port) c.in-Ok.ensures.log
    c.in-Ok.ensures.cause.kept c.in-Ok.ensures.others.1 c.visit.ensures.speaks
    )

pub returns-in-Err : goal.returns-in-Err
returns-in-Err g c =
    inl (record {
      line = rests_same (g.P.Peer.line c.args.peer.now);
      kept_is = refl;
      log =
          grows_by_none (g.D.Dialer.upstream c.args.way.now.dialer).log
          (g.D.Dialer.upstream c.dial.new.self).log c.in-Err.ensures.log;
      fault = c.in-Err.ensures.cause.by_one;
      how_is = refl;
      closed = c.in-Err.ensures.opens;
      pool = c.in-Err.ensures.others.1;
    })
