use Rattle.std.proofs.Common.{[], refl, inl}
use Rattle.replica_try.proofs.Growing.{grows_by_pieces, grows_nothing}
use Rattle.replica_try.proofs.Resting.{rests_same}
use Rattle.replica_try.proofs.Speaking.{backs_by}
use Rattle.replica_try.proofs.trying.Try.pass_reply.Goals as goal

pub returns-in_default-clause-backs : goal.returns-in_default-clause-backs
returns-in_default-clause-backs g c = (
  [],
  grows_nothing (g.D.Dialer.upstream c.args.way.now.dialer).log,
  inl
      (rests_same (g.P.Peer.line c.args.peer.now), refl, refl, refl),
)

pub returns-clause-backs : goal.returns-clause-backs
returns-clause-backs g c =
    let e = c.pass_back-passed.ensures in
    let b = e.body in (
      b.0,
      grows_by_pieces (g.D.Dialer.upstream c.args.way.now.dialer).log
          (g.D.Dialer.upstream c.pass_back-passed.new.dialer).log b.0 b.3,
      backs_by c.args.self.now.head.now c.args.self.now.last c.args.sent c.args.reply.now
          c.args.framing (g.P.Peer.line c.args.peer.now) (g.P.Peer.line c.pass_back-passed.new.peer)
          c.args.way.now.back c.pass_back-passed.new.rest
          (g.D.Dialer.upstream c.args.way.now.dialer).faults
          (g.D.Dialer.upstream c.pass_back-passed.new.dialer).faults b.0
          c.knows_chunks-chunked.result c.closes_behind-closes.result c.is_closing.result
          c.is_reusable-reusable.result
          c.back_head_into-written.new.out.items c.knows_chunks-chunked.ensures
          c.closes_behind-closes.ensures c.is_closing.ensures c.in-Ok.ensures.ok
          c.pass_back-passed.result.end
          (record {
            written = b.1;
            count = c.pass_back-passed.result.count;
            given = b.4;
            passes = b.6;
            ended = b.5;
            receives = e.receives;
            writes = e.writes;
            never = e.never;
            left = e.peer_stays.left;
            reads = e.peer_stays.read_faults;
            ends = e.peer_stays.ends;
            closings = e.peer_stays.closings;
            quiets = e.peer_stays.quiets;
          })
          c.is_reusable-reusable.ensures c.of_back.result c.of_back.ensures,
    )
