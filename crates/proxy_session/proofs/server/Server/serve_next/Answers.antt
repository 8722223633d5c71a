use Rattle.std.proofs.Common.{refl, ap, inl, inr, [], ◌∷◌}
use Rattle.exchange_record.proofs.Recording.{records_one}
use Rattle.line_base.specs.Lines.{Line}
use Rattle.proxy_session.specs.Exchange.{Standing}
use Rattle.proxy_session.specs.Recorded.{told_by, unread_told}
use Rattle.proxy_session.specs.Session.{own_of_end}
use Rattle.proxy_session.specs.Standing.{standing}
use Rattle.proxy_session.proofs.Reading.{having_read}
use Rattle.replica_try.proofs.Resting.{idle_same}
use Rattle.proxy_session.proofs.Serving.{head_served, never_quiet}
use Rattle.proxy_session.proofs.server.Server.serve_next.Goals as goal

pub returns-in-Head-clause-serves : goal.returns-in-Head-clause-serves
returns-in-Head-clause-serves g c =
    let at = standing g.P.Peer.line g.D.Dialer.upstream g.C.Clock.to_come in
    let old : Standing = at c.args.connection.now c.args.self.now in
    let mid : Standing = at c.next_head.new.connection c.next_head.new.self in
    let by_it = c.proxy_once-served.ensures.exchange in
    let client = c.args.connection.now.client in
    let told = told_by client c.hear-heard.result c.proxy_once-served.result in
    let one = head_served g.J.Naming.settings c.args.context.now.rule.now client
    c.args.connection.now.served
    c.next_head.new.connection.served c.args.connection.now.budget
    c.next_head.new.connection.budget c.proxy_once-served.new.connection.budget
    old mid (having_read mid (g.P.Peer.line c.hears_closing-closing.new.peer) mid.kept)
    (at c.proxy_once-served.new.connection c.proxy_once-served.new.self) c.in-Head.head
    c.hear-heard.result
    c.hears_closing-closing.result c.is_last.result c.proxy_once-served.result c.drained.result
    c.paused_by.result c.in-Head.ensures.served c.in-Head.ensures.budget
    c.in-Head.ensures.reads c.hear-heard.ensures
    c.hears_closing-closing.ensures.asked
    (ap (λ (l : Line). having_read mid l mid.kept) c.hears_closing-closing.ensures.told)
    c.is_last.ensures by_it c.drained.ensures c.paused_by.ensures in (
      one.0,
      told ∷ [],
      one.1,
      records_one g.K.Recorder.begins g.K.Recorder.ends c.args.recorder.now c.begin.new.self
          c.tell.new.recorder told c.begin.ensures c.tell.ensures,
    )

pub returns-in-Head-clause-still : goal.returns-in-Head-clause-still
returns-in-Head-clause-still g c is =
    absurd (never_quiet c.drained.result c.paused_by.result c.paused_by.ensures is)

pub returns-in-Quiet-clause-serves : goal.returns-in-Quiet-clause-serves
returns-in-Quiet-clause-serves g c = (
  0,
  [],
  (
    (c.in-Quiet.ensures.reads, record { none = refl; same = c.in-Quiet.ensures.budget }),
    refl,
  ),
  refl,
)

pub returns-in-Closing-clause-serves : goal.returns-in-Closing-clause-serves
returns-in-Closing-clause-serves g c =
    let closing = c.in-Closing.ensures.reads in (
      0,
      [],
      (
        inl (
          inr (record { none = closing.0; closing = closing.1; is = refl }),
          record { none = refl; same = c.in-Closing.ensures.budget },
        ),
        refl,
      ),
      refl,
    )

pub returns-in-Ended-clause-serves : goal.returns-in-Ended-clause-serves
returns-in-Ended-clause-serves g c =
    let at = standing g.P.Peer.line g.D.Dialer.upstream g.C.Clock.to_come in (
      0,
      unread_told c.args.connection.now.client (own_of_end c.in-Ended.end)
          c.end_without_head.result,
      (
        inl (
          inl (record {
            mid = at c.next_head.new.connection c.next_head.new.self;
            end = c.in-Ended.end;
            reads = c.in-Ended.ensures.reads;
            nothing = record {
              away = record {
                kept = refl;
                upstream = idle_same (g.D.Dialer.upstream c.next_head.new.self.way.dialer);
              };
              caller = refl;
              moments = refl;
              words = refl;
            };
            answers = c.end_without_head.ensures.answers;
          }),
          record { none = refl; same = c.in-Ended.ensures.budget },
        ),
        refl,
      ),
      c.end_without_head.ensures.told,
    )
