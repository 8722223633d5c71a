use Rattle.std.proofs.Common.{List, Option, ℕ, inr, ◌∙◌, subst}
use Rattle.line_base.specs.Dials.{LogsHang}
use Rattle.follow_feed.specs.Polling.{Speaks, given}
use Rattle.follow_feed.proofs.Growing.{grows_by_talk}
use Rattle.follow_feed.proofs.polling.poll.Goals as goal

pub returns-in-Ok-dial-clause-polls : goal.returns-in-Ok-dial-clause-polls
returns-in-Ok-dial-clause-polls g c =
    let spoke = c.converse-polled.ensures.speaks in
    let open_ = c.converse-polled.ensures.stays.open_to ∙ c.in-Ok-dial.ensures.opens in
    let hung = subst (λ (o : Option (ℕ × ℕ)). LogsHang o
    (g.D.Dialer.upstream c.converse-polled.new.dialer).log
    (g.D.Dialer.upstream c.hang.new.self).log) open_ c.hang.ensures.log in
    inr (record {
      sent = spoke.0;
      got = spoke.1;
      log = grows_by_talk _ _ _ _ c.args.leader.ip c.args.leader.port spoke.0 spoke.1
          c.in-Ok-dial.ensures.log spoke.2 hung;
      speaks = subst (λ (request : List ℕ). Speaks request spoke.0 spoke.1
          (given c.converse-polled.result)) c.in-Ok.ensures spoke.3;
      closed = c.hang.ensures.closes;
    })
