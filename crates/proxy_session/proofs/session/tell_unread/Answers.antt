use Rattle.std.proofs.Common.{subst, None}
use Rattle.exchange_tally.specs.declared.done.Done.{Done}
use Rattle.proxy_session.proofs.session.tell_unread.Goals as goal

pub returns : goal.returns
returns g c =
    subst
    (λ (d : Done). g.K.Recorder.ends c.args.recorder.now
    (record { client = c.args.client; head = None; name = None; done = d }) c.end.new.self)
    c.unread.ensures c.end.ensures
