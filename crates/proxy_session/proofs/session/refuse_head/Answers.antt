use Rattle.exchange_record.proofs.Recording.{records_one}
use Rattle.proxy_session.specs.Recorded.{unread_refusal}
use Rattle.proxy_session.proofs.session.refuse_head.Goals as goal

pub returns-clause-told : goal.returns-clause-told
returns-clause-told g c =
    records_one g.K.Recorder.begins g.K.Recorder.ends c.args.recorder.now c.begin.new.self
    c.tell_unread.new.recorder (unread_refusal c.args.client c.args.err c.refuse_bytes-end.result)
    c.begin.ensures c.tell_unread.ensures
