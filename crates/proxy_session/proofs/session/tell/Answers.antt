use Rattle.std.proofs.Common.{subst, Some, Option}
use Rattle.name_tree.specs.Path.{Labels}
use Rattle.proxy_session.proofs.session.tell.Goals as goal

pub returns : goal.returns
returns g c =
    subst
    (λ (n : Option Labels). g.K.Recorder.ends c.args.recorder.now
    (record {
      client = c.args.client;
      head = Some c.args.head.now;
      name = n;
      done = c.args.served.now.done;
    })
    c.end.new.self)
    c.as_ref.ensures.value c.end.ensures
