use Rattle.http_wire.proofs.Asked.{sound_host}
use Rattle.http_wire.proofs.host.read_host.Goals as goal

pub returns-clause-sound : goal.returns-clause-sound
returns-clause-sound c =
    sound_host c.args.head.now.version c.args.head.now.fields c.args.target.now.authority
    c.host_text.result c.host_text.ensures
