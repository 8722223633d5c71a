use Rattle.http_wire.proofs.Asked.{sound_target}
use Rattle.http_wire.proofs.Targets.{other_method, given, not_given}
use Rattle.http_wire.proofs.target.read_target.Goals as goal

pub returns-in-Ok-clause-ok : goal.returns-in-Ok-clause-ok
returns-in-Ok-clause-ok c =
    given c.args.head.now.method c.args.head.now.target _ _ c.in-Ok.uri
    c.served_target-target.result c.as_str-method.ensures.value c.bytes-text.ensures
    (other_method c.args.head.now.method c.as_str-method.result.now c.eq.result
    c.as_str-method.ensures.value c.eq.ensures c.if-eq.false) c.in-Ok.ensures.ok
    c.served_target-target.ensures

pub returns-in-Ok-clause-refused : goal.returns-in-Ok-clause-refused
returns-in-Ok-clause-refused c =
    not_given c.args.head.now.method c.args.head.now.target _ _ c.in-Ok.uri
    c.served_target-target.result c.as_str-method.ensures.value c.bytes-text.ensures
    (other_method c.args.head.now.method c.as_str-method.result.now c.eq.result
    c.as_str-method.ensures.value c.eq.ensures c.if-eq.false) c.in-Ok.ensures.ok
    c.served_target-target.ensures

pub returns-in-Ok-clause-sound : goal.returns-in-Ok-clause-sound
returns-in-Ok-clause-sound c =
    sound_target c.args.head.now.method c.args.head.now.target c.served_target-target.result
    (given c.args.head.now.method c.args.head.now.target _ _ c.in-Ok.uri
    c.served_target-target.result c.as_str-method.ensures.value c.bytes-text.ensures
    (other_method c.args.head.now.method c.as_str-method.result.now c.eq.result
    c.as_str-method.ensures.value c.eq.ensures c.if-eq.false) c.in-Ok.ensures.ok
    c.served_target-target.ensures)
