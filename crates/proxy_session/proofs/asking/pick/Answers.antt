use Rattle.machine.specs.Code.{ask_of}
use Rattle.proxy_session.specs.Callers.{caller_of}
use Rattle.proxy_session.proofs.Calling.{picks_since, stops_since}
use Rattle.proxy_session.proofs.asking.pick.Goals as goal

pub returns-in-Ok-Some-clause-said : goal.returns-in-Ok-Some-clause-said
returns-in-Ok-Some-clause-said g c =
    picks_since g.J.Naming.settings (caller_of c.args.pass.now) (caller_of c.asking.pass)
    (caller_of c.pick_once.new.pass) (ask_of c.args.ask.now) c.in-Ok-Some.answer
    c.asking.invariant
    (rw c.in-Ok-Some.field-0-is at c.in-Ok-Some.ensures.said)

pub returns-in-Err-clause-want : goal.returns-in-Err-clause-want
returns-in-Err-clause-want g c =
    stops_since g.J.Naming.settings (caller_of c.args.pass.now) (caller_of c.asking.pass)
    (caller_of c.pick_once.new.pass) (ask_of c.args.ask.now) c.asking.invariant
    c.in-Err.ensures.want
