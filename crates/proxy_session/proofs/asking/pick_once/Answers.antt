use Rattle.std.proofs.Common.{subst, sym}
use Rattle.machine.specs.Code.{ask_of}
use Rattle.proxy_session.specs.Callers.{caller_of}
use Rattle.proxy_session.specs.AskAnswers.{PicksOnce}
use Rattle.proxy_session.proofs.Calling.{picks_once, stops_pick}
use Rattle.proxy_session.proofs.asking.pick_once.Goals as goal

pub returns-in-Ok-clause-said : goal.returns-in-Ok-clause-said
returns-in-Ok-clause-said g c =
    subst (PicksOnce g.J.Naming.settings (caller_of c.args.pass.now) (caller_of c.pick.new.pass)
    (ask_of c.args.ask.now)) (sym c.of.ensures)
    (picks_once c.args.pass.now c.pick.new.pass (ask_of c.args.ask.now) c.in-Ok.ensures.number
    c.in-Ok.answer c.in-Ok.ensures.said)

pub returns-clause-want : goal.returns-clause-want
returns-clause-want g c =
    stops_pick c.args.pass.now c.pick.new.pass (ask_of c.args.ask.now) c.in-Err.ensures.number
    c.in-Err.ensures.want.0 c.in-Err.ensures.want.1
