use Rattle.machine.specs.Code.{ask_of}
use Rattle.proxy_session.specs.Callers.{caller_of}
use Rattle.proxy_session.proofs.Calling.{not_let_in, sees_hit, sees_none, sees_nothing}
use Rattle.proxy_session.proofs.asking.peek.Goals as goal

pub returns-in-Hit : goal.returns-in-Hit
returns-in-Hit g c =
    sees_hit (caller_of c.args.pass.now) c.asking.pass c.peek.new.pass (ask_of c.args.ask.now)
    c.peek.new.names c.asking.invariant c.in-Hit.ensures.number c.in-Hit.choice
    c.in-Hit.ensures.said

pub returns-in-HitNone : goal.returns-in-HitNone
returns-in-HitNone g c =
    sees_none (caller_of c.args.pass.now) c.asking.pass c.peek.new.pass (ask_of c.args.ask.now)
    c.peek.new.names c.asking.invariant c.in-HitNone.ensures.number c.in-HitNone.why
    c.in-HitNone.place c.in-HitNone.ensures.said

pub returns-in-Miss : goal.returns-in-Miss
returns-in-Miss g c =
    sees_nothing (caller_of c.args.pass.now) c.asking.pass c.peek.new.pass (ask_of c.args.ask.now)
    c.peek.new.names c.asking.invariant c.in-Miss.ensures.number c.in-Miss.field-0
    c.in-Miss.ensures.said

pub asking-preserved : goal.asking-preserved
asking-preserved g c =
    not_let_in (caller_of c.args.pass.now) c.asking.pass c.peek.new.pass (ask_of c.args.ask.now)
    c.peek.new.names c.asking.invariant c.in-NoEntry.ensures.number c.in-NoEntry.ensures.said.0
