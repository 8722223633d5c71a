use Rattle.std.proofs.Common.{inl}
use Rattle.machine.specs.Code.{ask_of}
use Rattle.proxy_session.specs.Callers.{caller_of}
use Rattle.proxy_session.proofs.Behind.{kept_behind, unkept_behind}
use Rattle.proxy_session.proofs.asking.find_anew.Goals as goal

pub returns-in-Ok-clause-ok : goal.returns-in-Ok-clause-ok
returns-in-Ok-clause-ok g c =
    kept_behind g.J.Naming.settings (caller_of c.args.pass.now) (caller_of c.pick.new.pass)
    (caller_of c.keep.new.pass) (ask_of c.args.ask.now) c.in-Ok.answer c.in-Ok.ensures.said
    c.keep.result
    c.keep.ensures.ok

pub returns-in-Ok-clause-err : goal.returns-in-Ok-clause-err
returns-in-Ok-clause-err g c =
    unkept_behind g.J.Naming.settings (caller_of c.args.pass.now) (caller_of c.pick.new.pass)
    (caller_of c.keep.new.pass) (ask_of c.args.ask.now) c.in-Ok.answer c.in-Ok.ensures.said
    c.keep.result c.keep.ensures.err

pub returns-in-Err-clause-err : goal.returns-in-Err-clause-err
returns-in-Err-clause-err g c = inl c.in-Err.ensures.want
