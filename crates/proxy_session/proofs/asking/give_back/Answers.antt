use Rattle.std.proofs.Common.{subst, sym}
use Rattle.bind_cache.specs.Stored.{kept_of}
use Rattle.proxy_session.specs.Callers.{caller_of}
use Rattle.proxy_session.specs.AskAnswers.{ReturnsSome}
use Rattle.proxy_session.proofs.Calling.{returns_it, saw_more}
use Rattle.proxy_session.proofs.asking.give_back.Goals as goal

pub returns-in-Ok-clause-ok : goal.returns-in-Ok-clause-ok
returns-in-Ok-clause-ok g c =
    subst (ReturnsSome g.J.Naming.settings (caller_of c.args.pass.now)
    (caller_of c.remember.new.pass)) (sym c.in-Some.is)
    (returns_it c.args.pass.now c.remember.new.pass c.in-Ok.ensures.number
    (kept_of c.in-Some.binding) c.in-Ok.field-0 c.in-Ok.ensures.remembered)

pub returns-in-Err-clause-err : goal.returns-in-Err-clause-err
returns-in-Err-clause-err g c =
    saw_more c.args.pass.now c.remember.new.pass c.in-Err.ensures.number c.in-Err.ensures.want
