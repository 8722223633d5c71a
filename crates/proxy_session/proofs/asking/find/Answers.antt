use Rattle.std.proofs.Common.{inl, inr, refl}
use Rattle.machine.specs.Values.{replica, none}
use Rattle.proxy_session.specs.Callers.{caller_of}
use Rattle.proxy_session.proofs.asking.find.Goals as goal

pub returns-in-Hit-clause-ok : goal.returns-in-Hit-clause-ok
returns-in-Hit-clause-ok g c = let s = c.in-Hit.ensures in (replica s.0, inl s.1, s.2, refl)

pub returns-in-None-clause-ok : goal.returns-in-None-clause-ok
returns-in-None-clause-ok g c = (none c.in-None.why, inl c.in-None.ensures, refl, refl)

pub returns-in-Ok-clause-ok : goal.returns-in-Ok-clause-ok
returns-in-Ok-clause-ok g c =
    let x = c.in-Ok.ensures.ok in (
      x.0,
      inr (caller_of c.peek.new.pass, c.in-Miss.ensures, x.1),
      x.2 c.peek.new.names,
      refl,
    )

pub returns-in-Err-clause-err : goal.returns-in-Err-clause-err
returns-in-Err-clause-err g c =
    (caller_of c.peek.new.pass, c.in-Miss.ensures, c.in-Err.ensures.err)
