use Rattle.std.proofs.Common.{◌≡◌}
use Rattle.proxy_session.specs.Callers.{caller_of}
use Rattle.proxy_session.proofs.asking.peek.Given as goal

abbrev pub invariant-asking : goal.invariant-asking
invariant-asking g l = caller_of l.pass ≡ caller_of l.fn.pass
