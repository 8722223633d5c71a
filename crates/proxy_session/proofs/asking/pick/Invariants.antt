use Rattle.std.proofs.Common.{◌≡◌}
use Rattle.proxy_session.specs.Callers.{caller_of}
use Rattle.proxy_session.proofs.asking.pick.Given as goal

abbrev pub invariant-asking : goal.invariant-asking
invariant-asking g l = caller_of l.pass ≡ caller_of l.fn.pass

abbrev pub ghosts-pick_once : goal.ghosts-pick_once
ghosts-pick_once g a = record { name = a.blank.name; parts = a.blank.parts }
