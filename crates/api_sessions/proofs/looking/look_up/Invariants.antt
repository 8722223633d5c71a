use Rattle.api_sessions.specs.Answering.{Waited}
use Rattle.api_sessions.proofs.looking.look_up.Given as goal

abbrev pub invariant-loop-turn : goal.invariant-loop-turn
invariant-loop-turn g l = Waited l.fn.pass l.pass
