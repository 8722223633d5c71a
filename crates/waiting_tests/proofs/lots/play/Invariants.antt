use Rattle.std.proofs.Common.{◌≡◌, length}
use Rattle.std.specs.Prelude.{vec_len}
use Rattle.waiting_tests.proofs.lots.play.Given as goal

abbrev pub invariant-loop-step : goal.invariant-loop-step
invariant-loop-step g l = vec_len l.hands ≡ 1

abbrev pub decreases-loop-connection : goal.decreases-loop-connection
decreases-loop-connection g l = length l.waiters.waiting
