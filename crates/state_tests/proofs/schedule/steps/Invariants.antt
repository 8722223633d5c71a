use Rattle.std.proofs.Common.{map}
use Rattle.std.specs.Prelude.{All}
use Rattle.weave.specs.Code.{step_of}
use Rattle.weave.specs.Held.{IsSoundStep}
use Rattle.state_tests.proofs.schedule.steps.Given as goal

abbrev pub invariant-loop-row : goal.invariant-loop-row
invariant-loop-row l = record { sound : All IsSoundStep (map step_of l.steps.items) }
