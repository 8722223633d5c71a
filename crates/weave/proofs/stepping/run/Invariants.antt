use Rattle.std.proofs.Common.{map, drop}
use Rattle.machine.specs.Code.{settings_of}
use Rattle.weave.specs.Code.{step_of, told_value}
use Rattle.weave.specs.World.{opening_world}
use Rattle.weave.proofs.Steps.{IsRunning}
use Rattle.weave.proofs.stepping.run.Given as goal

abbrev pub invariant-loop-step : goal.invariant-loop-step
invariant-loop-step g l =
    IsRunning (settings_of l.fn.settings) (map step_of l.steps) l.world
    (map told_value l.told.items) (map step_of (drop l.step-index l.steps))
    (opening_world l.fn.passes)
