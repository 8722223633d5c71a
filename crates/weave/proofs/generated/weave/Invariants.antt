use Rattle.std.proofs.Common.{◌-◌, ◌≤◌}
use Rattle.machine.specs.Code.{settings_of}
use Rattle.weave.specs.World.{opening_world}
use Rattle.weave.specs.Generated.{steps_of_seed, turns_by}
use Rattle.weave.proofs.Weaving.{IsWeaving}
use Rattle.weave.proofs.generated.weave.Given as goal

abbrev pub invariant-loop-turn : goal.invariant-loop-turn
invariant-loop-turn g l =
    IsWeaving (settings_of l.fn.settings) (steps_of_seed l.fn.turns l.fn.seed)
    (opening_world 4) l.world l.looks (turns_by (l.fn.turns - l._turn) l.words)
    × (l.looks ≤ l._turn)
