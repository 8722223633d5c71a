use Rattle.std.proofs.Common.{◌≡◌, ◌++◌, map}
use Rattle.std.specs.Vec.Iter.{into_iter_items}
use Rattle.machine.specs.Code.{state_of}
use Rattle.machine.specs.Services.{service_state}
use Rattle.machine.proofs.state.State.listed.Given as goal

abbrev pub invariant-loop-name : goal.invariant-loop-name
invariant-loop-name l =
    (l.yielded ++ into_iter_items l.name-iterator ≡ into_iter_items l.initial.name-iterator)
    × (l.listed.items ≡ map (service_state l.limits (state_of l.self) l.moment) l.yielded)
