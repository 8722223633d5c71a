use Rattle.std.proofs.Common.{◌≡◌, take}
use Rattle.std.specs.FinMap as fin
use Rattle.machine.specs.Code.{state_of}
use Rattle.machine.proofs.state.State.names.Given as goal

abbrev pub invariant-loop-at : goal.invariant-loop-at
invariant-loop-at l = l.names.items ≡ take l.at (fin.keys (state_of l.self).store.spaces)
