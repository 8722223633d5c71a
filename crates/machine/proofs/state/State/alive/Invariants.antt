use Rattle.std.proofs.Common.{◌≡◌, ◌≤◌, length, take}
use Rattle.machine.specs.Code.{state_of}
use Rattle.machine.specs.Services.{alive_in}
use Rattle.machine.proofs.state.State.alive.Given as goal

abbrev pub invariant-loop-item : goal.invariant-loop-item
invariant-loop-item l = record {
  fits : l.alive ≤ l.item-index;
  count : l.alive ≡ length
      (alive_in l.limits (state_of l.self) l.moment (take l.item-index l.list));
}
