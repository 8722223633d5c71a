use Rattle.std.proofs.Common.{◌≡◌, ◌+◌, ◌-◌, ◌++◌}
use Rattle.turn_parts.specs.Parts.{addrs_from}
use Rattle.turn_parts.proofs.addrs.addrs_from.Given as goal

abbrev pub invariant-loop-next : goal.invariant-loop-next
invariant-loop-next l = l.items.items ++ addrs_from (l.count - l.next) (l.port + l.next)
    ≡ addrs_from l.count l.port
