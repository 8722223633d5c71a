use Rattle.std.proofs.Common.{length}
use Rattle.script.proofs.Walking.{Walks}
use Rattle.script.proofs.addrs.read_items.Given as goal

abbrev pub invariant-loop-rest : goal.invariant-loop-rest
invariant-loop-rest l = Walks l.text l.rest l.items.items

abbrev pub decreases-loop-rest : goal.decreases-loop-rest
decreases-loop-rest l = length l.rest
