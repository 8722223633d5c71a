use Rattle.std.proofs.Common.{length}
use Rattle.body_wire.specs.Turns.{Taken}
use Rattle.body_wire.proofs.turn.take_all.Given as goal

abbrev pub invariant-loop-count : goal.invariant-loop-count
invariant-loop-count l = Taken l.fn.decoder l.decoder l.fn.rest l.rest l.fn.out.items l.out.items

abbrev pub decreases-loop-count : goal.decreases-loop-count
decreases-loop-count l = length l.rest
