use Rattle.std.proofs.Common.{◌≡◌, length}
use Rattle.bind_cache.proofs.rings.drain.Given as goal

abbrev pub invariant-loop-item : goal.invariant-loop-item
invariant-loop-item g l = l.ring.capacity ≡ l.fn.ring.capacity

abbrev pub decreases-loop-item : goal.decreases-loop-item
decreases-loop-item g l = length l.ring.items
