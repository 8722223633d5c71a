use Rattle.std.proofs.Common.{◌≡◌}
use Rattle.net_edge.proofs.sockets.pool.take_out.Given as goal

abbrev pub invariant-loop-place : goal.invariant-loop-place
invariant-loop-place l = l.kept.items ≡ l.fn.kept.items
