use Rattle.std.proofs.Common.{◌-◌, ◌≤◌, length}
use Rattle.net_edge.proofs.files.read_within.Given as goal

abbrev pub invariant-loop-most : goal.invariant-loop-most
invariant-loop-most g l = length l.all.items ≤ l.most

abbrev pub decreases-loop-most : goal.decreases-loop-most
decreases-loop-most g l = l.most - length l.all.items
