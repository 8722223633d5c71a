use Rattle.std.proofs.Common.{◌≡◌, ◌≤◌, ◌++◌, length, drop}
use Rattle.dtab_index.specs.Index.{matching}
use Rattle.dtab_index.specs.Parts.{placed_by}
use Rattle.dtab_index.proofs.parts.put_matching.Given as goal

abbrev pub invariant-loop-behind : goal.invariant-loop-behind
invariant-loop-behind l = (l.behind ≤ length l.parts)
    × (l.found.items ≡ l.fn.found.items ++ matching (placed_by (drop l.behind l.parts)) l.path)

abbrev pub decreases-loop-behind : goal.decreases-loop-behind
decreases-loop-behind l = l.behind
