use Rattle.std.proofs.Common.{◌≡◌, length}
use Rattle.snap_cell.specs.Origins.{origin_at}
use Rattle.snap_cell.specs.Views.{EachNew}
use Rattle.snap_cell.proofs.begin.new_readers.Given as goal

abbrev pub invariant-loop-number : goal.invariant-loop-number
invariant-loop-number g l = (length l.all.items ≡ l.number)
    × EachNew (origin_at l.first l.count l.known) l.all.items
