use Rattle.std.proofs.Common.{◌≡◌}
use Rattle.snap_cell.specs.Views.{cell_of}
use Rattle.shared_tests.proofs.cell.watch.Given as goal

abbrev pub invariant-loop-turn : goal.invariant-loop-turn
invariant-loop-turn l = cell_of l.reader ≡ cell_of l.fn.reader
