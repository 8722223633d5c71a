use Rattle.std.proofs.Common.{◌≡◌}
use Rattle.snap_cell.specs.Writers.{cell_written}
use Rattle.shared_tests.proofs.cell.publish_ones.Given as goal

abbrev pub invariant-loop-serial : goal.invariant-loop-serial
invariant-loop-serial g l = cell_written l.writer ≡ cell_written l.fn.writer
