use Rattle.std.proofs.Common.{◌≡◌, Some}
use Rattle.std.specs.Option.{ForSome}
use Rattle.left_right.specs.Sides.{view}
use Rattle.snap_cell.proofs.writer.value.enter_whole.Given as goal

abbrev pub invariant-loop : goal.invariant-loop
invariant-loop g l = ForSome l.door (λ d. view d.reader.place ≡ Some l.fn.origin)
