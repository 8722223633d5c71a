use Rattle.std.proofs.Common.{◌≡◌, ◌<◌, ℕ, Some, slice_get}
use Rattle.left_right.specs.Sides.{view}
use Rattle.snap_cell.specs.Views.{EachNew, IsThere}
use Rattle.snap_cell.specs.declared.reader.Reader.{Reader}
use Rattle.snap_cell.proofs.begin.open_doors.Given as goal

abbrev pub invariant-loop-reader : goal.invariant-loop-reader
invariant-loop-reader g l = EachNew l.fn.desk.desk.shown.value.origin l.reader-items
    × (l.desk.desk.shown ≡ l.fn.desk.desk.shown)
    × ((i : ℕ) (r : Reader g.row.V.Denot g.row.O.Denot g.row.Q.Denot g.row.V-State.Denot)
    → i < l.reader-index → slice_get l.reader-items i ≡ Some r → IsThere r)
    × ((l.desk.log ≡ l.fn.desk.log) × (l.desk.behind ≡ l.fn.desk.behind))
    × (view l.desk.desk.place ≡ view l.fn.desk.desk.place)
