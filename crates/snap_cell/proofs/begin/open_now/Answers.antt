use Rattle.std.proofs.Common.{drop, inr}
use Rattle.left_right.specs.Sides.{view}
use Rattle.snap_cell.proofs.Steps.{opening_follows}
use Rattle.snap_cell.proofs.begin.open_now.Goals as goal

pub show_pending-requires : goal.show_pending-requires
show_pending-requires g c = inr c.requires

pub returns : goal.returns
returns g c =
    opening_follows c.args.desk.desk.shown.value c.show_pending.result.0.desk.shown.value
    (view c.args.desk.desk.place) (view c.show_pending.result.0.desk.place)
    (drop c.args.desk.behind c.args.desk.log.items) _ c.show_pending.result.1 c.requires
    c.show_pending.ensures
