use Rattle.std.proofs.Common.{drop}
use Rattle.snap_cell.proofs.Steps.{publishes_pending}
use Rattle.snap_cell.proofs.rule.show_pending.Goals as goal

pub publish_as-requires : goal.publish_as-requires
publish_as-requires g c next is = publishes_pending g.V.Absorb.state g.V.Absorb.applied
    g.V.Published.fits g.O.Operation.caller _ _ c.args.desk.desk.shown.value next
    (drop c.args.desk.behind c.args.desk.log.items) c.requires is
