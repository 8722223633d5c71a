use denote.Param.Send.{sendable}
use Rattle.std.proofs.Crossing.{crosses}
use Rattle.snap_cell.proofs.Crossing.{cell_handles}
use Rattle.shared_tests.proofs.cell.handles_cross.Goals as goal

pub may_be_moved-requires-send-T : goal.may_be_moved-requires-send-T
may_be_moved-requires-send-T g c = let v = c.type_bounds.send-V in let w = c.type_bounds.sync-V in
    let o = c.type_bounds.send-O in search (sendable, crosses, cell_handles) depth 40

pub may_be_shared-requires-sync-T : goal.may_be_shared-requires-sync-T
may_be_shared-requires-sync-T g c = let v = c.type_bounds.send-V in let w = c.type_bounds.sync-V in
    let o = c.type_bounds.send-O in search (sendable, crosses, cell_handles) depth 40
