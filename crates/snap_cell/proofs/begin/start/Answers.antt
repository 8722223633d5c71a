use Rattle.snap_cell.proofs.begin.start.Goals as goal

pub open_doors-requires-clause-new : goal.open_doors-requires-clause-new
open_doors-requires-clause-new g c =
    rw (c.in_ok-desk.ensures.0.1, c.of.ensures) (c.in_ok-all.ensures.1)
