use Rattle.snap_cell.proofs.Steps.{admits}
use Rattle.snap_cell.proofs.begin.new_place.Goals as goal

pub reader-requires : goal.reader-requires
reader-requires g c = admits g.V.Absorb.state g.V.Absorb.applied g.V.Published.fits
    g.O.Operation.caller
