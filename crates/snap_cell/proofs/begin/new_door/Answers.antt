use Rattle.snap_cell.proofs.Steps.{forks, merges}
use Rattle.snap_cell.proofs.begin.new_door.Goals as goal

pub tell-requires : goal.tell-requires
tell-requires g c = forks g.V.Absorb.state g.V.Absorb.applied g.V.Published.fits
    g.O.Operation.caller _ _

pub learn-requires-clause-rule : goal.learn-requires-clause-rule
learn-requires-clause-rule g c = merges g.V.Absorb.state g.V.Absorb.applied g.V.Published.fits
    g.O.Operation.caller _ _ _ _
