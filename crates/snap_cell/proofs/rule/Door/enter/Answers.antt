use Rattle.snap_cell.proofs.Steps.{enters}
use Rattle.snap_cell.proofs.rule.Door.enter.Goals as goal

pub enter_as-requires : goal.enter_as-requires
enter_as-requires g c x = enters _ _ _ _ _ _ x
