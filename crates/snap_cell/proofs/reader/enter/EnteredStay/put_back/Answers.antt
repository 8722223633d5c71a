use Rattle.std.proofs.Common.{◌≡◌, Some}
use Rattle.std.proofs.Math.Logic.{∥∥₁_elim}
use base.Stored.{Coded-set}
use Rattle.left_right.specs.Sides.{view}
use Rattle.std.specs.Coded.{coded_option}
use Rattle.snap_cell.specs.contracts.kept.Origin as origin
use Rattle.snap_cell.proofs.reader.enter.EnteredStay.put_back.Goals as goal

pub put_back-requires : goal.put_back-requires
put_back-requires g c = ∥∥₁_elim c.requires
    (Coded-set (coded_option (origin.the_row g.row.V g.row.O).coded) _ _) (λ e. e)
