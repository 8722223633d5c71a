use Rattle.std.proofs.Common.{◌≤◌, length}
use Rattle.dtab_check.proofs.Covering.{CoverFrom}
use Rattle.dtab_check.proofs.covers.is_cover.Given as goal

abbrev pub invariant-loop-at : goal.invariant-loop-at
invariant-loop-at l =
    record { rest : CoverFrom l.labels l.others l.at; within : l.at ≤ length l.labels }

abbrev pub decreases-loop-at : goal.decreases-loop-at
decreases-loop-at l = l.at
