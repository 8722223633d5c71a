use Rattle.dtab_table.proofs.Matches.{AgreeFrom}
use Rattle.dtab_table.proofs.prefix.Prefix.matches.Given as goal

abbrev pub invariant-loop-at : goal.invariant-loop-at
invariant-loop-at l = AgreeFrom l.label-items l.path l.at
