use Rattle.std.proofs.Common.{◌≡◌, take}
use Rattle.dtab_table.specs.Rules.{placed_from}
use Rattle.dtab_table.proofs.places.index_all.Given as goal

abbrev pub invariant-loop-at : goal.invariant-loop-at
invariant-loop-at l = l.index ≡ placed_from 0 (take l.at l.entries)
