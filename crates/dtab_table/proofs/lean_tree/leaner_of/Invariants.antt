use Rattle.std.proofs.Common.{take}
use Rattle.dtab_table.specs.Kept.{AreLean}
use Rattle.dtab_table.proofs.lean_tree.leaner_of.Given as goal

abbrev pub invariant-loop-entry : goal.invariant-loop-entry
invariant-loop-entry l = AreLean (take l.entry-index l.entries) l.leaner.items
