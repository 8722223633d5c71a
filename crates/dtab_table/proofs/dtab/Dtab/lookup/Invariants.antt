use Rattle.std.proofs.Common.{◌≡◌, map, take}
use Rattle.name_tree.specs.Tree.{value_of}
use Rattle.dtab_table.specs.Dtab.{rewritten_by_each}
use Rattle.dtab_table.proofs.dtab.Dtab.lookup.Given as goal

abbrev pub invariant-loop-entry : goal.invariant-loop-entry
invariant-loop-entry g l = map value_of l.trees.items
    ≡ rewritten_by_each l.path (take l.entry-index l.entry-items)
