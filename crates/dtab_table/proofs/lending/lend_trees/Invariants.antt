use Rattle.std.proofs.Common.{◌≡◌, ◌++◌, map}
use Rattle.dtab_table.specs.Dtab.{rewrites}
use Rattle.dtab_table.specs.LeanTrees.{lean_trees, lent_trees}
use Rattle.dtab_table.specs.Rules.{rule_of}
use Rattle.dtab_table.proofs.LeanMatching.{left_from}
use Rattle.dtab_table.proofs.lending.lend_trees.Given as goal

abbrev pub invariant-loop-at : goal.invariant-loop-at
invariant-loop-at l = lent_trees l.path l.found.items
    ++ left_from l.entries l.path l.at-items l.at-index
    ≡ lean_trees (rewrites (map rule_of l.entries) l.path)
