-- What the code has found of a union.
use Rattle.name_tree.specs.declared.lean.LeanUnion.{LeanUnion}
use Rattle.name_tree.specs.Lean.{Parts}
use Rattle.name_tree.specs.Tree.{listed}

abbrev pub parts_in : LeanUnion → Parts
parts_in u = record { branches = listed u.branches.items; fails = u.fails; lacks = u.lacks }
