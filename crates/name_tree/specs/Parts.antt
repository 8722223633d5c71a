-- What the branches of a union that is read stand for.
use Rattle.std.specs.Prelude.{unwrap_or}
use Rattle.name_tree.specs.declared.union.WrittenBranch.{WrittenBranch}
use Rattle.name_tree.specs.declared.tree.Branch.{Branch}
use Rattle.name_tree.specs.Value.{BranchValue, one_whole}
use Rattle.name_tree.specs.Tree.{value_of}

abbrev pub part_of : WrittenBranch → BranchValue
part_of part = (part.weight, value_of part.tree)

-- a branch as a union keeps it
abbrev pub branch_in : WrittenBranch → Branch
branch_in part = record { weight = unwrap_or part.weight one_whole; tree = part.tree }
