use Rattle.name_tree.proofs.Computing.{computes_paths, computes_trees}
use Rattle.name_tree.proofs.laws.computed_values_are_exact.Goals as goal

pub returns-clause-paths : goal.returns-clause-paths
returns-clause-paths c = computes_paths

pub returns-clause-trees : goal.returns-clause-trees
returns-clause-trees c = computes_trees
