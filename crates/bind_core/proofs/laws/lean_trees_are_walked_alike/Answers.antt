use Rattle.bind_core.proofs.Leaning.{are_walked_lean}
use Rattle.bind_core.proofs.laws.lean_trees_are_walked_alike.Goals as goal

pub returns : goal.returns
returns c = are_walked_lean
