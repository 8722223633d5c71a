use Rattle.name_tree.proofs.Bridge.{branches_of-roll}
use Rattle.name_tree.proofs.tree.Branches.of.Goals as goal

pub returns : goal.returns
returns c = branches_of-roll c.args.items
