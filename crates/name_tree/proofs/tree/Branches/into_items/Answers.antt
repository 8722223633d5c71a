use Rattle.std.proofs.Common.{sym}
use Rattle.name_tree.proofs.Bridge.{branches_of-out}
use Rattle.name_tree.proofs.tree.Branches.into_items.Goals as goal

pub returns : goal.returns
returns c = sym (branches_of-out c.args.self)
